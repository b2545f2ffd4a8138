-- Two occurrences of words in one word: they are apart, or the later one begins within the earlier one, and
-- then they overlap there.
use Rattle.std.proofs.Common.{◌≡◌, ℕ, zero, suc, ◌+◌, ◌-◌, ◌<◌, ◌≤◌, ◌⊎◌, List, [], ◌∷◌, ◌++◌, length, take, drop, Some, refl, sym, ◌∙◌, ap, inl, inr, arith, append_assoc, length-append, zero-add}
use Rattle.std.specs.Prelude.{slice_get}
use Rattle.std.proofs.Math.Nat.{suc-add}
use Rattle.std.proofs.lemmas.List.{drop-drop, drop_at, take_at}
use Rattle.std.proofs.lemmas.Bool.{cases_lt}
use Rattle.kb_word.specs.Overlap.{Overlaps}

-- where two words are front ++ back in two ways, the longer front is the shorter one with a middle
pub record Divided (front back longer shorter : List ℕ) : Type 0 where
  pub middle : List ℕ
  pub longer_is : longer ≡ front ++ middle
  pub back_is : back ≡ middle ++ shorter

pub same-head : {x y : ℕ} {u v : List ℕ} → x ∷ u ≡ y ∷ v → x ≡ y
same-head e = cc

pub same-tail : {x y : ℕ} {u v : List ℕ} → x ∷ u ≡ y ∷ v → u ≡ v
same-tail e = cc

-- Levi's lemma
pub divided : (front back longer shorter : List ℕ) → front ++ back ≡ longer ++ shorter → length front ≤ length longer
    → Divided front back longer shorter
divided [] back longer shorter e fits = record { middle = longer; longer_is = refl; back_is = e }
divided (x ∷ front) back [] shorter e fits = absurd (omega arith)
divided (x ∷ front) back (y ∷ longer) shorter e fits =
    let rest = divided front back longer shorter (same-tail e) (omega arith) in
    record { middle = rest.middle; longer_is = cc; back_is = rest.back_is }

-- two words begin alike as far as both go, and each word's rest is what the other has more, and one rest
pub record Shared (l after m behind : List ℕ) : Type 0 where
  pub rest : List ℕ
  pub agree : (k : ℕ) → k < length l → k < length m → slice_get l k ≡ slice_get m k
  pub after_is : after ≡ drop (length l) m ++ rest
  pub behind_is : behind ≡ drop (length m) l ++ rest

drop_nil : (n : ℕ) → drop n [] ≡ ◌++◌ {A = ℕ} [] []
drop_nil zero = refl
drop_nil (suc n) = refl

agree-more : (x y : ℕ) (l m : List ℕ) → x ≡ y → ((k : ℕ) → k < length l → k < length m → slice_get l k ≡ slice_get m k)
    → (k : ℕ) → k < length (x ∷ l) → k < length (y ∷ m) → slice_get (x ∷ l) k ≡ slice_get (y ∷ m) k
agree-more x y l m e agree zero low high = ap (λ z. Some z) e
agree-more x y l m e agree (suc k) low high = agree k (omega arith) (omega arith)

pub shared : (l after m behind : List ℕ) → l ++ after ≡ m ++ behind → Shared l after m behind
shared [] after m behind e =
    record { rest = behind; agree = λ k low high. absurd (omega arith); after_is = e; behind_is = rw drop_nil refl }
shared (x ∷ l) after [] behind e =
    record { rest = after; agree = λ k low high. absurd (omega arith); after_is = refl; behind_is = sym e }
shared (x ∷ l) after (y ∷ m) behind e =
    let tails = shared l after m behind (same-tail e) in
    record { rest = tails.rest; agree = agree-more x y l m (same-head e) tails.agree; after_is = tails.after_is; behind_is = tails.behind_is }

-- m begins within l: they overlap at a place, with one rest after both
pub record Within (before l after front m behind : List ℕ) : Type 0 where
  pub place : ℕ
  pub rest : List ℕ
  pub overlaps : Overlaps l m place
  pub front_is : front ≡ before ++ take place l
  pub after_is : after ≡ drop (length l - place) m ++ rest
  pub behind_is : behind ≡ drop (place + length m) l ++ rest

-- m begins after l
pub record Apart (before l after front m behind : List ℕ) : Type 0 where
  pub between : List ℕ
  pub front_is : front ≡ before ++ l ++ between
  pub after_is : after ≡ between ++ m ++ behind

slice_get-append : (xs ys : List ℕ) (k : ℕ) → slice_get (xs ++ ys) (length xs + k) ≡ slice_get ys k
slice_get-append [] ys k = rw zero-add refl
slice_get-append (x ∷ xs) ys k = rw suc-add (slice_get-append xs ys k)

-- l begins with the letters up to the overlap, and then has those that m shares
within-shared : (before l after front m behind d q : List ℕ) → front ≡ before ++ d → l ≡ d ++ q → length d < length l
    → Shared q after m behind → Within before l after front m behind
within-shared before l after front m behind d q front_is l_is inside s =
    let long : length l ≡ length d + length q = ap length l_is ∙ length-append d q in
    let taken : take (length d) l ≡ d = ap (take (length d)) l_is ∙ take_at d q (length d) refl in
    let dropped : drop (length d) l ≡ q = ap (drop (length d)) l_is ∙ drop_at d q (length d) refl in
    let left : length l - length d ≡ length q = omega arith in
    let past : drop (length m) (drop (length d) l) ≡ drop (length d + length m) l = drop-drop (length m) (length d) l in
    record {
      place = length d;
      rest = s.rest;
      overlaps = record {
        within = inside;
        agree = λ k low high.
            ap (λ w. slice_get w (length d + k)) l_is ∙ slice_get-append d q k ∙ s.agree k (omega arith) high;
      };
      front_is = front_is ∙ ap (λ w. before ++ w) (sym taken);
      after_is = s.after_is ∙ ap (λ n. drop n m ++ s.rest) (sym left);
      behind_is = s.behind_is ∙ ap (λ w. w ++ s.rest) (ap (drop (length m)) (sym dropped) ∙ past);
    }

within : (before l after front m behind : List ℕ) → before ++ l ++ after ≡ front ++ m ++ behind → length before ≤ length front
    → length front < length (before ++ l) → Within before l after front m behind
within before l after front m behind e low high =
    let first = divided before (l ++ after) front (m ++ behind) (sym (append_assoc before l after) ∙ e ∙ append_assoc front m behind) low in
    let d = first.middle in
    let long : length front ≡ length before + length d = ap length first.longer_is ∙ length-append before d in
    let total : length (before ++ l) ≡ length before + length l = length-append before l in
    let inside : length d < length l = omega arith in
    let second = divided d (m ++ behind) l after (sym first.back_is) (omega arith) in
    within-shared before l after front m behind d second.middle first.longer_is second.longer_is inside
    (shared second.middle after m behind (sym second.back_is))

apart : (before l after front m behind : List ℕ) → before ++ l ++ after ≡ front ++ m ++ behind
    → length (before ++ l) ≤ length front → Apart before l after front m behind
apart before l after front m behind e low =
    let first = divided (before ++ l) after front (m ++ behind) (e ∙ append_assoc front m behind) low in
    record { between = first.middle; front_is = first.longer_is; after_is = first.back_is ∙ sym (append_assoc first.middle m behind) }

-- two occurrences, of which the second doesn't begin earlier
pub cases_occurrences : (before l after front m behind : List ℕ) → before ++ l ++ after ≡ front ++ m ++ behind
    → length before ≤ length front → Apart before l after front m behind ⊎ Within before l after front m behind
cases_occurrences before l after front m behind e low =
    elim (cases_lt (length front) (length (before ++ l))) [
      | inl high ↦ inr (within before l after front m behind e low high)
      | inr high ↦ inl (apart before l after front m behind e high)
    ]
