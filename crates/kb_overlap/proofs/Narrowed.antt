-- Two replacements in one word that both leave its last letter, or both its first, are made in the word without it.
use Rattle.std.proofs.Common.{◌≡◌, ◌≢◌, ℕ, ◌<◌, List, [], ◌∷◌, ◌++◌, length, refl, sym, ◌∙◌, ap, arith, append_assoc, length-append}
use Rattle.std.proofs.lemmas.List.{append-nil, same_from_push}
use Rattle.kb_word.specs.Words.{Pair}
use Rattle.kb_word.specs.Congruence.{Replaces}
use Rattle.kb_rules.proofs.Lists.{FromEnd, from_end}
use Rattle.kb_rules.proofs.Lists.FromEnd.{empty, last}
use Rattle.kb_overlap.proofs.Occurrences.{same-head, same-tail}

-- the replacements that lead from w to u and to v are made in a factor that is shorter
pub record Narrowed (allowed : Pair → Type 0) (w u v : List ℕ) : Type 0 where
  pub before : List ℕ
  pub inner : List ℕ
  pub after : List ℕ
  pub left : List ℕ
  pub right : List ℕ
  pub whole_is : w ≡ before ++ inner ++ after
  pub left_is : u ≡ before ++ left ++ after
  pub right_is : v ≡ before ++ right ++ after
  pub to_left : Replaces allowed inner left
  pub to_right : Replaces allowed inner right
  pub shorter : length inner < length w

without_first : {allowed : Pair → Type 0} {w u v : List ℕ} (f : Replaces allowed w u) (g : Replaces allowed w v)
    (b c : List ℕ) → f.before ≡ b → g.before ≡ c → f.before ≢ [] → g.before ≢ [] → Narrowed allowed w u v
without_first f g [] c e d some other = absurd (some e)
without_first f g (x ∷ b) [] e d some other = absurd (other d)
without_first {w = w} {u = u} {v = v} f g (x ∷ b) (y ∷ c) e d some other =
    let inner = b ++ f.pair.0 ++ f.after in
    let left = b ++ f.pair.1 ++ f.after in
    let right = c ++ g.pair.1 ++ g.after in
    let one : w ≡ x ∷ inner = f.from ∙ ap (λ front. front ++ f.pair.0 ++ f.after) e in
    let two : w ≡ y ∷ (c ++ g.pair.0 ++ g.after) = g.from ∙ ap (λ front. front ++ g.pair.0 ++ g.after) d in
    let to : u ≡ x ∷ left = f.to ∙ ap (λ front. front ++ f.pair.1 ++ f.after) e in
    let to' : v ≡ y ∷ right = g.to ∙ ap (λ front. front ++ g.pair.1 ++ g.after) d in
    let head : x ≡ y = same-head (sym one ∙ two) in
    record {
      before = x ∷ [];
      inner = inner;
      after = [];
      left = left;
      right = right;
      whole_is = one ∙ ap (λ rest. x ∷ rest) (sym (append-nil inner));
      left_is = to ∙ ap (λ rest. x ∷ rest) (sym (append-nil left));
      right_is = to' ∙ ap (λ z. z ∷ right) (sym head) ∙ ap (λ rest. x ∷ rest) (sym (append-nil right));
      to_left = record { before = b; pair = f.pair; after = f.after; is_allowed = f.is_allowed; from = refl; to = refl };
      to_right = record { before = c; pair = g.pair; after = g.after; is_allowed = g.is_allowed; from = same-tail (sym one ∙ two); to = refl };
      shorter = let long : length w ≡ length (x ∷ inner) = ap length one in omega arith;
    }

-- both begin after the first letter
pub narrowed_by_first : {allowed : Pair → Type 0} {w u v : List ℕ} (f : Replaces allowed w u) (g : Replaces allowed w v)
    → f.before ≢ [] → g.before ≢ [] → Narrowed allowed w u v
narrowed_by_first f g = without_first f g f.before g.before refl refl

without_last : {allowed : Pair → Type 0} {w u v : List ℕ} (f : Replaces allowed w u) (g : Replaces allowed w v)
    (b c : List ℕ) → FromEnd b → FromEnd c → f.after ≡ b → g.after ≡ c → f.after ≢ [] → g.after ≢ [] → Narrowed allowed w u v
without_last f g b c empty second e d some other = absurd (some e)
without_last f g b c (last front x) empty e d some other = absurd (other d)
without_last {w = w} {u = u} {v = v} f g b c (last front x) (last part y) e d some other =
    let inner = f.before ++ f.pair.0 ++ front in
    let left = f.before ++ f.pair.1 ++ front in
    let right = g.before ++ g.pair.1 ++ part in
    let one : w ≡ inner ++ x ∷ [] =
    f.from ∙ ap (λ rest. f.before ++ f.pair.0 ++ rest) e ∙ sym (append_assoc (f.before ++ f.pair.0) front (x ∷ [])) in
    let two : w ≡ (g.before ++ g.pair.0 ++ part) ++ y ∷ [] =
    g.from ∙ ap (λ rest. g.before ++ g.pair.0 ++ rest) d ∙ sym (append_assoc (g.before ++ g.pair.0) part (y ∷ [])) in
    let to : u ≡ left ++ x ∷ [] =
    f.to ∙ ap (λ rest. f.before ++ f.pair.1 ++ rest) e ∙ sym (append_assoc (f.before ++ f.pair.1) front (x ∷ [])) in
    let to' : v ≡ right ++ y ∷ [] =
    g.to ∙ ap (λ rest. g.before ++ g.pair.1 ++ rest) d ∙ sym (append_assoc (g.before ++ g.pair.1) part (y ∷ [])) in
    let same = same_from_push inner (g.before ++ g.pair.0 ++ part) x y (sym one ∙ two) in
    record {
      before = [];
      inner = inner;
      after = x ∷ [];
      left = left;
      right = right;
      whole_is = one;
      left_is = to;
      right_is = to' ∙ ap (λ z. right ++ z ∷ []) (sym same.1);
      to_left = record { before = f.before; pair = f.pair; after = front; is_allowed = f.is_allowed; from = refl; to = refl };
      to_right = record { before = g.before; pair = g.pair; after = part; is_allowed = g.is_allowed; from = same.0; to = refl };
      shorter = let long : length w ≡ length (inner ++ x ∷ []) = ap length one in omega (arith, length-append inner (x ∷ []));
    }

-- both end before the last letter
pub narrowed_by_last : {allowed : Pair → Type 0} {w u v : List ℕ} (f : Replaces allowed w u) (g : Replaces allowed w v)
    → f.after ≢ [] → g.after ≢ [] → Narrowed allowed w u v
narrowed_by_last f g = without_last f g f.after g.after (from_end f.after) (from_end g.after) refl refl
