-- Words are kept one after another, and what is answered then.
use Rattle.std.proofs.Common.{◌≡◌, ℕ, suc, ◌<◌, ◌≤◌, List, [], ◌∷◌, ◌++◌, length, All, refl, sym, ap, ◌∙◌, subst, append_assoc, length-append, arith}
use Rattle.std.specs.List.{Contains}
use Rattle.std.proofs.lemmas.List.{append-nil, get_or_append_left}
use Rattle.std.proofs.lemmas.List.Elements.{All-cons, All-contains, All-head, All-nil, All-push, All-tail, Contains-append_left, Contains-push}
use Rattle.kb_diff.specs.declared.grow.Grow.{Grow}
use Rattle.kb_diff.specs.declared.grow.Grow.TheVariants.{Grew, Same, Full}
use Rattle.kb_diff.specs.Keeping.{Keeps, none_seen, known, added, Grows, all_known, grown, no_room, KeepsOne, one_known, one_added, one_too_many, IsFull, both_answers}

abbrev Words : Type 0
Words = List (List ℕ)

All-front : {X : Type 0} (P : X → Type 0) (xs ys : List X) → All P (xs ++ ys) → All P xs
All-front P xs ys all k d within =
    let long = length-append xs ys in subst P (get_or_append_left xs ys d k within) (all k d (omega arith))

pub Keeps-append : {old seen between rest new : Words} → Keeps old seen between → Keeps between rest new → Keeps old (seen ++ rest) new
Keeps-append none_seen h = h
Keeps-append (known has g) h = known has (Keeps-append g h)
Keeps-append (added fresh g) h = added fresh (Keeps-append g h)

-- what is kept stays where it is
pub Keeps-front : {old seen new : Words} → Keeps old seen new → (rest : Words) × (new ≡ old ++ rest)
Keeps-front {old = old} none_seen = ([], sym (append-nil old))
Keeps-front (known has g) = Keeps-front g
Keeps-front {old = old} (added {word = word} fresh g) =
    let later = Keeps-front g in (word ∷ later.0, later.1 ∙ append_assoc old (word ∷ []) later.0)

pub Keeps-contains : {old seen new : Words} (word : List ℕ) → Keeps old seen new → Contains old word → Contains new word
Keeps-contains {old = old} word keeps has =
    let front = Keeps-front keeps in
    let P : Words → Type 0 = λ words. Contains words word in
    subst P (sym front.1) (Contains-append_left old front.0 word has)

-- each word that was seen is kept
pub Keeps-seen : {old seen new : Words} → Keeps old seen new → All (Contains new) seen
Keeps-seen {new = new} none_seen = All-nil (Contains new)
Keeps-seen {new = new} (known {seen = seen} {word = word} has g) =
    All-cons (Contains new) word seen (Keeps-contains word g has) (Keeps-seen g)
Keeps-seen {old = old} {new = new} (added {seen = seen} {word = word} fresh g) =
    All-cons (Contains new) word seen (Keeps-contains word g (Contains-push old word)) (Keeps-seen g)

-- words that are all kept change nothing
pub Keeps-all : (old seen : Words) → All (Contains old) seen → Keeps old seen old
Keeps-all old [] all = none_seen
Keeps-all old (word ∷ seen) all =
    known (All-head (Contains old) word seen all) (Keeps-all old seen (All-tail (Contains old) word seen all))

-- ---- what is answered

pub grows_none : (most : ℕ) (old : Words) → Grows most [] old old Same
grows_none most old = all_known (All-nil (Contains old)) refl

module _ (most : ℕ) (seen old between : Words) where
  pub grows_keeps : (answer : Grow) → Grows most seen old between answer → ¬ IsFull answer → Keeps old seen between
  grows_keeps Same (all_known all same) room =
      let P : Words → Type 0 = λ words. Keeps old seen words in subst P (sym same) (Keeps-all old seen all)
  grows_keeps Grew (grown not_all keeps within) room = keeps
  grows_keeps (Full word place) grows room = absurd (room tt)

  module _ (word : List ℕ) (new : Words) where
    keeps_known : Keeps old seen between → Contains between word → new ≡ between → Keeps old (seen ++ word ∷ []) new
    keeps_known keeps has same =
        let P : Words → Type 0 = λ words. Keeps old (seen ++ word ∷ []) words in
        subst P (sym same) (Keeps-append keeps (known has none_seen))

    keeps_added : Keeps old seen between → ¬ Contains between word → new ≡ between ++ word ∷ [] → Keeps old (seen ++ word ∷ []) new
    keeps_added keeps fresh longer =
        let P : Words → Type 0 = λ words. Keeps old (seen ++ word ∷ []) words in
        subst P (sym longer) (Keeps-append keeps (added fresh none_seen))

    not_all_before : ¬ All (Contains old) seen → ¬ All (Contains old) (seen ++ word ∷ [])
    not_all_before not_all all = not_all (All-front (Contains old) seen (word ∷ []) all)

    not_all_with : ¬ Contains old word → ¬ All (Contains old) (seen ++ word ∷ [])
    not_all_with fresh all =
        fresh (All-contains (Contains old) (seen ++ word ∷ []) word all (Contains-push seen word))

    longer_fits : length between < most → new ≡ between ++ word ∷ [] → length new ≤ most
    longer_fits less longer =
        let long = length-append between (word ∷ []) in
        let same = ap length longer in
        omega arith

    full_with : (place : ℕ) → place ≡ suc (length seen) → Keeps old seen between → ¬ Contains between word → length between ≡ most → new ≡ between
        → Grows most (seen ++ word ∷ []) old new (Full word place)
    full_with place at keeps fresh count same =
        let P : ℕ → Type 0 = λ k. Grows most (seen ++ word ∷ []) old new (Full word k) in
        let Q : Words → Type 0 = λ words. Keeps old seen words in
        let N : Words → Type 0 = λ words. ¬ Contains words word in
        subst P (sym at)
        (no_room seen word refl (subst Q (sym same) keeps) (ap length same ∙ count) (subst N (sym same) fresh))

    -- one word more is seen
    pub grows_more : (answer one : Grow) (place : ℕ) → place ≡ suc (length seen) → Grows most seen old between answer → ¬ IsFull answer
        → KeepsOne most word place between new one → Grows most (seen ++ word ∷ []) old new (both_answers answer one)
    grows_more Same Same place at (all_known all same) room (one_known has kept) =
        let P : Words → Type 0 = λ words. Contains words word in
        all_known (All-push (Contains old) seen word all (subst P same has)) (kept ∙ same)
    grows_more Same Grew place at (all_known all same) room (one_added fresh less longer) =
        let P : Words → Type 0 = λ words. ¬ Contains words word in
        grown (not_all_with (subst P same fresh)) (keeps_added (grows_keeps Same (all_known all same) room) fresh longer) (longer_fits less longer)
    grows_more Grew Same place at (grown not_all keeps within) room (one_known has kept) =
        let same = ap length kept in
        grown (not_all_before not_all) (keeps_known keeps has kept) (omega arith)
    grows_more Grew Grew place at (grown not_all keeps within) room (one_added fresh less longer) =
        grown (not_all_before not_all) (keeps_added keeps fresh longer) (longer_fits less longer)
    grows_more Same (Full last number) place at grows room (one_too_many fresh count kept) =
        full_with place at (grows_keeps Same grows room) fresh count kept
    grows_more Grew (Full last number) place at grows room (one_too_many fresh count kept) =
        full_with place at (grows_keeps Grew grows room) fresh count kept
    grows_more (Full last number) one place at grows room more = absurd (room tt)

-- ---- what the answers say

-- `Same` is answered where all are kept already
pub all_known_from_same : (most : ℕ) (seen old new : Words) → Grows most seen old new Same → All (Contains old) seen
all_known_from_same most seen old new (all_known all same) = all

-- and only there
pub same_from_all_known : (most : ℕ) (seen old new : Words) (answer : Grow) → Grows most seen old new answer → All (Contains old) seen → answer ≡ Same
same_from_all_known most seen old new Same grows all = refl
same_from_all_known most seen old new Grew (grown not_all keeps within) all = absurd (not_all all)
same_from_all_known most seen old new (Full last number) (no_room before word is keeps count fresh) all =
    let P : Words → Type 0 = λ words. Contains words word in
    let among = subst P (sym is) (Contains-push before word) in
    absurd (fresh (Keeps-contains word keeps (All-contains (Contains old) seen word all among)))
