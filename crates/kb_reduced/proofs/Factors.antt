-- Factors of a word: the whole word, or a factor without the first letter or without the last.
use Rattle.std.proofs.Common.{◌≡◌, ℕ, ◌-◌, List, [], ◌∷◌, ◌++◌, length, take, drop, refl, sym, ap, ◌∙◌, subst, arith, append_assoc, length-append}
use Rattle.std.proofs.lemmas.List.{append-nil, take_at}
use Rattle.kb_word.specs.Words.{Pair}
use Rattle.kb_word.specs.Rewriting.{IsIrreducible}
use Rattle.kb_reduced.specs.Minimal.{PartsAreIrreducible}
use Rattle.kb_rules.proofs.Lists.{FromEnd, from_end}
use Rattle.kb_rules.proofs.Lists.FromEnd.{empty, last}

-- a factor of an irreducible word is irreducible
pub irreducible_factor : {allowed : Pair → Type 0} (front w rest : List ℕ) → IsIrreducible allowed (front ++ w ++ rest)
    → IsIrreducible allowed w
irreducible_factor front w rest irreducible before pair after one whole =
    let e : front ++ w ++ rest ≡ (front ++ before) ++ pair.0 ++ (after ++ rest) =
    ap (λ u. front ++ u ++ rest) whole ∙ simp append_assoc in
    irreducible (front ++ before) pair (after ++ rest) one e

-- an irreducible word is irreducible without its last letter
pub irreducible_before_last : {allowed : Pair → Type 0} (w : List ℕ) → IsIrreducible allowed w
    → IsIrreducible allowed (take (length w - 1) w)
irreducible_before_last {allowed = allowed} w irreducible = by_end w (from_end w) irreducible
  where
    by_end : (u : List ℕ) → FromEnd u → IsIrreducible allowed u → IsIrreducible allowed (take (length u - 1) u)
    by_end u empty h = h
    by_end u (last front x) h =
        let P : List ℕ → Type 0 = λ v. IsIrreducible allowed v in
        let long : length front ≡ length (front ++ x ∷ []) - 1 = omega (arith, length-append front (x ∷ [])) in
        let is_front : take (length (front ++ x ∷ []) - 1) (front ++ x ∷ []) ≡ front = take_at front (x ∷ []) _ long in
        subst P (sym is_front) (irreducible_factor [] front (x ∷ []) h)

-- an irreducible word is irreducible without its first letter
pub irreducible_behind_first : {allowed : Pair → Type 0} (w : List ℕ) → IsIrreducible allowed w
    → IsIrreducible allowed (drop 1 w)
irreducible_behind_first [] irreducible = irreducible
irreducible_behind_first {allowed = allowed} (x ∷ w) irreducible =
    let P : List ℕ → Type 0 = λ v. IsIrreducible allowed v in
    irreducible_factor (x ∷ []) w [] (subst P (ap (λ v. x ∷ v) (sym (append-nil w))) irreducible)

-- a left side in a word whose parts are irreducible doesn't begin behind the first letter
none_before : {allowed : Pair → Type 0} (w before : List ℕ) (pair : Pair) (after : List ℕ) → allowed pair
    → PartsAreIrreducible allowed w → w ≡ before ++ pair.0 ++ after → before ≡ []
none_before w [] pair after one parts whole = refl
none_before w (x ∷ before) pair after one parts whole =
    absurd (parts.behind_first before pair after one (ap (drop 1) whole))

-- nor does it end before the last
none_after : {allowed : Pair → Type 0} (w before : List ℕ) (pair : Pair) (after : List ℕ) → FromEnd after → allowed pair
    → PartsAreIrreducible allowed w → w ≡ before ++ pair.0 ++ after → after ≡ []
none_after w before pair after empty one parts whole = refl
none_after w before pair after (last front x) one parts whole =
    let split : w ≡ (before ++ pair.0 ++ front) ++ x ∷ [] = whole ∙ simp append_assoc in
    let long : length (before ++ pair.0 ++ front) ≡ length w - 1 =
    omega (arith, ap length split, length-append (before ++ pair.0 ++ front) (x ∷ [])) in
    let is : take (length w - 1) w ≡ before ++ pair.0 ++ front =
    ap (take (length w - 1)) split ∙ take_at (before ++ pair.0 ++ front) (x ∷ []) (length w - 1) long in
    absurd (parts.before_last before pair front one is)

-- so it is the whole word
pub whole_word : {allowed : Pair → Type 0} (w before : List ℕ) (pair : Pair) (after : List ℕ) → allowed pair
    → PartsAreIrreducible allowed w → w ≡ before ++ pair.0 ++ after → w ≡ pair.0
whole_word w before pair after one parts whole =
    let front : before ≡ [] = none_before w before pair after one parts whole in
    let rest : after ≡ [] = none_after w before pair after (from_end after) one parts whole in
    whole ∙ ap (λ u. u ++ pair.0 ++ after) front ∙ ap (λ u. pair.0 ++ u) rest ∙ append-nil pair.0
