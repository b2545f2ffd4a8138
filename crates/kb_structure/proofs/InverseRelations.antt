-- A letter and its inverse cancel in the group that is presented.
use Rattle.std.proofs.Common.{◌≡◌, ℕ, zero, suc, ◌+◌, List, [], ◌∷◌, ◌++◌, Option, Some, None, refl, ap, ◌∙◌, subst, arith}
use Rattle.std.specs.Prelude.{slice_get, option_and_then}
use Rattle.kb_word.specs.Words.{Pair, OneOf}
use Rattle.kb_word.specs.Congruence.{Congruent}
use Rattle.kb_word.specs.Relations.{inverse_letter, inverse_relations, relations_of}
use Rattle.kb_word.proofs.PathLemmas.{congruent_sides}

behind_append : (pairs more : List Pair) (pair : Pair) → OneOf more pair → OneOf (pairs ++ more) pair
behind_append [] more pair one = one
behind_append (first ∷ pairs) more pair one = let later = behind_append pairs more pair one in (suc later.0, later.1)

-- the inverse at a place says that the letter of the place cancels with it
relation_of_place : (first place y : ℕ) (inverses : List (Option ℕ)) → slice_get inverses place ≡ Some (Some y)
    → OneOf (inverse_relations first inverses) ((first + place) ∷ y ∷ [], [])
relation_of_place first place y [] is = absurd (cc is)
relation_of_place first zero y (None ∷ rest) is = absurd (cc is)
relation_of_place first zero y (Some z ∷ rest) is =
    let same : z ≡ y = cc is in
    let number : first ≡ first + 0 = omega arith in
    (0, ap (λ letter. Some ((letter ∷ z ∷ [], []))) number ∙ ap (λ letter. Some (((first + 0) ∷ letter ∷ [], []))) same)
relation_of_place first (suc place) y (None ∷ rest) is =
    let number : suc first + place ≡ first + suc place = omega arith in
    let P : ℕ → Type 0 = λ letter. OneOf (inverse_relations (suc first) rest) (letter ∷ y ∷ [], []) in
    subst P number (relation_of_place (suc first) place y rest is)
relation_of_place first (suc place) y (Some z ∷ rest) is =
    let number : suc first + place ≡ first + suc place = omega arith in
    let P : ℕ → Type 0 = λ letter. OneOf (inverse_relations (suc first) rest) (letter ∷ y ∷ [], []) in
    let later = subst P number (relation_of_place (suc first) place y rest is) in
    (suc later.0, later.1)

at_place : (inverses : List (Option ℕ)) (place y : ℕ) (o : Option (Option ℕ)) → slice_get inverses place ≡ o
    → option_and_then (λ inverse. inverse) o ≡ Some y → slice_get inverses place ≡ Some (Some y)
at_place inverses place y None e is = absurd (cc is)
at_place inverses place y (Some inverse) e is = e ∙ ap Some is

pub inverse_relation : (inverses : List (Option ℕ)) (equations : List Pair) (x y : ℕ) → inverse_letter inverses x ≡ Some y
    → OneOf (relations_of inverses equations) (x ∷ y ∷ [], [])
inverse_relation inverses equations zero y is = absurd (cc is)
inverse_relation inverses equations (suc place) y is =
    let at = at_place inverses place y (slice_get inverses place) refl is in
    let number : 1 + place ≡ suc place = omega arith in
    let P : ℕ → Type 0 = λ letter. OneOf (inverse_relations 1 inverses) (letter ∷ y ∷ [], []) in
    behind_append equations (inverse_relations 1 inverses) (suc place ∷ y ∷ [], [])
    (subst P number (relation_of_place 1 place y inverses at))

-- a letter followed by its inverse is the identity
pub letter_cancels : (inverses : List (Option ℕ)) (equations : List Pair) (x y : ℕ) → inverse_letter inverses x ≡ Some y
    → Congruent (OneOf (relations_of inverses equations)) (x ∷ y ∷ []) []
letter_cancels inverses equations x y is = congruent_sides (x ∷ y ∷ [], []) (inverse_relation inverses equations x y is)
