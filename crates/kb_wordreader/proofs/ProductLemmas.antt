-- A name behind the product so far.
use Rattle.std.proofs.Common.{◌≡◌, ℕ, ◌+◌, ◌<◌, ◌≤◌, true, false, List, [], ◌∷◌, ◌++◌, length, Option, None, Some, Ok, Err, nat_eq, nat_lt, refl, ap, ◌∙◌, arith, append-nil}
use Rattle.std.specs.Prelude.{codes, Result}
use Rattle.std.specs.Cmp.Lexicographic.{pointwise}
use Rattle.std.proofs.lemmas.Bool.Decides.{nat_tests}
use Rattle.kb_record.specs.Tree.{Factors, named, factor}
use Rattle.kb_record.specs.Faults.{Evaluates}
use Rattle.kb_record.specs.Meaning.{WordFault, unknown_generator, too_long, most_letters, and_then, product, name_meaning, product_meaning}
use Rattle.kb_record.specs.declared.error.WordError.{WordError}
use Rattle.kb_record.specs.declared.error.WordError.TheVariants.{Syntax, TooDeep, UnknownGenerator, NoInverse, WordTooLong, Memory}
use Rattle.kb_record.proofs.WordMeanings.{name_known, name_unknown}
use Rattle.kb_wordreader.specs.Letters.{letter_of}
use Rattle.kb_wordreader.specs.Products.{times_name}

pub not_more : (most n : ℕ) → n ≤ most → nat_lt most n ≡ false
not_more most n h = grind (arith, nat_tests)

more : (most n : ℕ) → most < n → nat_lt most n ≡ true
more most n h = grind (arith, nat_tests)

pub product_fits : (so_far w : List ℕ) → length so_far + length w ≤ most_letters → product so_far w ≡ Ok (so_far ++ w)
product_fits so_far w h = rw (not_more most_letters (length so_far + length w) h) refl

product_long : (so_far w : List ℕ) → most_letters < length so_far + length w → product so_far w ≡ Err too_long
product_long so_far w h = rw (more most_letters (length so_far + length w) h) refl

pub times_identity : (names : List (List ℕ)) (so_far text : List ℕ) → pointwise nat_eq text (codes "IdWord") ≡ true → length so_far ≤ most_letters → times_name names so_far text ≡ Ok so_far
times_identity names so_far text is few =
    let empty : name_meaning names text ≡ Ok [] = rw is refl in
    ap (λ r. and_then r (product so_far)) empty ∙ product_fits so_far [] (omega arith) ∙ ap Ok (append-nil so_far)

module _ (names : List (List ℕ)) (so_far text : List ℕ) (other : pointwise nat_eq text (codes "IdWord") ≡ false) where
  pub times_unknown : letter_of names text ≡ None → times_name names so_far text ≡ Err (unknown_generator text)
  times_unknown none = ap (λ r. and_then r (product so_far)) (name_unknown names text other none)

  pub times_letter : (x : ℕ) → letter_of names text ≡ Some x → length so_far + 1 ≤ most_letters → times_name names so_far text ≡ Ok (so_far ++ x ∷ [])
  times_letter x letter few = ap (λ r. and_then r (product so_far)) (name_known names text x other letter) ∙ product_fits so_far (x ∷ []) few

  pub times_long : (x : ℕ) → letter_of names text ≡ Some x → most_letters < length so_far + 1 → times_name names so_far text ≡ Err too_long
  times_long x letter long = ap (λ r. and_then r (product so_far)) (name_known names text x other letter) ∙ product_long so_far (x ∷ []) long

-- a name without power means what the name means
and_then_ok : (r : Result (List ℕ) WordFault) → and_then r Ok ≡ r
and_then_ok (Ok w) = refl
and_then_ok (Err fault) = refl

pub product_step : (names : List (List ℕ)) (inverses : List (Option ℕ)) (so_far text : List ℕ) (others : Factors)
    → product_meaning names inverses so_far (factor (named text None) others) ≡ and_then (times_name names so_far text) (λ w. product_meaning names inverses w others)
product_step names inverses so_far text others =
    ap (λ r. and_then (and_then r (product so_far)) (λ w. product_meaning names inverses w others)) (and_then_ok (name_meaning names text))

-- a fault stays the first
pub first_fault : (r : Result (List ℕ) WordFault) (next : List ℕ → Result (List ℕ) WordFault) (fault : WordError) → Evaluates r (Err fault) → Evaluates (and_then r next) (Err fault)
first_fault r next (UnknownGenerator name) h = ap (λ x. and_then x next) h
first_fault r next (NoInverse name) h = ap (λ x. and_then x next) h
first_fault r next WordTooLong h = ap (λ x. and_then x next) h
first_fault r next Memory h = tt
first_fault r next (Syntax at) h = absurd h
first_fault r next (TooDeep at) h = absurd h
