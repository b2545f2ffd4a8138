-- Generators with inverses and without, and their names.
use Rattle.std.proofs.Common.{◌≡◌, ◌≢◌, ℕ, zero, suc, ◌+◌, ◌<◌, ◌≤◌, true, List, [], length, Option, None, Some, refl, sym, ap, ◌∙◌, inl, inr, arith}
use Rattle.std.specs.Option.{is_some}
use Rattle.std.proofs.lemmas.Bool.{cases_lt, true≢false}
use Rattle.std.proofs.lemmas.Option.{none-some, slice_get-get_or}
use Rattle.kb_word.specs.Names.{name_of}
use Rattle.kb_word.specs.Relations.{inverse_letter}
use Rattle.kb_diff.specs.Groups.{EachInverts}

some_value : (found : Option ℕ) → is_some found ≡ true → (y : ℕ) × (found ≡ Some y)
some_value None is = absurd (true≢false (sym is))
some_value (Some y) is = (y, refl)

-- letters up to one have inverses, and so has the next
pub next_inverts : (inverses : List (Option ℕ)) (place : ℕ) → EachInverts place inverses
    → is_some (inverse_letter inverses (place + 1)) ≡ true → EachInverts (place + 1) inverses
next_inverts inverses place earlier is x positive within = elim (cases_lt place x) [
  | inl above ↦
      let same : place + 1 ≡ x = omega arith in
      some_value (inverse_letter inverses x) (ap (λ y. is_some (inverse_letter inverses y)) (sym same) ∙ is)
  | inr low ↦ earlier x positive low
]

-- what has an inverse isn't without
pub inverts-some : (inverses : List (Option ℕ)) (place x : ℕ) → EachInverts place inverses → 0 < x → x ≤ place
    → inverse_letter inverses x ≢ None
inverts-some inverses place x each positive within none =
    let has = each x positive within in none-some has.0 (sym none ∙ has.1)

-- each generator has a name
pub generator-named : (names : List (List ℕ)) (x : ℕ) → 0 < x → x ≤ length names → name_of names x ≢ None
generator-named names zero positive within none = omega (arith, positive)
generator-named names (suc place) positive within none =
    none-some _ (sym none ∙ slice_get-get_or names place [] (omega (arith, within)))
