-- Which automata fit together, and which generators have inverses.
use Rattle.std.proofs.Common.{◌≡◌, ℕ, zero, suc, ◌+◌, ◌<◌, true, false, List, ◌∷◌, [], All, Option, None, Some, get_or, refl, sym, ap, ◌∙◌, subst, inl, inr, arith}
use Rattle.std.specs.Option.{is_some}
use Rattle.std.proofs.lemmas.Bool.{cases_lt, true≢false}
use Rattle.std.proofs.lemmas.Option.{none-some, slice_get_within, slice_get-get_or, get_or_from_slice_get}
use Rattle.std.proofs.lemmas.List.Elements.{All-nil, All-get_or, All-from_get_or}
use Rattle.kb_word.specs.Relations.{inverse_letter}
use Rattle.kb_fsa.specs.Language.{Automaton}
use Rattle.kb_fsa.specs.declared.alphabet.Alphabet.TheVariants.{Pair}
use Rattle.kb_diff.specs.Groups.{EachInverts}
use Rattle.kb_structure.specs.StructureOf.{multiplier_of}

some_value : (found : Option ℕ) → is_some found ≡ true → (y : ℕ) × (found ≡ Some y)
some_value None is = absurd (true≢false (sym is))
some_value (Some y) is = (y, refl)

-- letters up to one have inverses, and so has the next
pub next_inverts : (inverses : List (Option ℕ)) (place : ℕ) → EachInverts place inverses
    → is_some (inverse_letter inverses (place + 1)) ≡ true → EachInverts (place + 1) inverses
next_inverts inverses place earlier is x positive within = elim (cases_lt place x) [
  | inl above ↦
      let same : place + 1 ≡ x = omega arith in
      some_value (inverse_letter inverses x) (ap (λ y. is_some (inverse_letter inverses y)) (sym same) ∙ is)
  | inr low ↦ earlier x positive low
]

-- a letter has no inverse
pub one_lacks : (inverses : List (Option ℕ)) (n place : ℕ) → place < n
    → is_some (inverse_letter inverses (place + 1)) ≡ false → ¬ EachInverts n inverses
one_lacks inverses n place within is each =
    let has = each (place + 1) (omega arith) (omega (arith, within)) in true≢false (sym (ap is_some has.1) ∙ is)

abbrev pub ReadsPairs : ℕ → Automaton → Type 0
ReadsPairs n automaton = automaton.alphabet ≡ Pair n

-- all of the automata read pairs, and so does the multiplier of each generator
pub multipliers_read : (n : ℕ) (multipliers : List Automaton) → All (ReadsPairs n) multipliers → (x : ℕ) (multiplier : Automaton)
    → multiplier_of multipliers x ≡ Some multiplier → ReadsPairs n multiplier
multipliers_read n multipliers all zero multiplier is = absurd (none-some multiplier is)
multipliers_read n multipliers all (suc place) multiplier is =
    subst (ReadsPairs n) (get_or_from_slice_get multipliers place multiplier multiplier is)
    (All-get_or (ReadsPairs n) multipliers place multiplier (slice_get_within multipliers place multiplier is) all)

-- and the other way round
pub all_read : (n : ℕ) (multipliers : List Automaton)
    → ((x : ℕ) (multiplier : Automaton) → multiplier_of multipliers x ≡ Some multiplier → ReadsPairs n multiplier)
    → All (ReadsPairs n) multipliers
all_read n [] each = All-nil (ReadsPairs n)
all_read n (first ∷ rest) each =
    All-from_get_or (ReadsPairs n) (first ∷ rest) first
    (λ place within. each (suc place) (get_or (first ∷ rest) place first) (slice_get-get_or (first ∷ rest) place first within))
