-- The first fault of sides, of equations and of lists of equations.
use Rattle.std.proofs.Common.{◌≡◌, ℕ, ◌+◌, ◌<◌, inl, inr, List, slice_get, Option, Some, Ok, sym, subst, arith}
use Rattle.std.proofs.lemmas.Bool.{cases_lt}
use Rattle.kb_word.specs.Words.{Pair}
use Rattle.kb_record.specs.Tree.{Factors, Value}
use Rattle.kb_record.specs.Meaning.{word_meaning}
use Rattle.kb_record.specs.View.{places_of}
use Rattle.kb_fields.specs.FirstFaults.{IsFirstFault}
use Rattle.kb_fields.proofs.PlaceLemmas.{value_at-places_of}
use Rattle.kb_presfile.specs.Kinds.{equation_value}
use Rattle.kb_presfile.specs.Holds.{IsEquation}
use Rattle.kb_presfile.specs.Faults.{IsFaultOf, PlaceHasFault, HasFaultAt, IsMemoryOr}
use Rattle.kb_presfile.specs.declared.error.PresError.{PresError}
use Rattle.kb_presfile.proofs.CheckLemmas.{memory_or_weaker}
use Rattle.kb_presfile.proofs.NoFault.{no_fault_here}

module _ (names : List (List ℕ)) (inverses : List (Option ℕ)) where
  -- a side's fault is the equation's
  module _ (here : Option Value) (sides : Factors × Factors) (error : PresError) (is : here ≡ Some (equation_value sides)) where
    pub left_fault : IsMemoryOr (IsFaultOf (word_meaning names inverses sides.0)) error → IsMemoryOr (PlaceHasFault names inverses here) error
    left_fault fault =
        memory_or_weaker (IsFaultOf (word_meaning names inverses sides.0)) (PlaceHasFault names inverses here) (λ e has. inr (sides, is, inl has)) error fault

    pub right_fault : (word : List ℕ) → word_meaning names inverses sides.0 ≡ Ok word → IsMemoryOr (IsFaultOf (word_meaning names inverses sides.1)) error
        → IsMemoryOr (PlaceHasFault names inverses here) error
    right_fault word left fault =
        memory_or_weaker (IsFaultOf (word_meaning names inverses sides.1)) (PlaceHasFault names inverses here) (λ e has. inr (sides, is, inr (word, left, has))) error fault

  -- no place before this one has a fault
  abbrev pub NoneBefore : List (Option Value) → ℕ → Type 0
  NoneBefore ps n = (k : ℕ) (e : PresError) → k < n → HasFaultAt names inverses (places_of ps) k e → ⊥

  module _ (ps : List (Option Value)) (n : ℕ) (p : Option Value) (at : slice_get ps n ≡ Some p) (before : NoneBefore ps n) where
    -- a place's fault is the first of the list
    pub place_fault : (error : PresError) → IsMemoryOr (PlaceHasFault names inverses p) error → IsMemoryOr (IsFirstFault ◌<◌ (HasFaultAt names inverses (places_of ps))) error
    place_fault error fault = memory_or_weaker (PlaceHasFault names inverses p) (IsFirstFault ◌<◌ (HasFaultAt names inverses (places_of ps))) first error fault
      where
        first : (e : PresError) → PlaceHasFault names inverses p e → IsFirstFault ◌<◌ (HasFaultAt names inverses (places_of ps)) e
        first e has =
            let seen = value_at-places_of ps n p at in
            let P : Option Value → Type 0 = λ v. PlaceHasFault names inverses v e in
            record { check = n; found = (seen.1, subst P (sym seen.0) has); first = λ k other less found. before k other less found }

    -- one more place, which is an equation
    pub none_more : (pair : Pair) → IsEquation names inverses p pair → NoneBefore ps (n + 1)
    none_more pair is k e less fault = elim (cases_lt k n) [
      | inl sooner ↦ before k e sooner fault
      | inr last ↦ here (omega (arith, last, less))
    ]
      where
        here : k ≡ n → ⊥
        here same =
            let P : ℕ → Type 0 = λ j. HasFaultAt names inverses (places_of ps) j e in
            let Q : Option Value → Type 0 = λ v. PlaceHasFault names inverses v e in
            no_fault_here names inverses p pair e is (subst Q (value_at-places_of ps n p at).0 (subst P same fault).1)
