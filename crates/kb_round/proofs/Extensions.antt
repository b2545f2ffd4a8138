-- A word and its extension by a generator lead by kept differences to the generator's normal form.
use Rattle.std.proofs.Common.{ℕ, ◌<◌, ◌≤◌, List, [], ◌∷◌, ◌++◌, length, take, sym, subst, inl, inr, arith, length-append}
use Rattle.std.specs.List.{Contains}
use Rattle.std.proofs.lemmas.Bool.{cases_lt}
use Rattle.std.proofs.lemmas.List.{append-nil, take_all, take-append-le}
use Rattle.std.proofs.lemmas.List.Elements.{All-take}
use Rattle.kb_word.specs.Words.{Pair, OneOf}
use Rattle.kb_word.specs.Relations.{IsOver}
use Rattle.kb_word.specs.Rewriting.{IsIrreducible, NormalForm}
use Rattle.kb_word.specs.declared.presentation.Presentation.{Presentation}
use Rattle.kb_word.proofs.PathLemmas.{congruent_symmetric}
use Rattle.kb_diff.specs.Groups.{group_of}
use Rattle.kb_diff.specs.Steps.{Leads}
use Rattle.kb_diff.proofs.GroupLemmas.{empty_is_irreducible}
use Rattle.kb_structure.proofs.Words.{congruent_behind}
use Rattle.kb_round.proofs.Elements.{AreSame, IsCompleteGroup, cancel_front, normal_of_same, one_irreducible, same_as_normal}
use Rattle.kb_round.proofs.KeptDifferences.{AreKept, leads_where_kept}

module _ (presentation : Presentation) (rules : List Pair) (is : IsCompleteGroup presentation rules) (words : List (List ℕ))
    (has_empty : Contains words []) (x : ℕ) (has_form : (f : List ℕ) → NormalForm rules (x ∷ []) f → Contains words f)
    (u : List ℕ) (over : IsOver presentation.n u) where
  -- within the word the difference is empty
  within_kept : (front e : List ℕ) → IsOver presentation.n front → IsIrreducible (OneOf rules) e → AreSame presentation (front ++ e) front
      → Contains words e
  within_kept front e front_over irreducible same =
      let P : List ℕ → Type 0 = λ w. AreSame presentation (front ++ e) w in
      let none = cancel_front presentation rules is front e [] front_over (subst P (sym (append-nil front)) same) in
      let empty = empty_is_irreducible presentation.order rules is.complete.decreasing in
      let Q : List ℕ → Type 0 = λ w. Contains words w in
      subst Q (sym (one_irreducible presentation rules is e [] none irreducible empty)) has_empty

  -- behind it the generator's normal form
  behind_kept : (e : List ℕ) → IsIrreducible (OneOf rules) e → AreSame presentation (u ++ e) (u ++ x ∷ []) → Contains words e
  behind_kept e irreducible same =
      let letter = cancel_front presentation rules is u e (x ∷ []) over same in
      has_form e (normal_of_same presentation rules is (x ∷ []) e (congruent_symmetric letter) irreducible)

  extension_kept : AreKept presentation rules is words [] [] u (u ++ x ∷ [])
  extension_kept place e positive irreducible same = elim (cases_lt (length u) place) [
    | inl behind ↦
        let P : List ℕ → Type 0 = λ w. AreSame presentation (w ++ e) (take place (u ++ x ∷ [])) in
        let Q : List ℕ → Type 0 = λ w. AreSame presentation (u ++ e) w in
        behind_kept e irreducible
        (subst Q (take_all place (u ++ x ∷ []) (omega (arith, length-append u (x ∷ [])))) (subst P (take_all place u (omega arith)) same))
    | inr within ↦
        let Q : List ℕ → Type 0 = λ w. AreSame presentation (take place u ++ e) w in
        within_kept (take place u) e (All-take (λ (y : ℕ). (0 < y) × (y ≤ presentation.n)) place u over) irreducible
        (subst Q (take-append-le place u (x ∷ []) within) same)
  ]

  pub extension_leads : (f : List ℕ) → IsOver presentation.n (u ++ x ∷ []) → NormalForm rules (x ∷ []) f
      → Leads (group_of presentation rules) words [] u (u ++ x ∷ []) f
  extension_leads f whole normal =
      let same = congruent_symmetric (same_as_normal presentation rules is (x ∷ []) f normal) in
      leads_where_kept presentation rules is words u (u ++ x ∷ []) f over whole normal.irreducible (congruent_behind u same) extension_kept
