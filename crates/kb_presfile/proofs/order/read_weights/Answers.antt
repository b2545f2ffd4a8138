use Rattle.std.proofs.Common.{◌≡◌, ℕ, ℤ, List, Some, sym, ap, subst, ◌∙◌}
use Rattle.std.proofs.lemmas.Option.{MatchOption-at_none}
use Rattle.kb_record.specs.Tree.{list_value}
use Rattle.kb_record.specs.View.{value_view}
use Rattle.kb_fields.specs.Fields.{fields_view, list_of_numbers}
use Rattle.kb_presfile.specs.Holds.{AreWeights}
use Rattle.kb_presfile.specs.declared.error.Field.TheVariants as kinds
use Rattle.kb_presfile.proofs.FaultLemmas.{kind_fault_there, weights_fault}
use Rattle.kb_presfile.proofs.order.read_weights.Goals as goal

pub returns-in_default-clause-fault : goal.returns-in_default-clause-fault
returns-in_default-clause-fault c =
    let other = MatchOption-at_none _ _ c.in_default.is c.in_ok-numbers.ensures.other in
    kind_fault_there (fields_view c.args.fields.now) kinds.Weight (value_view c.value.result.now) (c.in_ok-found.ensures.found ∙ ap Some (sym c.value.ensures))
    (λ kind. let listed = kind c.requires.ordering in other listed.0 listed.1)

pub returns-clause-fault : goal.returns-clause-fault
returns-clause-fault c =
    let numbers = c.as_slice.result.now in
    let read = rw c.in-Some.is at c.in_ok-numbers.ensures.listed in
    let listed : value_view c.value.result.now ≡ list_value (list_of_numbers numbers) =
    read ∙ ap (λ (zs : List ℤ). list_value (list_of_numbers zs)) (sym c.as_slice.ensures.value) in
    let none = MatchOption-at_none _ _ c.in-None.is c.in_ok-order.ensures.none in
    weights_fault (fields_view c.args.fields.now) c.args.names.now c.requires.named c.requires.ordering numbers
    (c.in_ok-found.ensures.found ∙ ap Some (sym c.value.ensures ∙ listed))
    (λ weights are. let P : ℕ → Type 0 = λ n. AreWeights n numbers weights in none weights (subst P (sym c.len.ensures.count) are))
