use Rattle.std.specs.Prelude.{codes}
use Rattle.std.proofs.Common.{ℕ, List, refl, subst}
use Rattle.kb_record.specs.Tree.{string_value}
use Rattle.kb_record.specs.View.{value_view, found_view}
use Rattle.std.proofs.lemmas.Result.{err_from_is_err_and}
use Rattle.kb_fields.specs.Fields.{fields_view}
use Rattle.kb_fields.proofs.Outcomes.{IfOk_then, IfErr_then}
use Rattle.kb_fsafile.specs.Holds.{HoldsRecord, HoldsString}
use Rattle.kb_fsafile.specs.Checks.{states_field, states_type_field, states_size_field}
use Rattle.kb_fsafile.specs.declared.error.FsaError.TheVariants as errors
use Rattle.kb_fsafile.proofs.FirstLemmas.{refused, kind_refused, value_refused}
use Rattle.kb_fsafile.proofs.NoFault.{states_record_passed, states_type_passed}
use Rattle.kb_fsafile.proofs.FieldFaults.{value_seen, record_seen}
use Rattle.kb_fsafile.proofs.states.count_states.Goals.{After-as_slice-states}
use Rattle.kb_fsafile.proofs.states.count_states.Goals as goal

is_record : (c : After-as_slice-states) → HoldsRecord (fields_view c.args.fields.now) (codes "states") (fields_view c.as_slice-states.result.now)
is_record c =
    record_seen (fields_view c.args.fields.now) (codes "states") (found_view c.in_ok-value.value) (value_view c.value.result.now) c.in_ok-record_in.field-0.now.items
    c.as_slice-states.result.now c.in_ok-value.ensures.found c.value.ensures c.in_ok-record_in.ensures.found c.as_slice-states.ensures.value

pub returns-in_err-value-clause-fault : goal.returns-in_err-value-clause-fault
returns-in_err-value-clause-fault c =
    let p = err_from_is_err_and c.from_residual.result c.from_residual.ensures.1 in
    rw (p.1, p.2) (refused (fields_view c.args.fields.now) states_field (fields_view c.args.fields.now) refl _ c.in_err-value.ensures.fault)

pub returns-in_err-record_in-clause-fault : goal.returns-in_err-record_in-clause-fault
returns-in_err-record_in-clause-fault c =
    let p = err_from_is_err_and c.from_residual-in_err-record_in.result c.from_residual-in_err-record_in.ensures.1 in
    let given = fields_view c.args.fields.now in
    let is = value_seen given (codes "states") _ (value_view c.value.result.now) c.in_ok-value.ensures.found c.value.ensures in
    rw (p.1, p.2) (kind_refused given states_field given refl (value_view c.value.result.now) _ is c.in_err-record_in.ensures.fault)

pub returns-in_err-needed_string-clause-fault : goal.returns-in_err-needed_string-clause-fault
returns-in_err-needed_string-clause-fault c =
    let p = err_from_is_err_and c.from_residual-in_err-needed_string.result c.from_residual-in_err-needed_string.ensures.1 in
    rw (p.1, p.2) (λ free.
    let is = is_record (goal.at.returns-in_err-needed_string-clause-fault c).After-as_slice-states in
    refused (fields_view c.args.fields.now) states_type_field (fields_view c.as_slice-states.result.now) is _ c.in_err-needed_string.ensures.fault
    (states_record_passed (fields_view c.args.fields.now) (fields_view c.as_slice-states.result.now) is free))

pub returns-clause-fault : goal.returns-clause-fault
returns-clause-fault c = λ free.
    let given = fields_view c.args.fields.now in
    let states = fields_view c.as_slice-states.result.now in
    let text = c.in_ok-needed_string.field-0.now in
    let is = is_record (goal.at.returns-clause-fault c).After-as_slice-states in
    value_refused given states_type_field states is (string_value text) c.in_ok-needed_string.ensures.found (text, refl) errors.StatesWrong
    (refl, text, refl, c.in_default.not-simple) (states_record_passed given states is free)

pub returns-in-simple-clause-read : goal.returns-in-simple-clause-read
returns-in-simple-clause-read c =
    let P : List ℕ → Type 0 = λ t. HoldsString (fields_view c.as_slice-states.result.now) (codes "type") t in
    IfOk_then c.needed_count.result c.needed_count.ensures.found (λ count found. record {
      states = fields_view c.as_slice-states.result.now;
      is_record = is_record (goal.at.returns-in-simple-clause-read c).After-as_slice-states;
      type = subst P c.in-simple.is c.in_ok-needed_string.ensures.found;
      size = found;
    })

pub returns-in-simple-clause-fault : goal.returns-in-simple-clause-fault
returns-in-simple-clause-fault c =
    let given = fields_view c.args.fields.now in
    let states = fields_view c.as_slice-states.result.now in
    let P : List ℕ → Type 0 = λ t. HoldsString (fields_view c.as_slice-states.result.now) (codes "type") t in
    let is = is_record (goal.at.returns-in-simple-clause-fault c).After-as_slice-states in
    let typed = subst P c.in-simple.is c.in_ok-needed_string.ensures.found in
    IfErr_then c.needed_count.result c.needed_count.ensures.fault (λ error fault free.
    refused given states_size_field states is error fault (states_type_passed given states is typed (states_record_passed given states is free)))
