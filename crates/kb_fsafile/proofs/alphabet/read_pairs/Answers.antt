use Rattle.std.specs.Prelude.{codes}
use Rattle.std.proofs.lemmas.Result.{err_from_is_err_and}
use Rattle.kb_record.specs.View.{value_view, found_view}
use Rattle.kb_fields.specs.Fields.{fields_view}
use Rattle.kb_fields.proofs.Outcomes.{IfErr_then}
use Rattle.kb_fsafile.specs.Holds.{HoldsRecord}
use Rattle.kb_fsafile.specs.Checks.{base_field}
use Rattle.kb_fsafile.proofs.FieldFaults.{value_seen, record_seen}
use Rattle.kb_fsafile.proofs.FirstLemmas.{refused, kind_refused}
use Rattle.kb_fsafile.proofs.NoFault.{arity_passed, base_passed}
use Rattle.kb_fsafile.proofs.alphabet.read_pairs.Goals.{After-as_slice-base}
use Rattle.kb_fsafile.proofs.alphabet.read_pairs.Goals as goal

is_base : (c : After-as_slice-base) → HoldsRecord (fields_view c.args.letters.now) (codes "base") (fields_view c.as_slice-base.result.now)
is_base c =
    record_seen (fields_view c.args.letters.now) (codes "base") (found_view c.in_ok-value.value) (value_view c.value.result.now) c.in_ok-record_in.field-0.now.items
    c.as_slice-base.result.now c.in_ok-value.ensures.found c.value.ensures c.in_ok-record_in.ensures.found c.as_slice-base.ensures.value

pub read_pairs_over-requires-clause-based : goal.read_pairs_over-requires-clause-based
read_pairs_over-requires-clause-based c = is_base (goal.at.read_pairs_over-requires-clause-based c).After-as_slice-base

pub returns-in_err-value-clause-fault : goal.returns-in_err-value-clause-fault
returns-in_err-value-clause-fault c =
    let p = err_from_is_err_and c.from_residual-in_err-value.result c.from_residual-in_err-value.ensures.1 in
    rw (p.1, p.2) (λ given is free.
    let letters = fields_view c.args.letters.now in
    refused given base_field letters is _ c.in_err-value.ensures.fault (arity_passed given letters is c.in_ok-check_arity.ensures.ok free))

pub returns-in_err-record_in-clause-fault : goal.returns-in_err-record_in-clause-fault
returns-in_err-record_in-clause-fault c =
    let p = err_from_is_err_and c.from_residual-in_err-record_in.result c.from_residual-in_err-record_in.ensures.1 in
    rw (p.1, p.2) (λ given is free.
    let letters = fields_view c.args.letters.now in
    let seen = value_seen letters (codes "base") _ (value_view c.value.result.now) c.in_ok-value.ensures.found c.value.ensures in
    kind_refused given base_field letters is (value_view c.value.result.now) _ seen c.in_err-record_in.ensures.fault
    (arity_passed given letters is c.in_ok-check_arity.ensures.ok free))

pub returns-clause-fault : goal.returns-clause-fault
returns-clause-fault c =
    let letters = fields_view c.args.letters.now in
    let base = fields_view c.as_slice-base.result.now in
    let holds = is_base (goal.at.returns-clause-fault c).After-as_slice-base in
    IfErr_then c.read_pairs_over.result c.read_pairs_over.ensures.fault (λ error fault given is free.
    fault given is (base_passed given letters base is holds (arity_passed given letters is c.in_ok-check_arity.ensures.ok free)))
