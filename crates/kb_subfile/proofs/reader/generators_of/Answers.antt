use Rattle.std.proofs.Common.{Some, sym, ap, ◌∙◌}
use Rattle.std.specs.Option.{option_map}
use Rattle.std.proofs.lemmas.Result.{err_from_is_err_and}
use Rattle.kb_word.specs.Presentations.{parts_of}
use Rattle.kb_record.specs.View.{value_view, found_view}
use Rattle.kb_fields.specs.Fields.{fields_view}
use Rattle.kb_fields.proofs.Outcomes.{IfErr_then, IfOk_then}
use Rattle.kb_subfile.proofs.FaultLemmas.{after_once, after_there, missing_fault}
use Rattle.kb_subfile.proofs.reader.generators_of.Goals as goal

pub returns-in_err-check_once-clause-fault : goal.returns-in_err-check_once-clause-fault
returns-in_err-check_once-clause-fault c =
    let p = err_from_is_err_and c.from_residual.result c.from_residual.ensures.1 in
    rw (p.1, p.2) (c.in_err-check_once.ensures.fault (parts_of c.args.presentation.now))

pub returns-in_default-clause-fault : goal.returns-in_default-clause-fault
returns-in_default-clause-fault c =
    let parts = parts_of c.args.presentation.now in
    let given = fields_view c.args.fields.now in
    missing_fault parts given (c.in_ok-found.ensures ∙ ap (option_map found_view) c.in_default.is) (after_once parts given c.in_ok-check_once.ensures.once)

pub returns-clause-read : goal.returns-clause-read
returns-clause-read c = IfOk_then c.generators_in.result c.generators_in.ensures.read (λ generators lists. record {
  once = c.in_ok-check_once.ensures.once;
  value = value_view c.value.result.now;
  given = c.in_ok-found.ensures ∙ ap (option_map found_view) c.in-Some.is ∙ ap Some (sym c.value.ensures);
  lists = lists;
})

pub returns-clause-fault : goal.returns-clause-fault
returns-clause-fault c =
    let parts = parts_of c.args.presentation.now in
    let given = fields_view c.args.fields.now in
    let once = after_once parts given c.in_ok-check_once.ensures.once in
    let value = value_view c.value.result.now in
    let is = c.in_ok-found.ensures ∙ ap (option_map found_view) c.in-Some.is ∙ ap Some (sym c.value.ensures) in
    IfErr_then c.generators_in.result (c.generators_in.ensures.fault given is) (λ error fault. fault (after_there parts given value is once))
