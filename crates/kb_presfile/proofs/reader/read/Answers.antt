use Rattle.std.proofs.Common.{List, subst}
use Rattle.kb_record.specs.View.{text_view}
use Rattle.kb_record.specs.declared.tree.Field.{Field}
use Rattle.kb_record.specs.declared.tree.Value.{Value}
use Rattle.kb_fields.specs.Fields.{fields_view}
use Rattle.kb_presfile.specs.Faults.{IsMemoryOr, IsFirstOf}
use Rattle.kb_fields.proofs.Outcomes.{IfErr_then}
use Rattle.std.proofs.lemmas.Result.{err_from_is_err_and}
use Rattle.kb_presfile.proofs.OneFault.{text_fault}
use Rattle.kb_presfile.proofs.RefusalLemmas.{text_refused}
use Rattle.kb_presfile.proofs.reader.read.Goals as goal

pub returns-clause-fault : goal.returns-clause-fault
returns-clause-fault c =
    IfErr_then c.presentation_of.result c.presentation_of.ensures.fault (λ error fault.
    let P : List (Field Value) → Type 0 = λ fields. IsMemoryOr (IsFirstOf (fields_view fields)) error in
    text_fault c.args.bytes.now (text_view c.in_ok-text.text) error c.in_ok-text.ensures.read c.in_ok-text.ensures.shallow
    (subst P c.as_slice.ensures.value fault))

pub returns-in_err-text-clause-fault : goal.returns-in_err-text-clause-fault
returns-in_err-text-clause-fault c =
    let p = err_from_is_err_and c.from_residual.result c.from_residual.ensures.1 in
    rw p.1 (text_refused c.args.bytes.now _ p.0 c.in_err-text.ensures.fault p.2)
