use Rattle.std.proofs.Common.{List, subst}
use Rattle.kb_record.specs.View.{text_view}
use Rattle.kb_record.specs.declared.tree.Field.{Field}
use Rattle.kb_record.specs.declared.tree.Value.{Value}
use Rattle.kb_fields.specs.Fields.{fields_view}
use Rattle.kb_fields.proofs.Outcomes.{IfErr_then}
use Rattle.kb_fsafile.specs.Faults.{IsFirstOf}
use Rattle.kb_fsafile.specs.Reading.{IsMemoryOr}
use Rattle.kb_fsafile.proofs.OneFault.{text_fault}
use Rattle.kb_fsafile.proofs.reader.table_of.Goals as goal

pub returns-clause-fault : goal.returns-clause-fault
returns-clause-fault c =
    IfErr_then c.lettered_table.result c.lettered_table.ensures.fault (λ error fault.
    let P : List (Field Value) → Type 0 = λ fields. IsMemoryOr (IsFirstOf (fields_view fields)) error in
    text_fault c.args.bytes.now (text_view c.in_ok-text.text) error c.in_ok-text.ensures.read c.in_ok-text.ensures.shallow
    (subst P c.as_slice.ensures.value fault))
