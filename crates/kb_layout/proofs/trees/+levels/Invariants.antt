use Rattle.std.proofs.Common.{◌++◌, suc, ◌*◌, ◌+◌}
use Rattle.std.specs.Prelude.{codes}
use Rattle.kb_record.specs.View.{value_view, field_view, fields_view}
use Rattle.kb_record.specs.Nesting.{value_nesting, fields_nesting}
use Rattle.kb_layout.specs.Layout.{indent}
use Rattle.kb_layout.specs.Printing.{pieces, IsPrintedUpTo, text_of_field}
use Rattle.kb_layout.proofs.trees.+levels.Given as goal

abbrev pub invariant-print_record-loop-field : goal.invariant-print_record-loop-field
invariant-print_record-loop-field l =
    IsPrintedUpTo (text_of_field (suc l.level)) (codes ",\n") (codes "\n" ++ (indent l.level ++ codes ")")) l.fields
    (codes "rec(" ++ (pieces (text_of_field (suc l.level)) (codes "\n") (codes ",\n") l.fields ++ (codes "\n" ++ (indent l.level ++ codes ")")))) l.fn.out.items l.field-index l.before l.out.items

abbrev pub decreases-print_value : goal.decreases-print_value
decreases-print_value l = 4 * value_nesting (value_view l.value.now) + 2

abbrev pub decreases-print_record : goal.decreases-print_record
decreases-print_record l = 4 * fields_nesting (fields_view l.fields.now) + 4

abbrev pub decreases-print_field : goal.decreases-print_field
decreases-print_field l = 4 * value_nesting (field_view l.field.now).1 + 3
