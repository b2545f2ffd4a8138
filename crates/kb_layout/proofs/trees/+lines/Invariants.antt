use Rattle.std.proofs.Common.{[], ◌++◌, ◌*◌, ◌+◌}
use Rattle.std.specs.Prelude.{codes}
use Rattle.kb_record.specs.View.{value_view, field_view, fields_view, places_view, written_place, written_places}
use Rattle.kb_record.specs.Nesting.{value_nesting, fields_nesting, places_nesting}
use Rattle.kb_record.proofs.ValueParts.{place_nesting}
use Rattle.kb_layout.specs.Printing.{pieces, IsPrintedUpTo, line_of_field}
use Rattle.kb_layout.proofs.PrintedPieces.{IsListUpTo}
use Rattle.kb_layout.proofs.trees.+lines.Given as goal

abbrev pub invariant-print_list_on_line-loop-place : goal.invariant-print_list_on_line-loop-place
invariant-print_list_on_line-loop-place l = IsListUpTo (λ p. p) (written_places l.places) l.fn.out.items l.place l.before l.out.items

abbrev pub invariant-print_record_on_line-loop-field : goal.invariant-print_record_on_line-loop-field
invariant-print_record_on_line-loop-field l =
    IsPrintedUpTo line_of_field (codes ",") (codes ")") l.fields (codes "rec(" ++ (pieces line_of_field [] (codes ",") l.fields ++ codes ")")) l.fn.out.items l.field-index l.before l.out.items

abbrev pub decreases-print_on_line : goal.decreases-print_on_line
decreases-print_on_line l = 4 * value_nesting (value_view l.value.now) + 2

abbrev pub decreases-print_record_on_line : goal.decreases-print_record_on_line
decreases-print_record_on_line l = 4 * fields_nesting (fields_view l.fields.now) + 4

abbrev pub decreases-print_field_on_line : goal.decreases-print_field_on_line
decreases-print_field_on_line l = 4 * value_nesting (field_view l.field.now).1 + 3

abbrev pub decreases-print_list_on_line : goal.decreases-print_list_on_line
decreases-print_list_on_line l = 4 * places_nesting (places_view l.places.now) + 4

abbrev pub decreases-print_place : goal.decreases-print_place
decreases-print_place l = 4 * place_nesting (written_place l.place) + 3
