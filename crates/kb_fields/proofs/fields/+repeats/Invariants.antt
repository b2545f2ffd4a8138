use Rattle.std.proofs.Common.{◌≡◌, ℕ, ◌+◌, ◌*◌, ◌<◌, List, slice_get, Some}
use Rattle.kb_record.specs.Nesting.{value_nesting, fields_nesting}
use Rattle.kb_record.specs.View.{field_view, value_view}
use Rattle.kb_record.specs.declared.tree.Field.{Field}
use Rattle.kb_record.specs.declared.tree.Value.{Value}
use Rattle.kb_fields.specs.Fields.{fields_view, HasFieldTwice}
use Rattle.kb_fields.proofs.RepeatLemmas.{HasSeen, names_in}
use Rattle.kb_fields.proofs.RepeatOrder.{from_field, FirstOfAll}
use Rattle.kb_fields.proofs.fields.+repeats.Given as goal

abbrev pub invariant-repeated_name-loop-field : goal.invariant-repeated_name-loop-field
invariant-repeated_name-loop-field l = record {
  seen : HasSeen (names_in l.fields) l.field-index l.seen;
  within : (k : ℕ) (f : Field Value) → k < l.field-index → slice_get l.fields k ≡ Some f → (q : List ℕ) → HasFieldTwice (field_view f).1 q → ⊥;
  order : FirstOfAll (from_field l.fields l.field-index) (from_field l.fields 0);
}

-- how deep the tree nests, and within a level what calls stands above what is called
abbrev pub decreases-repeated_name : goal.decreases-repeated_name
decreases-repeated_name l = 3 * fields_nesting (fields_view l.fields.now) + 2

abbrev pub decreases-repeated_in_field : goal.decreases-repeated_in_field
decreases-repeated_in_field l = 3 * value_nesting (field_view l.field.now).1 + 1

abbrev pub decreases-repeated_within : goal.decreases-repeated_within
decreases-repeated_within l = 3 * value_nesting (value_view l.value.now)
