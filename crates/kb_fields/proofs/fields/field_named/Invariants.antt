use Rattle.std.proofs.Common.{◌≡◌, drop}
use Rattle.kb_fields.specs.Fields.{fields_view, value_of}
use Rattle.kb_fields.proofs.fields.field_named.Given as goal

abbrev pub invariant-loop-field : goal.invariant-loop-field
invariant-loop-field l = value_of (fields_view (drop l.field-index l.fields)) l.name ≡ value_of (fields_view l.fields) l.name
