use Rattle.std.proofs.Common.{◌≡◌, take, map}
use Rattle.kb_record.specs.View.{value_view, number_place}
use Rattle.kb_record.specs.Listed.{listed}
use Rattle.kb_fields.proofs.numbers.numbers_in_places.Given as goal

abbrev pub invariant-loop-place : goal.invariant-loop-place
invariant-loop-place l = take l.place (listed (value_view l.value)) ≡ map number_place l.numbers.items
