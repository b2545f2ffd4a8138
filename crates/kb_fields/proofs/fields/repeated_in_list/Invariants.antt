use Rattle.std.proofs.Common.{◌≡◌, ℕ, ◌<◌, List, slice_get, Option, Some}
use Rattle.kb_record.specs.Tree.{Value}
use Rattle.kb_record.specs.View.{written_places}
use Rattle.kb_fields.specs.Fields.{HasFieldTwiceAt}
use Rattle.kb_fields.proofs.RepeatOrder.{from_place, FirstOfAll}
use Rattle.kb_fields.proofs.fields.repeated_in_list.Given as goal

abbrev pub invariant-loop-place : goal.invariant-loop-place
invariant-loop-place l = record {
  within : (k : ℕ) (p : Option Value) → k < l.place → slice_get (written_places l.places) k ≡ Some p → (q : List ℕ) → HasFieldTwiceAt p q → ⊥;
  order : FirstOfAll (from_place (written_places l.places) l.place) (from_place (written_places l.places) 0);
}
