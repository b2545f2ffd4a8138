use Rattle.std.proofs.Common.{◌≡◌, take}
use Rattle.std.specs.List.{flat_map}
use Rattle.kb_compose.specs.declared.place.Place.{Place}
use Rattle.kb_compose.proofs.counting.all_pairs.Given as goal

abbrev pub invariant-loop-place : goal.invariant-loop-place
invariant-loop-place l = l.all.items ≡ flat_map (λ (place : Place). place.pairs) (take l.place-index l.places)
