use Rattle.std.proofs.Common.{◌≡◌, map, take}
use Rattle.kb_diffwa.specs.declared.place.Place.{Place}
use Rattle.kb_diffwa.proofs.multiplication.differences_of.Given as goal

-- the numbers of the places that are passed
abbrev pub invariant-loop-place : goal.invariant-loop-place
invariant-loop-place l = l.numbers.items ≡ map (λ (place : Place). place.difference) (take l.place-index l.places)
