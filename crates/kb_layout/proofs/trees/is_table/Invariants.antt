use Rattle.std.proofs.Common.{◌≡◌, drop}
use Rattle.kb_record.specs.View.{places_of, written_places}
use Rattle.kb_layout.specs.Layout.{are_lists}
use Rattle.kb_layout.proofs.trees.is_table.Given as goal

-- the places before this one hold lists
abbrev pub invariant-loop-place : goal.invariant-loop-place
invariant-loop-place l =
    are_lists (places_of (written_places l.places)) ≡ are_lists (places_of (drop l.place (written_places l.places)))
