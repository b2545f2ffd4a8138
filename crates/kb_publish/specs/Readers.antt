-- What a reader has seen.
use Rattle.std.specs.Prelude.{List, Result, Ok, Err}
use Rattle.left_right.specs.Sides.{view}
use Rattle.kb_publish.specs.declared.versions.View.{View}
use Rattle.kb_publish.specs.declared.glass.RuledGlass.{RuledGlass}

-- what was seen from a place, or noted where there is none
abbrev pub seen_or_noted : {Place Note Seen : Type 0} → (Place → Seen) → (Note → Seen)
    → Result Place Note → Seen
seen_or_noted seen noted (Ok place) = seen place
seen_or_noted seen noted (Err note) = noted note

-- the states that were seen through a glass
abbrev pub seen_through : {V O S : Type 0} → RuledGlass V O S → List S
seen_through {S} glass =
    seen_or_noted (λ place. (view {V = View S} place.place).seen) (λ note. note.me.0) glass.window
