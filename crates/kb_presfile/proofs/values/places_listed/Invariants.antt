use Rattle.std.proofs.Common.{map}
use Rattle.std.specs.Option.{option_copied}
use Rattle.kb_record.specs.View.{value_view}
use Rattle.kb_record.specs.Listed.{listed}
use Rattle.kb_presfile.proofs.PlaceLemmas.{AreFirst}
use Rattle.kb_presfile.proofs.values.places_listed.Given as goal

abbrev pub invariant-loop-place : goal.invariant-loop-place
invariant-loop-place l = AreFirst (listed (value_view l.value)) l.count (map option_copied l.names.items) l.place
