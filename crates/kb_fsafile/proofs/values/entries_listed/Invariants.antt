use Rattle.std.proofs.Common.{◌≡◌, ℤ, take, map, Some}
use Rattle.kb_record.specs.View.{value_view}
use Rattle.kb_record.specs.Listed.{listed}
use Rattle.kb_fsafile.specs.Kinds.{entry_value}
use Rattle.kb_fsafile.proofs.values.entries_listed.Given as goal

abbrev pub invariant-loop-place : goal.invariant-loop-place
invariant-loop-place l = take l.place (listed (value_view l.value)) ≡ map (λ (e : ℤ × ℤ). Some (entry_value e)) l.entries.items
