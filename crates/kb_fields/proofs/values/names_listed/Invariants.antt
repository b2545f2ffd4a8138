use Rattle.std.proofs.Common.{◌≡◌, ℕ, List, take, map, Some}
use Rattle.std.specs.Borrow.{Bor}
use Rattle.kb_record.specs.View.{value_view}
use Rattle.kb_record.specs.Listed.{listed}
use Rattle.kb_fields.specs.Fields.{bare_name}
use Rattle.kb_fields.proofs.values.names_listed.Given as goal

abbrev pub invariant-loop-place : goal.invariant-loop-place
invariant-loop-place l =
    take l.place (listed (value_view l.value)) ≡ map (λ (name : Bor (List ℕ)). Some (bare_name name.now)) l.names.items
