use Rattle.std.proofs.Common.{◌≡◌, ℕ, List, take, map, Some}
use Rattle.kb_record.specs.View.{value_view}
use Rattle.kb_record.specs.Listed.{listed}
use Rattle.kb_fields.specs.Fields.{bare_name}
use Rattle.kb_fields.proofs.values.lists_names.Given as goal

abbrev pub invariant-loop-place : goal.invariant-loop-place
invariant-loop-place l =
    (names : List (List ℕ)) × (take l.place (listed (value_view l.value)) ≡ map (λ (name : List ℕ). Some (bare_name name)) names)
