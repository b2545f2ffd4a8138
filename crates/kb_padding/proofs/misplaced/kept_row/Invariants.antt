use Rattle.std.proofs.Common.{◌≡◌, ℕ, not, take}
use Rattle.std.specs.List.{filter}
use Rattle.kb_padding.specs.Cleaning.{is_dropped}
use Rattle.kb_padding.proofs.misplaced.kept_row.Given as goal

abbrev pub invariant-loop-symbol : goal.invariant-loop-symbol
invariant-loop-symbol l =
    l.kept.items
    ≡ filter (λ (move : ℕ × ℕ). not (is_dropped l.n l.reach.marks.items l.reach.first.items l.reach.second.items l.state move.0)) (take l.symbol-index l.row)
