use Rattle.std.proofs.Common.{ℕ, ◌<◌, ◌≤◌, get_or, length}
use Rattle.std.specs.List.{Contains}
use Rattle.kb_machine.specs.Lines.{rules_of}
use Rattle.kb_share.proofs.finding.Kept.renew.Given as goal
use Rattle.kb_share.specs.Finding.{AgreesWith}

-- the first live lines are kept
abbrev pub invariant-loop-k : goal.invariant-loop-k
invariant-loop-k l = AgreesWith (rules_of l.lines) l.self
    × ((m : ℕ) → m < l.k-index → 0 < get_or l.live m 0 → get_or l.live m 0 ≤ length l.lines
    → Contains l.self.numbers.items (get_or l.live m 0))
