use Rattle.std.proofs.Common.{◌≢◌, ℕ, ◌<◌, get_or}
use Rattle.std.specs.List.{Contains}
use Rattle.kb_share.proofs.finding.look_at_each.Given as goal
use Rattle.kb_share.specs.Finding.{HasFactorAt}

-- of the first of them
abbrev pub invariant-loop-other : goal.invariant-loop-other
invariant-loop-other l = (m : ℕ) → m < l.other-index → get_or l.likely m 0 ≢ l.k
    → HasFactorAt l.side l.lines l.live l.factor (get_or l.likely m 0) → Contains l.found.items (get_or l.likely m 0)
