use Rattle.std.proofs.Common.{◌≡◌, ℕ, ◌<◌, []}
use Rattle.kb_draw.proofs.work.do_all.Given as goal

-- the parts so far are done in the share
abbrev pub invariant-loop-part : goal.invariant-loop-part
invariant-loop-part g l = g.W.Work.sound l.work l.share × ((part : ℕ) → part < l.part → g.W.Work.done l.work l.share part)
    × (l.shares.items ≡ [])
