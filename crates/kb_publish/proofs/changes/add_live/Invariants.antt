use Rattle.std.proofs.Common.{◌≡◌, ◌≤◌, ℕ, fold, length, map, take}
use Rattle.kb_word.specs.Words.{Pair}
use Rattle.kb_publish.specs.declared.edition.Lines.{Lines}
use Rattle.kb_publish.specs.Editions.{changed, lines_by}
use Rattle.kb_publish.proofs.changes.add_live.Given as goal

-- the lines up to this place are added
abbrev pub invariant-loop-place : goal.invariant-loop-place
invariant-loop-place g l = (l.place ≤ length l.live)
    × ((start : Lines) (version : ℕ) (rule : ℕ → Pair) → l.rules ≡ map rule l.live
    → fold changed start l.fn.changes.items ≡ lines_by rule version (take l.from l.live)
    → fold changed start l.changes.items ≡ lines_by rule version (take l.place l.live))
