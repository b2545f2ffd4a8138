use Rattle.std.proofs.Common.{◌≡◌, ◌≤◌, ℕ, ◌++◌, fold, length, take, drop}
use Rattle.kb_word.specs.Words.{Pair}
use Rattle.kb_publish.specs.Editions.{changed, lines_by}
use Rattle.kb_publish.proofs.changes.gone_of.Given as goal

-- the first numbers are gone, or kept at their places
abbrev pub invariant-loop-number : goal.invariant-loop-number
invariant-loop-number g l = (l.kept ≤ length l.live)
    × ((version : ℕ) (rule : ℕ → Pair) → fold changed (lines_by rule version l.numbers) l.changes.items
    ≡ lines_by rule version (take l.kept l.live ++ drop l.number-index l.numbers))
