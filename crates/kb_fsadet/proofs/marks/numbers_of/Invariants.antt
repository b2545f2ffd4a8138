use Rattle.std.proofs.Common.{◌≡◌, ◌≤◌, ◌++◌, suc, length, take, drop}
use Rattle.kb_fsadet.specs.Marks.{numbers_from}
use Rattle.kb_fsadet.proofs.marks.numbers_of.Given as goal

-- what is found so far is at the front
abbrev pub invariant-loop-mark : goal.invariant-loop-mark
invariant-loop-mark l =
    (l.number ≡ l.mark-index)
    × (l.found ≤ l.mark-index)
    × (length l.numbers.items ≡ length l.marks)
    × (take l.found l.numbers.items ++ numbers_from (suc l.number) (drop l.mark-index l.marks) ≡ numbers_from 1 l.marks)
