use Rattle.std.proofs.Common.{◌≡◌, ◌++◌, drop}
use Rattle.kb_cmd_automata.specs.Counted.{lines_of_numbers}
use Rattle.kb_cmd_automata.proofs.counting.lines_of.Given as goal

-- the lines so far, and those of the numbers that are left
abbrev pub invariant-loop-number : goal.invariant-loop-number
invariant-loop-number l = l.lines.items ++ lines_of_numbers (drop l.number-index l.numbers) ≡ lines_of_numbers l.numbers
