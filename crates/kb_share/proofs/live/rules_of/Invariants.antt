use Rattle.std.proofs.Common.{◌≡◌, map, take}
use Rattle.kb_machine.specs.States.{rule_numbered}
use Rattle.kb_share.proofs.live.rules_of.Given as goal

-- the rules of the first numbers are copied
abbrev pub invariant-loop-number : goal.invariant-loop-number
invariant-loop-number l = l.rules.items ≡ map (rule_numbered l.lines) (take l.number-index l.numbers)
