use Rattle.std.proofs.Common.{◌≡◌, take}
use Rattle.kb_kept.specs.Listed.{rule_equalities}
use Rattle.kb_kept.proofs.equality.rule_equalities.Given as goal

-- the equalities of the rules before this one are made
abbrev pub invariant-loop-rule : goal.invariant-loop-rule
invariant-loop-rule l = l.equalities.items ≡ rule_equalities (take l.rule-index l.listed)
