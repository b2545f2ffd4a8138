use Rattle.std.proofs.Common.{◌≡◌, ◌++◌}
use Rattle.kb_cmd_words.proofs.orienting.rules_of.Given as goal

-- the rules so far are those of the set so far
abbrev pub invariant-loop-rule : goal.invariant-loop-rule
invariant-loop-rule l = record {
  order : l.rules.order ≡ l.fn.order;
  so_far : l.rules.rules ++ l.rule-iterator ≡ l.fn.set.keys;
}
