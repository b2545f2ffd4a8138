use Rattle.std.proofs.Common.{◌≡◌}
use Rattle.kb_word.specs.Words.{Pair}
use Rattle.kb_rules.proofs.Listed.{NoneBefore}
use Rattle.kb_rules.proofs.rules.Rules.contains.Given as goal

abbrev pub invariant-loop-own : goal.invariant-loop-own
invariant-loop-own l = NoneBefore (λ (pair : Pair). pair ≡ l.rule) l.own-items l.own-index
