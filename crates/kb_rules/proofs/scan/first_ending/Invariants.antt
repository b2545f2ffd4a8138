use Rattle.kb_word.specs.Words.{Pair, EndsWith}
use Rattle.kb_rules.proofs.Listed.{NoneBefore}
use Rattle.kb_rules.proofs.scan.first_ending.Given as goal

abbrev pub invariant-loop-index : goal.invariant-loop-index
invariant-loop-index l = NoneBefore (λ (pair : Pair). EndsWith l.word pair.0) l.rule-items l.index
