use Rattle.kb_reduced.specs.Minimal.{HasMinimal}
use Rattle.kb_reduced.proofs.minimal.minimal_rules.Given as goal

-- the minimal rules of the left sides so far
abbrev pub invariant-loop-rule : goal.invariant-loop-rule
invariant-loop-rule g l = HasMinimal l.rules l.rule-index l.minimal.items
