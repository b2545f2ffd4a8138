use Rattle.kb_layout.proofs.PrintedPieces.{IsTableUpTo}
use Rattle.kb_presprint.proofs.Writings.{rule_place}
use Rattle.kb_presprint.proofs.writer.write_rule_lines.Given as goal

abbrev pub invariant-loop-rule : goal.invariant-loop-rule
invariant-loop-rule l = IsTableUpTo 1 (rule_place l.names) l.rules l.fn.out.items l.rule-index l.before l.out.items
