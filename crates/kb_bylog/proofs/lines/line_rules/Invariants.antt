use Rattle.std.proofs.Common.{◌≡◌, take}
use Rattle.kb_machine.specs.Lines.{rules_of}
use Rattle.kb_bylog.proofs.lines.line_rules.Given as goal

-- the rules so far are those of the lines so far
abbrev pub invariant-loop-line : goal.invariant-loop-line
invariant-loop-line l = record {
  order : l.rules.order ≡ l.fn.order;
  so_far : l.rules.rules ≡ rules_of (take l.line-index l.lines);
}
