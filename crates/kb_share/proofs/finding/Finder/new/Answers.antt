use Rattle.std.proofs.Common.{arith}
use Rattle.kb_machine.specs.Lines.{rules_of}
use Rattle.kb_share.proofs.finding.Finder.new.Goals as goal

pub returns : goal.returns
returns c = λ state. record {
  met = omega arith;
  agrees = c.new.ensures (rules_of state.lines);
  all = λ number live low high. absurd (omega (arith, low, high));
}
