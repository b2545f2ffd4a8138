use Rattle.std.proofs.Common.{◌≡◌}
use Rattle.kb_minkb.specs.LeftMachine.{next_place}
use Rattle.kb_minkb.specs.RuleMachine as rule_machine
use Rattle.kb_minkb.specs.Progress.{AreMovesBefore}
use Rattle.kb_minkb.proofs.rules.RulesMachine.moves.Given as goal

abbrev pub invariant-loop-symbol : goal.invariant-loop-symbol
invariant-loop-symbol l = record {
  moves : AreMovesBefore (rule_machine.rules l.self.acceptor.now l.self.multipliers.now) l.place l.symbol l.moves.items;
  known : l.known.1 ≡ next_place l.self.acceptor.now.table l.place.left l.known.0;
}
