use Rattle.kb_axioms.specs.Answered.IsFirstOfAll.{of_automata}
use Rattle.kb_system.specs.Problems.{limits_of}
use Rattle.kb_auto.proofs.deciding.gpaxioms.Goals as goal

pub returns-in-No : goal.returns-in-No
returns-in-No g c = of_automata (rw c.in-No.is at c.in_ok-cert.ensures)

pub returns-in-TooManyStates : goal.returns-in-TooManyStates
returns-in-TooManyStates g c = rw c.in-TooManyStates.is at c.in_ok-cert.ensures

pub returns-in_ok-decision-in-Pass : goal.returns-in_ok-decision-in-Pass
returns-in_ok-decision-in-Pass g c =
    c.checked.ensures (limits_of c.args.limits.now) c.args.presentation.now c.args.acceptor.now c.args.multipliers.now
    c.requires.shortlex c.requires.acceptor c.requires.multipliers (rw c.in-Pass.is at c.in_ok-cert.ensures) c.in_ok-decision-in-Pass.ensures
