use Rattle.kb_axioms.specs.Answered.{checked_in}
use Rattle.kb_axioms.specs.Answered.IsFirstOfAll.{of_elements}
use Rattle.kb_auto.proofs.Decisions.{are_true_to_group, first_different, relations_are_over}
use Rattle.kb_auto.proofs.deciding.checked.Goals as goal

pub returns-in-True : goal.returns-in-True
returns-in-True c limits presentation acceptor multipliers shortlex words are passes decides = (
  passes,
  c.automata_that_pass_are_the_groups_own.ensures (checked_in presentation acceptor multipliers limits.states)
      (relations_are_over presentation acceptor multipliers words) passes
      (are_true_to_group presentation acceptor multipliers words limits.states shortlex (rw c.in-True.is at decides)),
)

pub returns-in-Different : goal.returns-in-Different
returns-in-Different c limits presentation acceptor multipliers shortlex words are passes decides =
    of_elements passes
    (first_different presentation acceptor multipliers words limits.states c.in-Different.x c.in-Different.u c.in-Different.v shortlex
    (rw c.in-Different.is at decides))

pub returns-in-Halted : goal.returns-in-Halted
returns-in-Halted c limits presentation acceptor multipliers shortlex words are passes decides =
    let says = rw c.in-Halted.is at decides in (passes, says.0, says.1)
