-- What is kept stays along every course.
use Rattle.std.proofs.Common.{List, [], ◌∷◌, subst}
use Rattle.kb_rules.specs.Steps.{Leads}
use Rattle.kb_machine.specs.States.{Problem, State}
use Rattle.kb_machine.specs.Machine.{Step}
use Rattle.kb_machine.specs.declared.event.Event.{Event}
use Rattle.kb_machine.specs.declared.event.Event.TheVariants.{Entered, Balanced, Dropped, Made, Halted, Killed, Shortened, Published}
use Rattle.kb_machine.proofs.Invariant.{Invariant}
use Rattle.kb_machine.proofs.Pending.{enters_kept, balances_kept, drops_kept, publishes_kept}
use Rattle.kb_machine.proofs.Making.{makes_kept}
use Rattle.kb_machine.proofs.Halting.{halts_kept}
use Rattle.kb_machine.proofs.Killing.{kills_kept}
use Rattle.kb_machine.proofs.Shortening.{shortens_kept}

step_kept : (problem : Problem) (before after : State) (event : Event) → Invariant problem before
    → Step problem before event after
    → Invariant problem after
step_kept problem before after (Entered worker place i j) inv step = enters_kept i j place inv step
step_kept problem before after (Balanced place i j) inv step = balances_kept i j place inv step
step_kept problem before after Dropped inv step = drops_kept inv step
step_kept problem before after (Made k) inv step = makes_kept k inv step
step_kept problem before after Halted inv step = halts_kept inv step
step_kept problem before after (Killed k) inv step = kills_kept k inv step
step_kept problem before after (Shortened k new) inv step = shortens_kept k new inv step
step_kept problem before after Published inv step = publishes_kept inv step

-- events lead from what is kept to what is kept
pub course_kept : (problem : Problem) (before : State) (journal : List Event) (after : State) → Invariant problem before
    → Leads (Step problem) before journal after → Invariant problem after
course_kept problem before [] after inv same = subst (Invariant problem) same inv
course_kept problem before (event ∷ journal) after inv leads =
    course_kept problem leads.0 journal after (step_kept problem before leads.0 event inv leads.1) leads.2
