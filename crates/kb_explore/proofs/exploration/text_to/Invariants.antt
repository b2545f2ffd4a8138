use Rattle.kb_explore.specs.Tracing.{IsTracing}
use Rattle.kb_explore.proofs.exploration.text_to.Given as goal

-- the symbols so far lead from the state with this origin to the one asked for
abbrev pub invariant-loop-parent : goal.invariant-loop-parent
invariant-loop-parent l = IsTracing l.origins l.state l.parent l.symbol l.text.items

abbrev pub decreases-loop-parent : goal.decreases-loop-parent
decreases-loop-parent l = l.parent
