use Rattle.std.proofs.Common.{◌<◌, ◌^◌, ◌++◌, All}
use Rattle.kb_word.specs.Words.{OneOf}
use Rattle.kb_word.specs.WordOrderLaws.{order_rank}
use Rattle.kb_word.specs.Rewriting.{IsIrreducible}
use Rattle.kb_rules.specs.Steps.{IsFirstStep, Leads}
use Rattle.kb_index.specs.Automata.{AreStatesAlong}
use Rattle.kb_index.proofs.reading.trace.Given as goal

abbrev pub invariant-loop-steps : goal.invariant-loop-steps
invariant-loop-steps l = record {
  states : AreStatesAlong l.automaton.words l.workspace.front l.workspace.states.items;
  irreducible : IsIrreducible (OneOf l.list.rules) l.workspace.front;
  range : All (λ x. x < 2 ^ 16) (l.workspace.front ++ l.workspace.unread);
  leads : Leads (IsFirstStep l.list.rules) l.w l.steps.items (l.workspace.front ++ l.workspace.unread);
}

abbrev pub decreases-loop-steps : goal.decreases-loop-steps
decreases-loop-steps l = order_rank l.list.order (l.workspace.front ++ l.workspace.unread)
