use Rattle.std.proofs.Common.{◌≡◌, ◌<◌, ◌^◌, ◌++◌, All, length}
use Rattle.kb_word.specs.Words.{OneOf}
use Rattle.kb_word.specs.Rewriting.{IsIrreducible}
use Rattle.kb_index.specs.Automata.{AreStatesAlong}
use Rattle.kb_index.proofs.reading.next_step.Given as goal

abbrev pub invariant-loop-letter : goal.invariant-loop-letter
invariant-loop-letter l = record {
  states : AreStatesAlong l.automaton.words l.workspace.front l.workspace.states.items;
  irreducible : IsIrreducible (OneOf l.list.rules) l.workspace.front;
  range : All (λ x. x < 2 ^ 16) (l.workspace.front ++ l.workspace.unread);
  same : l.workspace.front ++ l.workspace.unread ≡ l.fn.workspace.front ++ l.fn.workspace.unread;
}

abbrev pub decreases-loop-letter : goal.decreases-loop-letter
decreases-loop-letter l = length l.workspace.unread
