use Rattle.std.proofs.Common.{List, ◌<◌, ◌^◌, ◌++◌, All, ℕ}
use Rattle.kb_word.specs.Words.{OneOf}
use Rattle.kb_word.specs.WordOrderLaws.{order_rank}
use Rattle.kb_word.specs.Rewriting.{IsIrreducible, NormalForm}
use Rattle.kb_index.specs.Automata.{AreStatesAlong}
use Rattle.kb_index.proofs.reading.reduce.Given as goal

abbrev pub invariant-loop : goal.invariant-loop
invariant-loop l = record {
  states : AreStatesAlong l.automaton.words l.workspace.front l.workspace.states.items;
  irreducible : IsIrreducible (OneOf l.list.rules) l.workspace.front;
  range : All (λ x. x < 2 ^ 16) (l.workspace.front ++ l.workspace.unread);
  leads : (m : List ℕ) → NormalForm l.list.rules (l.workspace.front ++ l.workspace.unread) m → NormalForm l.list.rules l.w m;
}

abbrev pub decreases-loop : goal.decreases-loop
decreases-loop l = order_rank l.list.order (l.workspace.front ++ l.workspace.unread)
