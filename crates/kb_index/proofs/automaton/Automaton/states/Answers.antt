use Rattle.std.proofs.Common.{subst}
use Rattle.kb_index.specs.Automata.{Sides}
use Rattle.kb_index.specs.Lefts.{AreStates}
use Rattle.kb_index.proofs.Places.{are_states}
use Rattle.kb_index.proofs.automaton.Automaton.states.Goals as goal

pub returns-clause-lefts : goal.returns-clause-lefts
returns-clause-lefts c =
    let inside = c.self.inside in
    let P : Sides → Type 0 = λ v. AreStates v.words v.lefts in
    subst P c.self.view_is (are_states inside.lookup.words inside.lookup.lefts inside.numbers.items c.self.invariant c.count-count.ensures.lefts)
