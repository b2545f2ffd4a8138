use Rattle.std.proofs.Common.{subst}
use Rattle.kb_index.specs.Automata.{Sides}
use Rattle.kb_index.specs.Lefts.{IsLongestLeft}
use Rattle.kb_index.proofs.Places.{longest_listed}
use Rattle.kb_index.proofs.automaton.Automaton.end_at.Goals as goal

pub returns : goal.returns
returns c =
    let inside = c.self.inside in
    let P : Sides → Type 0 = λ v. IsLongestLeft v.words v.lefts c.args.state c.end_at.result in
    subst P c.self.view_is
    (longest_listed inside.lookup.words inside.lookup.lefts inside.numbers.items c.self.invariant c.args.state c.end_at.result c.end_at.ensures)
