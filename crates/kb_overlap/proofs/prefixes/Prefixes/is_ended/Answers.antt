use Rattle.std.proofs.Common.{List, ℕ, subst}
use Rattle.std.proofs.lemmas.Bool.{ltb-false, ltb-true}
use Rattle.kb_index.specs.Lefts.{IsLongestLeft}
use Rattle.kb_overlap.proofs.Suffixed.{ended_none, ended_some}
use Rattle.kb_overlap.proofs.prefixes.Prefixes.is_ended.Goals as goal

pub returns-clause-yes : goal.returns-clause-yes
returns-clause-yes c =
    let prefixes = c.args.self.now in
    let P : List (List ℕ) → Type 0 = λ lefts. IsLongestLeft prefixes.automaton.now.words lefts c.args.state c.end_at.result in
    λ some. ended_some c.requires.prefixes.states c.args.state c.end_at.result (subst P c.requires.prefixes.is c.end_at.ensures) (ltb-true 0 c.end_at.result some)

pub returns-clause-no : goal.returns-clause-no
returns-clause-no c =
    let prefixes = c.args.self.now in
    let P : List (List ℕ) → Type 0 = λ lefts. IsLongestLeft prefixes.automaton.now.words lefts c.args.state c.end_at.result in
    λ none. ended_none c.requires.prefixes.states c.args.state c.end_at.result (subst P c.requires.prefixes.is c.end_at.ensures) (ltb-false 0 c.end_at.result none)
