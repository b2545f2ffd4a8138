use Rattle.std.proofs.Common.{ℕ, Option, IfNone, sym, ap, ◌∙◌, subst}
use Rattle.std.specs.Option.{is_some}
use Rattle.std.proofs.lemmas.Bool.{true≢false}
use Rattle.std.proofs.lemmas.List.Quantifiers.{position-Some}
use Rattle.kb_trie.specs.States.{IsNoChild}
use Rattle.kb_trie.specs.Edges.{no_edge, words_of}
use Rattle.kb_trie.proofs.Edges.{found_child, edge_there}
use Rattle.kb_trie.proofs.child.child.Goals as goal

pub returns-in_err-place-clause-none : goal.returns-in_err-place-clause-none
returns-in_err-place-clause-none c =
    let N : Option ℕ → Type 0 = λ r. IfNone r (IsNoChild (words_of c.args.edges.now.keys) c.args.state c.args.letter) in
    let none : IsNoChild (words_of c.args.edges.now.keys) c.args.state c.args.letter = λ child is.
    let there = edge_there c.args.edges.now.keys _ c.requires.states.are c.requires.states.spell c.args.state c.args.letter child c.requires.state is in
    true≢false (sym there ∙ sym c.get_index_of.ensures.found ∙ ap is_some c.in_err-place.was) in
    subst N (sym c.from_residual.ensures) none

pub returns-clause-some : goal.returns-clause-some
returns-clause-some c =
    let found = position-Some _ c.args.edges.now.keys c.in_ok-place.place no_edge (sym c.in_ok-place.ensures.index) in
    found_child c.args.edges.now.keys _ c.requires.states.spell c.args.state c.args.letter c.in_ok-place.place found.0 found.1
