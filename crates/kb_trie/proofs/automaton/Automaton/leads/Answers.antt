use Rattle.std.proofs.Common.{◌≡◌, ℕ, ◌+◌, ◌-◌, ◌<◌, List, [], ◌∷◌, ◌++◌, length, sym, ap, ◌∙◌, subst, arith}
use Rattle.std.proofs.lemmas.Bool.{eqb-true, eq-eqb}
use Rattle.std.proofs.lemmas.Option.{get_or_from_slice_get}
use Rattle.kb_trie.specs.declared.edge.Edge.{Edge}
use Rattle.kb_trie.specs.Edges.{edge_at, no_edge, words_of}
use Rattle.kb_trie.specs.States.{word}
use Rattle.kb_trie.specs.Steps.{IsStep}
use Rattle.kb_trie.proofs.Leading.{led_by}
use Rattle.kb_trie.proofs.automaton.Automaton.leads.Goals as goal

pub returns : goal.returns
returns c =
    let is = c.requires.automaton.states in
    let edges : List Edge = c.args.self.now.edges.keys in
    let words : List (List ℕ) = words_of c.args.self.now.edges.keys in
    let letter : ℕ = c.index.result.now.letter in
    let place : ℕ = c.args.after - 1 in
    let some : 0 < c.args.after = c.requires.some in
    let same : place + 1 ≡ c.args.after = omega arith in
    let within : place < length edges = omega (arith, is.spell.count, c.requires.after) in
    let edge : edge_at edges place ≡ c.index.result.now = get_or_from_slice_get edges place c.index.result.now no_edge c.index.ensures in
    let parent : ℕ = (edge_at edges place).parent in
    let spelled : word words c.args.after ≡ word words parent ++ letter ∷ [] =
    ap (word words) (sym same) ∙ is.spell.spelled place within ∙ ap (λ (e : Edge). word words parent ++ e.letter ∷ []) edge in
    let P : ℕ → Type 0 = λ s. IsStep (words_of c.args.self.now.edges.keys) c.args.state c.index.result.now.letter s in (
      λ true_is. record { letter = letter; step = subst P (eqb-true c.step.result c.args.after true_is) c.step.ensures },
      λ led. eq-eqb c.step.result c.args.after (led_by words is.are c.args.state parent letter c.args.after c.step.result spelled c.step.ensures led),
    )
