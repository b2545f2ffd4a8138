use Rattle.std.proofs.Common.{◌≡◌, ◌↔◌, ℕ, ◌<◌, Bool, false, List, ◌∷◌, length, suc, drop, sym, ap, ◌∙◌, subst, arith, rules}
use Rattle.std.specs.List.{All}
use Rattle.std.proofs.lemmas.List.{take_all, length-drop}
use Rattle.kb_fsa.specs.Graphs.{IsMarked, IsReached}
use Rattle.kb_fsadet.specs.FirstWords.{tail_edges}
use Rattle.kb_certificates.specs.FirstWords.{AreEnds}
use Rattle.kb_certificates.proofs.Tails.{are_ends, edges_within}
use Rattle.kb_certificates.proofs.first_words.ends.Goals as goal

pub reached-requires-clause-edges : goal.reached-requires-clause-edges
reached-requires-clause-edges c =
    let pairs = c.args.pairs.now in
    let n : ℕ = c.args.symbols.n in
    let edges_are : c.as_slice.result.now ≡ tail_edges n 1 pairs.rows = search rules in
    let seeds_are : c.as_slice-2.result.now ≡ false ∷ pairs.accepting = search rules in
    let long : length c.as_slice-2.result.now ≡ suc (length pairs.rows) = omega (arith, ap length seeds_are, c.rows.ensures.automaton.one_answer_each) in
    let P : ℕ → List (ℕ × ℕ) → Type 0 = λ k edges. All (λ edge. (edge.0 < k) × (edge.1 < k)) edges in
    let Q : List (ℕ × ℕ) → Type 0 = λ edges. P (length c.as_slice-2.result.now) edges in
    let R : ℕ → Type 0 = λ k. P k (tail_edges n 1 pairs.rows) in
    subst Q (sym edges_are) (subst R (sym long) (edges_within n pairs c.rows.ensures.automaton c.requires))

pub returns : goal.returns
returns c =
    let pairs = c.args.pairs.now in
    let n : ℕ = c.args.symbols.n in
    let marks = c.in_ok-marks.marks.items in
    let edges_are : c.as_slice.result.now ≡ tail_edges n 1 pairs.rows = search rules in
    let seeds_are : c.as_slice-2.result.now ≡ false ∷ pairs.accepting = search rules in
    let long : length marks ≡ suc (length pairs.rows) =
    omega (arith, c.in_ok-marks.ensures.one_each, ap length seeds_are, c.rows.ensures.automaton.one_answer_each) in
    let P : List (ℕ × ℕ) → Type 0 = λ edges. (x : ℕ) → IsMarked marks x ↔ IsReached edges c.as_slice-2.result.now x in
    let Q : List Bool → Type 0 = λ seeds. (x : ℕ) → IsMarked marks x ↔ IsReached (tail_edges n 1 pairs.rows) seeds x in
    let ends = are_ends n pairs c.rows.ensures.automaton c.requires marks long (subst Q seeds_are (subst P edges_are c.in_ok-marks.ensures.reached)) in
    let items : c.in_ok-of_states.of_states.items ≡ drop 1 marks =
    c.in_ok-of_states.ensures.items ∙ take_all _ (drop 1 c.deref.result.now) (omega (arith, length-drop 1 c.deref.result.now))
    ∙ ap (drop 1) c.deref.ensures.value in
    subst (AreEnds n pairs) (sym items) ends
