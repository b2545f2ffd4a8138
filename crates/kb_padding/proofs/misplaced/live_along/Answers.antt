use Rattle.std.proofs.Common.{◌≡◌, ◌↔◌, ℕ, false, Bool, List, ◌+◌, ◌∷◌, ◌++◌, length, ap, ◌∙◌, subst, arith}
use Rattle.std.proofs.lemmas.Result.{IfOk-weaker}
use Rattle.kb_fsa.specs.Graphs.{IsMarked, IsReached}
use Rattle.kb_padding.specs.Cleaning.{turned}
use Rattle.kb_padding.proofs.EdgeLemmas.{turned_within_count}
use Rattle.kb_padding.proofs.misplaced.live_along.Goals as goal

pub reached-requires-clause-edges : goal.reached-requires-clause-edges
reached-requires-clause-edges c =
    let seeds : c.as_slice-2.result.now ≡ false ∷ c.args.table.now.accepting =
    c.as_slice-2.ensures.value ∙ c.in_ok-extend_from_slice.ensures.items ∙ ap (λ v. v ++ c.accepting.result.now) c.in_ok-seeds.ensures.items
    ∙ ap (λ a. false ∷ a) c.accepting.ensures.accepting in
    let one = c.accepting.ensures.table.one_answer_each in
    turned_within_count c.args.edges.now c.as_slice.result.now (length c.args.table.now.rows + 1) (length c.as_slice-2.result.now)
    (c.as_slice.ensures.value ∙ c.in_ok-back.ensures) (omega (arith, ap length seeds)) c.requires

pub returns : goal.returns
returns c =
    let table = c.args.table.now in
    let seeds : c.as_slice-2.result.now ≡ false ∷ table.accepting =
    c.as_slice-2.ensures.value ∙ c.in_ok-extend_from_slice.ensures.items ∙ ap (λ v. v ++ c.accepting.result.now) c.in_ok-seeds.ensures.items
    ∙ ap (λ a. false ∷ a) c.accepting.ensures.accepting in
    IfOk-weaker c.reached.result _ (λ marks. (state : ℕ) → IsMarked marks.items state ↔ IsReached (turned c.args.edges.now) (false ∷ table.accepting) state)
    (λ marks is state.
    let P : List Bool → Type 0 = λ s. IsMarked marks.items state ↔ IsReached (turned c.args.edges.now) s state in
    subst P seeds (subst (λ (es : List (ℕ × ℕ)). IsMarked marks.items state ↔ IsReached es c.as_slice-2.result.now state)
    (c.as_slice.ensures.value ∙ c.in_ok-back.ensures) (is state)))
    c.reached.ensures.reached
