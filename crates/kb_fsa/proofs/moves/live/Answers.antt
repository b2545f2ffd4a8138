use Rattle.std.proofs.Common.{◌≡◌, ◌↔◌, ℕ, false, Bool, List, ◌∷◌, ◌++◌, ap, ◌∙◌, subst}
use Rattle.std.proofs.lemmas.Result.{IfOk-weaker}
use Rattle.kb_fsa.specs.Table.{IsLive}
use Rattle.kb_fsa.specs.Graphs.{IsMarked, IsReached}
use Rattle.kb_fsa.proofs.MoveLemmas.{live_is_reached}
use Rattle.kb_fsa.proofs.moves.live.Goals as goal

pub returns-clause-live : goal.returns-clause-live
returns-clause-live c =
    let table = c.args.table.now in
    let seeds : c.as_slice-2.result.now ≡ false ∷ table.accepting =
    c.as_slice-2.ensures.value ∙ c.in_ok-extend_from_slice.ensures.items ∙ ap (λ v. v ++ c.accepting.result.now) c.in_ok-seeds.ensures.items
    ∙ ap (λ a. false ∷ a) c.accepting.ensures.accepting in
    IfOk-weaker c.reached.result _ (λ marks. (state : ℕ) → IsMarked marks.items state ↔ IsLive table state)
    (λ marks is state.
    let there = live_is_reached table c.args.moves.now.edges.items c.args.moves.now.symbols.items c.accepting.ensures.table c.requires state in
    let P : List Bool → Type 0 = λ s. IsMarked marks.items state ↔ IsReached c.args.moves.now.edges.items s state in
    let here = subst P seeds (subst (λ (es : List (ℕ × ℕ)). IsMarked marks.items state ↔ IsReached es c.as_slice-2.result.now state) c.as_slice.ensures.value (is state)) in
    (λ mark. there.0 (here.0 mark), λ live. here.1 (there.1 live)))
    c.reached.ensures.reached
