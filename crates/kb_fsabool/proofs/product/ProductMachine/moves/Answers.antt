use Rattle.std.proofs.Common.{◌≡◌, ◌∙◌, ap, subst}
use Rattle.std.proofs.lemmas.Result.{IfOk-weaker}
use Rattle.kb_fsa.specs.Table.{Moves, moves_of}
use Rattle.kb_fsabool.specs.Products.{AreMerged}
use Rattle.kb_fsabool.proofs.ProductLemmas.{product_moves}
use Rattle.kb_fsabool.proofs.product.ProductMachine.moves.Goals as goal

pub returns : goal.returns
returns c =
    let connective = c.args.self.now.connective in let state = c.args.state.now in
    let one = c.args.self.now.one.now in let two = c.args.self.now.two.now in
    let first : c.as_slice.result.now ≡ moves_of one.table state.first =
    c.as_slice.ensures.value ∙ c.moves-first.ensures.moves ∙ ap (λ t. moves_of t state.first) c.table-one.ensures.table in
    let second : c.as_slice-2.result.now ≡ moves_of two.table state.second =
    c.as_slice-2.ensures.value ∙ c.moves-second.ensures.moves ∙ ap (λ t. moves_of t state.second) c.table-two.ensures.table in
    IfOk-weaker c.merge.result _ _ (λ moves merged.
    product_moves connective one two state moves.items c.table-one.ensures.automaton c.table-two.ensures.automaton
    (subst (λ (row : Moves). AreMerged connective (moves_of one.table state.first) row moves.items) second
    (subst (λ (row : Moves). AreMerged connective row c.as_slice-2.result.now moves.items) first merged)))
    c.merge.ensures
