use Rattle.std.proofs.Common.{ℕ, List, [], ◌∷◌, ◌++◌, sym, ap, ◌∙◌, subst}
use Rattle.kb_word.specs.Words.{Pair, OneOf}
use Rattle.kb_word.specs.WordOrders.{Below}
use Rattle.kb_word.specs.declared.word_order.WordOrder.{WordOrder}
use Rattle.kb_word.specs.Rewriting.{AreDecreasing, IsIrreducible, NormalForm}
use Rattle.kb_fsa.specs.Language.{generators}
use Rattle.kb_diff.proofs.GroupLemmas.{empty_is_irreducible}
use Rattle.kb_labels.proofs.UnequalPairs.{answer_found, answer_none}
use Rattle.kb_labels.proofs.unequal.least_unequal_second.Goals as goal

pub least-requires-clause-word : goal.least-requires-clause-word
least-requires-clause-word g c =
    let rules = g.R.Reducer.rules c.args.reducer.now in
    let order = g.R.Reducer.order c.args.reducer.now in
    let P : List ℕ → Type 0 = λ word. IsIrreducible (OneOf rules) word in
    let D : WordOrder → Type 0 = λ o. AreDecreasing (Below o) c.list.result.now.rules in
    let E : List Pair → Type 0 = λ rs. AreDecreasing (Below order) rs in
    let decreasing = subst E c.list.ensures.rules (subst D c.list.ensures.order c.as_slice-rules.ensures.decreasing) in
    subst P (sym c.new-word.ensures) (empty_is_irreducible order rules decreasing)

pub returns-clause-found : goal.returns-clause-found
returns-clause-found g c =
    let rules = g.R.Reducer.rules c.args.reducer.now in
    let pairs = c.args.multiplier.now in
    let first : List ℕ = c.args.first.now in
    let x : ℕ = c.args.x in
    let N : List ℕ → Type 0 = λ w. NormalForm rules w c.in_ok-target.target in
    let normal : NormalForm rules (first ++ x ∷ []) c.in_ok-target.target =
    subst N (c.in_ok-push.ensures.ok ∙ ap (λ w. w ++ x ∷ []) c.in_ok-product.ensures) c.in_ok-target.ensures in
    answer_found rules pairs x first c.in_ok-target.target c.requires.first normal c.least.result c.generators-n.result c.initial.result
    c.new-word.result (c.generators-n.ensures ∙ ap generators c.alphabet.ensures.alphabet) c.initial.ensures c.new-word.ensures
    c.least.ensures.found

pub returns-clause-none : goal.returns-clause-none
returns-clause-none g c =
    let rules = g.R.Reducer.rules c.args.reducer.now in
    let pairs = c.args.multiplier.now in
    let first : List ℕ = c.args.first.now in
    let x : ℕ = c.args.x in
    let N : List ℕ → Type 0 = λ w. NormalForm rules w c.in_ok-target.target in
    let normal : NormalForm rules (first ++ x ∷ []) c.in_ok-target.target =
    subst N (c.in_ok-push.ensures.ok ∙ ap (λ w. w ++ x ∷ []) c.in_ok-product.ensures) c.in_ok-target.ensures in
    answer_none rules pairs x first c.in_ok-target.target c.requires.first normal c.least.result c.generators-n.result c.initial.result
    c.new-word.result (c.generators-n.ensures ∙ ap generators c.alphabet.ensures.alphabet) c.initial.ensures c.new-word.ensures
    c.least.ensures.none
