use Rattle.std.proofs.Common.{◌≡◌, ◌+◌, ◌-◌, ◌*◌, [], ◌∷◌, ◌++◌, sym, ap, ap₂, ◌∙◌}
use Rattle.std.specs.List.{filter_map}
use Rattle.kb_fsa.specs.PairSymbols.{second_letter}
use Rattle.kb_compose.specs.StatePairs.{joined}
use Rattle.kb_compose.proofs.Blocks.{block_makes, pushed_staying, pushed_moving}
use Rattle.kb_compose.proofs.joining.push_joined.Goals as goal

pub returns-in_ok-push_each-2 : goal.returns-in_ok-push_each-2
returns-in_ok-push_each-2 c =
    let n = c.args.symbols.n in
    let table = c.args.second.now in
    let q = c.args.q in
    let entry = c.args.entry in
    let h = joined n entry in
    let old = c.args.moves.now.items in
    let high_is : c.padding.result * c.second.result ≡ (n + 1) * second_letter n entry.0 = ap₂ (λ a b. a * b) c.padding.ensures c.second.ensures in
    let low_is = ap₂ (λ a b. a - b) high_is c.padding-2.ensures in
    let block = block_makes n table q entry c.as_slice.result.now _ _ c.block_of-block.result.now
    (c.as_slice.ensures.value ∙ c.moves.ensures.moves) c.moves.ensures.row low_is high_is c.block_of-block.ensures in
    let stay = pushed_staying n table q entry old (sym c.is_accepting.ensures ∙ c.if-is_accepting.true) in
    c.in_ok-push_each-2.ensures
    ∙ ap₂ (λ a s. a ++ filter_map h ((s + 1, q) ∷ [])) (c.in_ok-push_each.ensures ∙ ap (λ l. old ++ l) block) c.count.ensures
    ∙ stay

pub returns-else-is_accepting : goal.returns-else-is_accepting
returns-else-is_accepting c =
    let n = c.args.symbols.n in
    let table = c.args.second.now in
    let q = c.args.q in
    let entry = c.args.entry in
    let old = c.args.moves.now.items in
    let high_is : c.padding.result * c.second.result ≡ (n + 1) * second_letter n entry.0 = ap₂ (λ a b. a * b) c.padding.ensures c.second.ensures in
    let low_is = ap₂ (λ a b. a - b) high_is c.padding-2.ensures in
    let block = block_makes n table q entry c.as_slice.result.now _ _ c.block_of-block.result.now
    (c.as_slice.ensures.value ∙ c.moves.ensures.moves) c.moves.ensures.row low_is high_is c.block_of-block.ensures in
    c.in_ok-push_each.ensures ∙ ap (λ l. old ++ l) block
    ∙ pushed_moving n table q entry old (sym c.is_accepting.ensures ∙ c.if-is_accepting.false)
