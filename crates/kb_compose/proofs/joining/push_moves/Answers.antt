use Rattle.std.proofs.Common.{◌+◌, ◌++◌, sym, ap, ap₂, ◌∙◌, arith}
use Rattle.std.specs.List.{flat_map}
use Rattle.std.proofs.lemmas.List.{take_all}
use Rattle.kb_fsa.specs.PairSymbols.{pair_symbols}
use Rattle.kb_compose.specs.StatePairs.{joined_moves, staying_moves}
use Rattle.kb_compose.proofs.Blocks.{symbol_low, pair_staying}
use Rattle.kb_compose.proofs.joining.push_moves.Goals as goal

pub push_joined-requires : goal.push_joined-requires
push_joined-requires c =
    symbol_low (pair_symbols c.args.symbols.n) c.args.first.now c.first_state-p.result c.as_slice-entry-items.result.now c.requires
    (c.as_slice-entry-items.ensures.value ∙ c.moves.ensures.moves) c.loop-entry.entry-index (0, 0) c.loop-entry-test.true

pub returns-in_ok-push_joined-2 : goal.returns-in_ok-push_joined-2
returns-in_ok-push_joined-2 c =
    let n = c.args.symbols.n in
    let first = c.args.first.now in
    let second = c.args.second.now in
    let p = c.first_state-p.result in
    let q = c.second_state-q.result in
    let f = joined_moves n second q in
    let old = c.args.moves.now.items in
    let slice = c.as_slice-entry-items.result.now in
    let all = take_all c.loop-entry.entry-index slice (omega (arith, c.loop-entry-test.false)) in
    let moved = c.loop-entry.invariant ∙ ap (λ l. old ++ flat_map f l) (all ∙ c.as_slice-entry-items.ensures.value ∙ c.moves.ensures.moves) in
    let stay = pair_staying n first p old f (sym c.is_accepting.ensures ∙ c.if-is_accepting.true) in
    c.in_ok-push_joined-2.ensures ∙ ap₂ (λ a s. a ++ f (s + 1, p)) moved c.count.ensures ∙ stay
    ∙ ap₂ (λ a b. old ++ flat_map (joined_moves n second a) (staying_moves n first b)) c.second_state-q.ensures c.first_state-p.ensures
