use Rattle.std.proofs.Common.{rules, subst}
use Rattle.std.proofs.lemmas.List.Sorted.{IsNonDecreasingBy-from_sort_by_key}
use Rattle.std.proofs.lemmas.Result.{IfOk-weaker}
use Rattle.kb_fsa.specs.Table.{Moves}
use Rattle.kb_compose.specs.StatePairs.{AreGroupMoves}
use Rattle.kb_compose.proofs.Groupings.{groups_of_sorted}
use Rattle.kb_compose.proofs.grouping.grouped_by_sort.Goals as goal

pub grouped-requires-clause-order : goal.grouped-requires-clause-order
grouped-requires-clause-order c =
    rw c.as_slice.ensures.value (IsNonDecreasingBy-from_sort_by_key (λ move. move.0) _ c.sort_unstable_by_key.ensures.sorted (λ a r q k. search rules))

pub returns : goal.returns
returns c =
    let alphabet = c.args.alphabet in
    let ended = c.args.ended in
    let moves = c.args.moves.items in
    let sorted = c.sort_unstable_by_key.new.self.items in
    IfOk-weaker c.grouped.result (λ places. AreGroupMoves alphabet ended c.as_slice.result.now places.items)
    (λ places. AreGroupMoves alphabet ended moves places.items)
    (λ places are. groups_of_sorted alphabet ended moves sorted places.items c.sort_unstable_by_key.ensures.permutation
    (let P : Moves → Type 0 = λ some. AreGroupMoves alphabet ended some places.items in subst P c.as_slice.ensures.value are))
    c.grouped.ensures
