use Rattle.std.proofs.Common.{rules, subst}
use Rattle.std.proofs.lemmas.List.Sorted.{IsNonDecreasingBy-from_sort_by_key}
use Rattle.std.proofs.lemmas.Result.{IfOk-weaker}
use Rattle.kb_fsa.specs.Table.{Moves}
use Rattle.kb_fsadet.specs.SubsetConstruction.{AreGroups}
use Rattle.kb_fsadet.proofs.Targets.{groups_from_sorted}
use Rattle.kb_fsadet.proofs.subset.grouped_by_sort.Goals as goal

pub grouped-requires : goal.grouped-requires
grouped-requires c =
    rw c.as_slice.ensures.value (IsNonDecreasingBy-from_sort_by_key (λ move. move.0) _ c.sort_unstable_by_key.ensures.sorted (λ a r q k. search rules))

pub returns : goal.returns
returns c =
    let moves = c.args.moves.items in
    let sorted = c.sort_unstable_by_key.new.self.items in
    IfOk-weaker c.grouped.result (λ groups. AreGroups c.as_slice.result.now groups.items) (λ groups. AreGroups moves groups.items)
    (λ groups grouped. groups_from_sorted moves sorted groups.items c.sort_unstable_by_key.ensures.permutation
    (let P : Moves → Type 0 = λ some. AreGroups some groups.items in subst P c.as_slice.ensures.value grouped))
    c.grouped.ensures
