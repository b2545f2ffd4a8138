use Rattle.std.proofs.Common.{◌-◌, leb, drop, length, ◌∙◌, arith, rules, tests}
use Rattle.std.proofs.lemmas.Iterator.{YieldsList-from_slice}
use Rattle.std.proofs.lemmas.Iterator.Search.{find_from_yields_List}
use Rattle.std.proofs.lemmas.List.{length-drop, take_all}
use Rattle.std.proofs.lemmas.List.Sorted.{IsPartitionPoint-from_clause, IsPartitionedBy-leb}
use Rattle.kb_fsadet.specs.SubsetConstruction.{is_member}
use Rattle.kb_fsarat.proofs.LayerLemmas.{find_above, non_decreasing_from_ascends}
use Rattle.kb_fsarat.proofs.layers.first_move_into.Goals as goal

pub returns : goal.returns
returns c =
    let moves = c.args.moves.now in
    let floor = c.args.floor in
    let above = c.partition_point-above.result in
    let point = IsPartitionPoint-from_clause (λ move. leb move.0 floor) moves above c.partition_point-above.ensures.partitioned
    (IsPartitionedBy-leb (λ move. move.0) moves floor (non_decreasing_from_ascends moves c.requires)) (λ a r q k. search rules) in
    let rest = take_all (length moves - above) (drop above moves) (let long = length-drop above moves in omega arith) in
    c.copied.ensures
    ∙ find_from_yields_List (λ move. is_member c.args.set.now move.1) _ _ c.find.result c.find.ensures.ran
    (YieldsList-from_slice (drop above moves) (c.iter.ensures.rest ∙ rest)) (λ x b q k. search (rules, tests))
    ∙ find_above (λ move. is_member c.args.set.now move.1) floor moves above point
