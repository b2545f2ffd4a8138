use Rattle.std.proofs.Common.{◌-◌, leb, length, take, drop, rules}
use Rattle.std.proofs.lemmas.List.{take_rest}
use Rattle.std.proofs.lemmas.List.Sorted.{IsPartitionPoint-from_clause, IsPartitionedBy-leb}
use Rattle.kb_compose.proofs.Blocks.{row_rises, rest_rises, block_found}
use Rattle.kb_compose.proofs.joining.block_of.Goals as goal

pub returns : goal.returns
returns c =
    let moves = c.args.moves.now in
    let i = c.partition_point.result in
    let above = take (length moves - i) (drop i moves) in
    let same = take_rest moves i in
    let first = IsPartitionPoint-from_clause (λ move. leb move.0 c.args.low) moves i c.partition_point.ensures.partitioned
    (IsPartitionedBy-leb (λ move. move.0) moves c.args.low (row_rises moves c.requires.ascends)) (λ a r q k. search rules) in
    let second = IsPartitionPoint-from_clause (λ move. leb move.0 c.args.high) above c.partition_point-2.result
    c.partition_point-2.ensures.partitioned
    (IsPartitionedBy-leb (λ move. move.0) above c.args.high (rest_rises moves above i same c.requires.ascends)) (λ a r q k. search rules) in
    block_found moves above c.args.low c.args.high i c.partition_point-2.result same c.partition_point.ensures.bound first
    c.partition_point-2.ensures.bound second
