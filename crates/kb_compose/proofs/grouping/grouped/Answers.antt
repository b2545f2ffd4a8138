use Rattle.std.proofs.Common.{◌≡◌, ℕ, leb, map, take, sym, ap, ◌∙◌, arith, rules}
use Rattle.std.proofs.lemmas.List.Sorted.{IsPartitionPoint-from_clause, IsPartitionedBy-leb}
use Rattle.kb_fsa.specs.Table.{Moves}
use Rattle.kb_fsadet.specs.SubsetConstruction.{set_of}
use Rattle.kb_fsadet.proofs.Groups.{AreParted, parted, grouped_none}
use Rattle.kb_compose.proofs.Groupings.{groups_begun, group_placed, group_left}
use Rattle.kb_compose.proofs.grouping.grouped.Goals as goal

-- the first group, where it is placed, and where it isn't
parts : (c : goal.In_ok-push) → AreParted c.loop-first.rest.now c.in-Some.first.now.0 c.partition_point-count.result
parts c =
    let rest = c.loop-first.rest.now in
    let first = c.in-Some.first.now in
    let count = c.partition_point-count.result in
    let in_order = c.loop-first.invariant.grouped.in_order in
    let point = IsPartitionPoint-from_clause (λ move. leb move.0 first.0) rest count c.partition_point-count.ensures.partitioned
    (IsPartitionedBy-leb (λ move. move.0) rest first.0 in_order) (λ a r q k. search rules) in
    parted first rest count (sym c.in-Some.ensures.value) in_order c.partition_point-count.ensures.bound point

other_parts : (c : goal.In_default-after) → AreParted c.loop-first.rest.now c.in-Some.first.now.0 c.partition_point-count.result
other_parts c =
    let rest = c.loop-first.rest.now in
    let first = c.in-Some.first.now in
    let count = c.partition_point-count.result in
    let in_order = c.loop-first.invariant.grouped.in_order in
    let point = IsPartitionPoint-from_clause (λ move. leb move.0 first.0) rest count c.partition_point-count.ensures.partitioned
    (IsPartitionedBy-leb (λ move. move.0) rest first.0 in_order) (λ a r q k. search rules) in
    parted first rest count (sym c.in-Some.ensures.value) in_order c.partition_point-count.ensures.bound point

pub loop-first-init : goal.loop-first-init
loop-first-init c =
    rw c.new-places.ensures.items (groups_begun c.args.alphabet c.args.ended c.args.moves.now (grouped_none c.args.moves.now c.requires.order))

pub loop-first-smaller-in_ok-push : goal.loop-first-smaller-in_ok-push
loop-first-smaller-in_ok-push c =
    let some = (parts c).some in
    omega (arith, c.split_at.ensures.back_len)

pub loop-first-smaller : goal.loop-first-smaller
loop-first-smaller c =
    let some = (other_parts c).some in
    omega (arith, c.split_at.ensures.back_len)

pub loop-first-preserved-in_ok-push : goal.loop-first-preserved-in_ok-push
loop-first-preserved-in_ok-push c =
    let rest = c.loop-first.rest.now in
    let symbol = c.in-Some.first.now.0 in
    let count = c.partition_point-count.result in
    let more = group_placed c.args.alphabet c.args.ended c.args.moves.now rest c.loop-first.places.items c.loop-first.invariant symbol count
    (parts c) c.in-Some-after.next (sym c.after.ensures ∙ c.in-Some-after.is) in
    let targets = map (λ (move : ℕ × ℕ). move.1) (take count rest) in
    let set : c.of-pairs.result ≡ set_of targets =
    c.of-pairs.ensures ∙ ap set_of (c.in_ok-targets_of.ensures ∙ ap (λ (moves : Moves). map (λ move. move.1) moves) c.split_at.ensures.front) in
    rw (c.in_ok-push.ensures.items, c.split_at.ensures.back, set) more

pub loop-first-preserved : goal.loop-first-preserved
loop-first-preserved c =
    let left = group_left c.args.alphabet c.args.ended c.args.moves.now c.loop-first.rest.now c.loop-first.places.items
    c.loop-first.invariant c.in-Some.first.now.0 c.partition_point-count.result (other_parts c) (sym c.after.ensures ∙ c.in_default-after.is) in
    rw c.split_at.ensures.back left
