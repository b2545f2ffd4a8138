use Rattle.std.proofs.Common.{◌≡◌, ℕ, leb, [], get_or, map, take, sym, add-one, ap, ◌∙◌, subst, arith, rules}
use Rattle.std.specs.List.Sorted.{IsPermutation}
use Rattle.std.proofs.lemmas.List.{get_or_read}
use Rattle.std.proofs.lemmas.List.Sorted.{IsNonDecreasingBy-from_sort_by_key, IsPartitionPoint-from_clause, IsPartitionedBy-leb}
use Rattle.kb_fsa.specs.Table.{Moves}
use Rattle.kb_fsadet.specs.SubsetConstruction.{moves_of_each}
use Rattle.kb_fsadet.proofs.Groups.{AreParted, parted}
use Rattle.kb_fsaleast.proofs.Steps.{Partway-begun, Partway-more, Progress-more, targets_known, nothing_left}
use Rattle.kb_fsaleast.proofs.classes.follow.Goals as goal

pub loop-first-init : goal.loop-first-init
loop-first-init c =
    let nfa = c.args.nfa.now in
    let members = c.args.classes.now.members.items in
    let followed = c.args.followed in
    let sorted = c.sort_unstable_by_key.new.self.items in
    let class : c.as_slice.result.now ≡ get_or members followed [] =
    c.as_slice.ensures ∙ get_or_read members followed _ c.requires.more c.index.ensures [] in
    let gathered : c.in_ok-moves.moves.items ≡ moves_of_each nfa (get_or members followed []) = c.in_ok-moves.ensures.moves ∙ ap (moves_of_each nfa) class in
    let permuted = let P : Moves → Type 0 = λ moves. IsPermutation moves sorted in subst P gathered c.sort_unstable_by_key.ensures.permutation in
    rw c.as_slice-rest.ensures.value (Partway-begun c.requires.progress c.requires.more c.requires.rejects sorted permuted
    (IsNonDecreasingBy-from_sort_by_key (λ (move : ℕ × ℕ). move.0) sorted c.sort_unstable_by_key.ensures.sorted (λ a r q k. search rules)))

parts : (c : goal.After-drop-targets-in-Some) → AreParted c.loop-first.rest.now c.in-Some.first.now.0 c.partition_point-count.result
parts c =
    let rest = c.loop-first.rest.now in
    let first = c.in-Some.first.now in
    let count = c.partition_point-count.result in
    let in_order = c.loop-first.invariant.in_order in
    let point = IsPartitionPoint-from_clause (λ (move : ℕ × ℕ). leb move.0 first.0) rest count c.partition_point-count.ensures.partitioned
    (IsPartitionedBy-leb (λ (move : ℕ × ℕ). move.0) rest first.0 in_order) (λ a r q k. search rules) in
    parted first rest count (sym c.in-Some.ensures.value) in_order c.partition_point-count.ensures.bound point

pub add-requires : goal.add-requires
add-requires c =
    rw (c.as_slice-in-Some.ensures.value, c.in_ok-targets.ensures, c.split_at.ensures.front)
    (targets_known c.in_ok-moves.ensures.automaton c.loop-first.invariant c.partition_point-count.result)

pub loop-first-smaller : goal.loop-first-smaller
loop-first-smaller c =
    let some = (parts c).some in
    omega (arith, c.split_at.ensures.back_len)

pub loop-first-preserved : goal.loop-first-preserved
loop-first-preserved c =
    let count = c.partition_point-count.result in
    let targets : c.as_slice-in-Some.result.now ≡ map (λ move. move.1) (take count c.loop-first.rest.now) =
    c.as_slice-in-Some.ensures.value ∙ c.in_ok-targets.ensures ∙ ap (λ (moves : Moves). map (λ move. move.1) moves) c.split_at.ensures.front in
    let added = rw (targets, add-one c.args.followed) at c.in_ok-add.ensures in
    rw c.split_at.ensures.back
    (Partway-more c.loop-first.invariant c.in-Some.first.now.0 count (parts c) c.add.new.classes.members.items c.add.new.classes.origins.items
    c.add.new.classes.seen.items added)

pub returns : goal.returns
returns c = rw add-one (Progress-more c.loop-first.invariant (nothing_left c.loop-first.rest.now (sym c.in_default.ensures.value)))
