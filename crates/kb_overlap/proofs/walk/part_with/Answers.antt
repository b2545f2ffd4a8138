use Rattle.std.proofs.Common.{◌≡◌, ℕ, ◌-◌, sym, ◌∙◌, leb, length, ltb, rules, drop}
use Rattle.std.specs.Prelude.{slice_get}
use Rattle.std.specs.Ordering.{is_le, is_lt, is_some_and}
use Rattle.std.proofs.lemmas.List.{take_rest}
use Rattle.std.proofs.lemmas.List.Sorted.{IsPartitionPoint-from_clause, IsPartitionedBy-leb, IsPartitionedBy-ltb, IsNonDecreasingBy-drop, IsNonDecreasingBy-take}
use Rattle.kb_overlap.specs.declared.walk.Side.{Side}
use Rattle.kb_overlap.proofs.Keys.{key, key_at, compared, less_by_key, at_most_by_key, with_letter_by_key}
use Rattle.kb_overlap.proofs.Lists.{key_part_of}
use Rattle.kb_overlap.proofs.Walking.{keys_rise}
use Rattle.kb_overlap.proofs.walk.part_with.Goals as goal

pub returns : goal.returns
returns c =
    let sought = key c.args.letter in
    let key_of : Side → ℕ = λ side. key_at c.args.depth side.letters.now in
    let sides = c.args.sides.now in
    let start = c.partition_point.result in
    let rises = keys_rise c.args.depth sides c.requires in
    let lower = IsPartitionPoint-from_clause (λ side. ltb (key_of side) sought) _ _ c.partition_point.ensures.partitioned
    (IsPartitionedBy-ltb key_of _ sought rises)
    (λ a r q k.
    let answer : r ≡ is_some_and is_lt (compared (slice_get a.0.now.letters.now c.args.depth) c.args.letter) = search rules in
    (answer ∙ less_by_key _ _, search rules)) in
    let higher = IsPartitionPoint-from_clause (λ side. leb (key_of side) sought) _ _ c.partition_point-2.ensures.partitioned
    (IsPartitionedBy-leb key_of _ sought
    (IsNonDecreasingBy-take key_of (length sides - start) (drop start sides) (IsNonDecreasingBy-drop key_of start sides rises)))
    (λ a r q k.
    let answer : r ≡ is_some_and is_le (compared (slice_get a.0.now.letters.now c.args.depth) c.args.letter) = search rules in
    (answer ∙ at_most_by_key _ _, search rules)) in
    key_part_of key_of sought sides _ start c.partition_point-2.result (take_rest sides start) lower higher c.partition_point-2.ensures.bound
    ∙ sym (with_letter_by_key c.args.depth c.args.letter sides)
