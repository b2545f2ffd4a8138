use Rattle.std.proofs.Common.{◌≡◌, ◌+◌, ◌*◌, ◌^◌, ◌<◌, ◌≤◌, length, drop}
use Rattle.std.specs.List.{All}
use Rattle.kb_count.specs.Limbs.{value_of}
use Rattle.kb_count.proofs.natural.sum_of.Given as goal

-- the sum up to the place, with what is carried and what is left of both numbers, is that of both
abbrev pub invariant-loop-place : goal.invariant-loop-place
invariant-loop-place l = record {
  carry : l.carry ≤ 1;
  small : All (λ limb. limb < 10 ^ 18) l.limbs.items;
  count : length l.limbs.items ≡ l.place;
  total : value_of l.limbs.items
      + (l.carry + (value_of (drop l.place l.one) + value_of (drop l.place l.other))) * (10 ^ 18) ^ l.place
      ≡ value_of l.one + value_of l.other;
}
