use Rattle.std.proofs.Common.{◌≡◌, ◌≤◌, length, drop}
use Rattle.kb_count.specs.Limbs.{value_of}
use Rattle.kb_count.proofs.natural.significant.Given as goal

-- the limbs behind are zeros
abbrev pub invariant-loop-count : goal.invariant-loop-count
invariant-loop-count l = record {
  within : l.count ≤ length l.limbs;
  zeros : value_of (drop l.count l.limbs) ≡ 0;
}

abbrev pub decreases-loop-count : goal.decreases-loop-count
decreases-loop-count l = l.count
