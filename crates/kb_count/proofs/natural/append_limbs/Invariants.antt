use Rattle.std.proofs.Common.{◌≡◌, ◌<◌, ◌++◌, length, drop}
use Rattle.kb_count.specs.Decimal.{decimal_text}
use Rattle.kb_count.specs.Limbs.{value_of}
use Rattle.kb_count.proofs.natural.append_limbs.Given as goal

-- the number of the limbs from the place on is written
abbrev pub invariant-loop-place : goal.invariant-loop-place
invariant-loop-place l = record {
  within : l.place < length l.limbs;
  positive : 0 < value_of (drop l.place l.limbs);
  written : l.line.items ≡ l.fn.line.items ++ decimal_text (value_of (drop l.place l.limbs));
}

abbrev pub decreases-loop-place : goal.decreases-loop-place
decreases-loop-place l = l.place
