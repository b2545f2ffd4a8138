use Rattle.std.proofs.Common.{◌≡◌, drop}
use Rattle.kb_share.proofs.signature.bit_of.Given as goal
use Rattle.kb_share.specs.Signatures.{hash_on}

-- the whole hash is that of the first letters, and the rest on it
abbrev pub invariant-loop-letter : goal.invariant-loop-letter
invariant-loop-letter l = hash_on 0 l.window ≡ hash_on l.hash (drop l.letter-index l.window)
