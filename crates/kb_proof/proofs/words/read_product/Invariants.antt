use Rattle.std.proofs.Common.{length}
use Rattle.kb_word.specs.Printed.{letter_name}
use Rattle.kb_proof.proofs.PartLemmas.{Parted}
use Rattle.kb_proof.proofs.TextLemmas.{IsLetter}
use Rattle.kb_proof.proofs.words.read_product.Given as goal

-- the letters so far were read of what stands before the rest
abbrev pub invariant-loop-name : goal.invariant-loop-name
invariant-loop-name l = Parted 42 (letter_name l.names) (IsLetter (length l.names)) l.bytes l.word l.rest

abbrev pub decreases-loop-name : goal.decreases-loop-name
decreases-loop-name l = length l.rest
