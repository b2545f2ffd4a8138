use Rattle.std.proofs.Common.{◌≡◌, drop}
use Rattle.kb_record.specs.Meaning.{first_without_inverse}
use Rattle.kb_record.proofs.meaning.name_without_inverse.Given as goal

abbrev pub invariant-loop-letter : goal.invariant-loop-letter
invariant-loop-letter l =
    first_without_inverse l.presentation.names l.presentation.inv (drop l.letter-index l.letter-items)
    ≡ first_without_inverse l.presentation.names l.presentation.inv l.word
