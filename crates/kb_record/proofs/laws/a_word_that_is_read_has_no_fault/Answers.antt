use Rattle.kb_record.proofs.WordFaults.{no_word_fault}
use Rattle.kb_record.proofs.laws.a_word_that_is_read_has_no_fault.Goals as goal

pub returns : goal.returns
returns c bytes names inverses w error meant fault = no_word_fault bytes names inverses w error meant fault
