use Rattle.kb_record.proofs.WordFaults.{no_word_refused}
use Rattle.kb_record.proofs.laws.a_word_that_is_read_is_not_refused.Goals as goal

pub returns : goal.returns
returns c bytes names inverses w error meant fault named = no_word_refused bytes names inverses w error meant fault named
