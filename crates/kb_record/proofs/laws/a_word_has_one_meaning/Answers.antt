use Rattle.kb_record.proofs.WordFaults.{one_meaning}
use Rattle.kb_record.proofs.laws.a_word_has_one_meaning.Goals as goal

pub returns : goal.returns
returns c bytes names inverses one other g h = one_meaning bytes names inverses one other g h
