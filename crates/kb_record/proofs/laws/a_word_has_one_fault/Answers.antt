use Rattle.kb_record.proofs.OneFault.{one_word_fault}
use Rattle.kb_record.proofs.laws.a_word_has_one_fault.Goals as goal

pub returns : goal.returns
returns c bytes names inverses one other g h k l = one_word_fault bytes names inverses one other g h k l
