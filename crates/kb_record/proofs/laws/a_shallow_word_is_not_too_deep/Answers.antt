use Rattle.kb_record.proofs.Shallow.{shallow_word}
use Rattle.kb_record.proofs.laws.a_shallow_word_is_not_too_deep.Goals as goal

pub returns : goal.returns
returns c bytes factors given shallow deep = shallow_word bytes factors given shallow deep
