use Rattle.kb_record.proofs.Shallow.{shallow_text}
use Rattle.kb_record.proofs.laws.a_shallow_text_is_not_too_deep.Goals as goal

pub returns : goal.returns
returns c bytes text given shallow deep = shallow_text bytes text given shallow deep
