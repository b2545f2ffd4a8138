use Rattle.kb_record.specs.Grammar.{IsTextForm}
use Rattle.kb_record.proofs.OneFault.{one_fault}
use Rattle.kb_record.proofs.laws.a_text_has_one_fault.Goals as goal

pub returns : goal.returns
returns c bytes one other g h k l = one_fault IsTextForm bytes one other g h k l
