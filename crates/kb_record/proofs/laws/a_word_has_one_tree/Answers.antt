use Rattle.kb_record.proofs.WordFaults.{one_word_tree}
use Rattle.kb_record.proofs.laws.a_word_has_one_tree.Goals as goal

pub returns : goal.returns
returns c bytes one other g h = one_word_tree bytes one other g h
