use Rattle.kb_structure.proofs.LabelWords.{pairs_differ}
use Rattle.kb_structure.proofs.laws.label_words_make_multipliers_true.Goals as goal

pub returns : goal.returns
returns c labelling group agree = pairs_differ labelling group agree
