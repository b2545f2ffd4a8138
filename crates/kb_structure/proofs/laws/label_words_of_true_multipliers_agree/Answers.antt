use Rattle.kb_structure.proofs.TrueLabels.{label_words_agree}
use Rattle.kb_structure.proofs.laws.label_words_of_true_multipliers_agree.Goals as goal

pub returns : goal.returns
returns c labelling group automaton pairs differences products =
    label_words_agree labelling group automaton pairs differences products
