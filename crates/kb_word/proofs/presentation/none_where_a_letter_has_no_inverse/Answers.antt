use Rattle.kb_word.proofs.InverseLemmas.{lacks_inverse}
use Rattle.kb_word.proofs.presentation.none_where_a_letter_has_no_inverse.Goals as goal

pub returns : goal.returns
returns c = lacks_inverse
