use Rattle.kb_coset.proofs.Marks.{marked_cosets}
use Rattle.kb_coset.proofs.laws.marked_words_are_congruent_within_cosets.Goals as goal

pub returns : goal.returns
returns c n generators parts u v is over u_over = marked_cosets n generators parts is over u v u_over
