use Rattle.kb_coset.proofs.LeastMarked.{least_marked}
use Rattle.kb_coset.proofs.laws.least_marked_words_are_least_in_cosets.Goals as goal

pub returns : goal.returns
returns c n generators parts u least is over u_over minimal = least_marked n generators parts is over u least u_over minimal
