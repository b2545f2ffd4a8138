use Rattle.kb_word.specs.WordOrderLaws.{word_orders}
use Rattle.kb_coset.proofs.LeastWords.{told_by_least}
use Rattle.kb_coset.proofs.laws.cosets_are_told_by_their_least_words.Goals as goal

pub returns : goal.returns
returns c order given generators u v m k first second = told_by_least (word_orders order) given generators u v m k first second
