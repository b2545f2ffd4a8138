use Rattle.kb_word.specs.WordOrderLaws.{word_orders}
use Rattle.kb_reduced.proofs.ForeignLetters.{left_side_over}
use Rattle.kb_reduced.proofs.letters.reduced_left_sides_keep_the_letters.Goals as goal

pub returns : goal.returns
returns c order n pairs rules over reduced rule one = left_side_over (word_orders order) n pairs over rule (reduced.each rule one)
