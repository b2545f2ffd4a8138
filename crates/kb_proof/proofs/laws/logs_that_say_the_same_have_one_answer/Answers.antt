use Rattle.kb_word.specs.WordOrders.{Below}
use Rattle.kb_proof.proofs.SameAnswers.{same_answer}
use Rattle.kb_proof.proofs.laws.logs_that_say_the_same_have_one_answer.Goals as goal

pub returns : goal.returns
returns c = λ order. same_answer (Below order)
