use Rattle.kb_word.specs.WordOrders.{Below}
use Rattle.kb_proof.proofs.OneAnswer.{one_answer}
use Rattle.kb_proof.proofs.laws.a_log_is_verified_in_one_way.Goals as goal

pub returns : goal.returns
returns c = λ order. one_answer (Below order)
