use Rattle.kb_word.specs.ShortlexLaws.{shortlex_order}
use Rattle.kb_word.proofs.order.shortlex_is_a_reduction_order.Goals as goal

pub returns : goal.returns
returns c = shortlex_order
