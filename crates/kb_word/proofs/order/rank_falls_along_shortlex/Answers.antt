use Rattle.kb_word.specs.ShortlexLaws.{rank_falls}
use Rattle.kb_word.proofs.order.rank_falls_along_shortlex.Goals as goal

pub returns : goal.returns
returns c = rank_falls
