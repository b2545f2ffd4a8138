use Rattle.std.proofs.Common.{refl}
use Rattle.kb_draw.specs.Counter.{begun}
use Rattle.kb_draw.proofs.draw.Draw.new.Goals as goal

pub of_words-requires : goal.of_words-requires
of_words-requires c = (refl, begun)
