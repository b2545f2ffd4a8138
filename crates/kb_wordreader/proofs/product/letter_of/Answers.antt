use Rattle.std.proofs.Common.{ap, ◌∙◌}
use Rattle.kb_wordreader.specs.Letters.{letter_of}
use Rattle.kb_wordreader.proofs.NameLemmas.{number_is}
use Rattle.kb_wordreader.proofs.product.letter_of.Goals as goal

pub returns-2 : goal.returns-2
returns-2 c =
    number_is c.args.names.now c.text_of.result.now c.number_of.result c.number_of.ensures.found c.number_of.ensures.first c.number_of.ensures.none
    ∙ ap (letter_of c.args.names.now) c.text_of.ensures
