use Rattle.std.proofs.Common.{◌∷◌, [], ap, ◌∙◌}
use Rattle.kb_wordreader.specs.Letters.{letter_of}
use Rattle.kb_wordreader.proofs.NameLemmas.{number_is, ascii_utf8}
use Rattle.kb_wordreader.proofs.byte_letters.byte_letter.Goals as goal

pub returns-in_default : goal.returns-in_default
returns-in_default c = λ small. absurd (c.in_default.ensures.cases.0 (ascii_utf8 (c.args.byte ∷ []) (small, tt)))

pub returns : goal.returns
returns c = λ small.
    number_is c.args.names.now c.in-Ok.name.now c.number_of.result c.number_of.ensures.found c.number_of.ensures.first c.number_of.ensures.none
    ∙ ap (letter_of c.args.names.now) c.in-Ok.ensures.cases.0
