use Rattle.kb_layout.proofs.SpelledTrees.{text_spelled}
use Rattle.kb_layout.proofs.laws.what_is_read_can_be_printed.Goals as goal

pub returns : goal.returns
returns c bytes text h =
    let spelled = text_spelled bytes h.tokens text h.spelled h.formed in
    (spelled.0, h.formed.0, spelled.1)
