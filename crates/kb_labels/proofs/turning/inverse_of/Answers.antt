use Rattle.std.proofs.Common.{sym, ◌∙◌}
use Rattle.kb_diff.proofs.GroupLemmas.{has_letter_inverse}
use Rattle.kb_labels.proofs.turning.inverse_of.Goals as goal

pub unreachable-requires : goal.unreachable-requires
unreachable-requires c =
    has_letter_inverse c.args.presentation.now.n c.args.presentation.now.inv c.args.number c.in_ok-letter.letter c.requires.group c.requires.positive
    c.requires.letter c.in_ok-letter.ensures (sym c.letter_inverse.ensures ∙ c.in-None.is)
