use Rattle.std.proofs.Common.{sym, ◌∙◌}
use Rattle.kb_diff.proofs.GroupLemmas.{has_inverse}
use Rattle.kb_diff.proofs.inverting.inverse_in_group.Goals as goal

pub unreachable-requires : goal.unreachable-requires
unreachable-requires c =
    has_inverse c.args.presentation.now.n c.args.presentation.now.inv c.args.word.now c.requires.group c.requires.letters
    (sym c.in_ok-inverse.ensures ∙ c.in-None.is)
