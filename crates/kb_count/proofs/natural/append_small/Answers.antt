use Rattle.std.proofs.Common.{ap, ◌++◌, ◌∙◌}
use Rattle.kb_count.proofs.Digits.{small-text}
use Rattle.kb_count.proofs.natural.append_small.Goals as goal

pub returns : goal.returns
returns c =
    c.in_ok-extend_from_slice.ensures.items
    ∙ ap (λ digits. c.args.line.now.items ++ digits)
    (c.as_bytes.ensures.value ∙ c.format.ensures.text ∙ small-text c.args.number c.requires)
