use Rattle.std.proofs.Common.{ap, ◌++◌, ◌∙◌, ◌∷◌, ◌≡◌, arith, drop, length}
use Rattle.kb_count.specs.Decimal.{limb_digits}
use Rattle.kb_count.proofs.Digits.{limb-text}
use Rattle.kb_count.proofs.natural.append_limb.Goals as goal

pub split_at-requires : goal.split_at-requires
split_at-requires c =
    let is : c.as_bytes.result.now ≡ 49 ∷ limb_digits c.args.limb =
    c.as_bytes.ensures.value ∙ c.format.ensures.text ∙ limb-text c.args.limb c.requires in
    omega (arith, ap length is)

pub returns : goal.returns
returns c =
    let is : c.as_bytes.result.now ≡ 49 ∷ limb_digits c.args.limb =
    c.as_bytes.ensures.value ∙ c.format.ensures.text ∙ limb-text c.args.limb c.requires in
    c.in_ok-extend_from_slice.ensures.items
    ∙ ap (λ digits. c.args.line.now.items ++ digits) (c.split_at.ensures.back ∙ ap (drop 1) is)
