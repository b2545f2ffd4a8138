use Rattle.std.proofs.Common.{◌≡◌, ◌∷◌}
use Rattle.kb_proof.specs.Reading.{parts}
use Rattle.kb_proof.proofs.PartLemmas.{if_none}
use Rattle.kb_proof.proofs.LineLemmas.{behind_sides}
use Rattle.kb_proof.proofs.fields.cut_fields.Goals as goal

pub returns-in_err-right-clause-none : goal.returns-in_err-right-clause-none
returns-in_err-right-clause-none c = if_none c.from_residual-in_err-right.result (λ texts h.
    let a = (c.in_ok-origin.ensures.cut).first in
    let b = (c.in_ok-left.ensures.cut).first in
    let d = (c.in_ok-between.ensures.cut).first in
    let list : parts 32 c.args.bytes.now ≡ c.in_ok-origin.origin.now ∷ c.in_ok-left.left.now ∷ c.in_ok-between.between.now ∷ parts 32 c.in_ok-between.rest.now = cc in
    c.in_err-right.ensures.none texts.right texts.first texts.second
    (behind_sides c.args.version c.args.sign.now c.args.bytes.now c.in_ok-between.rest.now _ _ _ texts list h))
