use Rattle.std.proofs.Common.{rules, ◌≡◌, ◌∷◌, []}
use Rattle.std.specs.Prelude.{IsFalse}
use Rattle.kb_proof.specs.Reading.{parts}
use Rattle.kb_proof.proofs.fields.cut_both_derivations.Goals as goal

pub returns-then-not-is_one_field-clause-none : goal.returns-then-not-is_one_field-clause-none
returns-then-not-is_one_field-clause-none c = λ right first second h.
    let no : IsFalse c.is_one_field.result = search rules in
    let a = (c.in_ok-right.ensures.cut).first in
    let b = (c.in_ok-first.ensures.cut).whole in
    let d = (c.in_ok-colon.ensures.cut).first in
    let all = h.whole in
    let one : parts 32 c.in_ok-colon.second.now ≡ second ∷ [] = cc in
    c.is_one_field.ensures.no no second one
