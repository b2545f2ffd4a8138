use Rattle.std.proofs.Common.{◌≡◌, []}
use Rattle.kb_proof.specs.Reading.{parts}
use Rattle.kb_proof.proofs.PartLemmas.{parts_some}
use Rattle.kb_proof.proofs.fields.is_one_field.Goals as goal

pub returns-in-Some-clause-no : goal.returns-in-Some-clause-no
returns-in-Some-clause-no c = λ yes part e.
    let cut = (c.in-Some.ensures.cut).first in
    let none : parts 32 c.in-Some._rest.now ≡ [] = cc in
    parts_some 32 c.in-Some._rest.now none
