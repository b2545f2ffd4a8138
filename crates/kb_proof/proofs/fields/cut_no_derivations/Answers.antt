use Rattle.std.proofs.Common.{rules}
use Rattle.std.specs.Prelude.{IsFalse}
use Rattle.kb_proof.proofs.fields.cut_no_derivations.Goals as goal

pub returns-then-not-is_one_field-clause-none : goal.returns-then-not-is_one_field-clause-none
returns-then-not-is_one_field-clause-none c = λ right first second h.
    let no : IsFalse c.is_one_field.result = search rules in
    c.is_one_field.ensures.no no right h.whole
