use Rattle.std.proofs.Common.{refl, subst}
use Rattle.kb_fields.specs.Generators.{HasNamesFault}
use Rattle.kb_fields.specs.declared.error.NamesFault.{NamesFault}
use Rattle.kb_fsafile.specs.Checks.{names_field}
use Rattle.kb_fsafile.specs.declared.error.Field.TheVariants as kinds
use Rattle.kb_fsafile.specs.declared.error.FsaError.TheVariants as errors
use Rattle.kb_fsafile.proofs.FirstLemmas.{refused}
use Rattle.kb_fsafile.proofs.Refused.{too_many_refused, taken_refused}
use Rattle.kb_fsafile.proofs.alphabet.refusal_of.Goals as goal

pub returns-in-WrongKind : goal.returns-in-WrongKind
returns-in-WrongKind c = λ letters value is fault given has.
    let P : NamesFault → Type 0 = λ f. HasNamesFault value f in
    let none = subst P c.in-WrongKind.is fault in
    refused given names_field letters has (errors.WrongKind kinds.Names) (refl, value, is, λ kind. none kind.0 kind.1)

pub returns-in-TooMany : goal.returns-in-TooMany
returns-in-TooMany c = λ letters value is fault given has.
    let P : NamesFault → Type 0 = λ f. HasNamesFault value f in
    too_many_refused given letters value has is (subst P c.in-TooMany.is fault)

pub returns-in-Taken : goal.returns-in-Taken
returns-in-Taken c = λ letters value is fault given has.
    let P : NamesFault → Type 0 = λ f. HasNamesFault value f in
    taken_refused given letters value has is c.in-Taken.name (subst P c.in-Taken.is fault)
