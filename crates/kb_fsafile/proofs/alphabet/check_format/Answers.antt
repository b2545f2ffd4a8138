use Rattle.std.proofs.Common.{ℕ, List, Option, refl, ap, ◌∙◌}
use Rattle.std.specs.Borrow.{Bor}
use Rattle.std.specs.Option.{option_map}
use Rattle.kb_record.specs.Tree.{string_value}
use Rattle.std.proofs.lemmas.Result.{err_from_is_err_and}
use Rattle.kb_fields.specs.Fields.{fields_view}
use Rattle.kb_fsafile.specs.Checks.{names_format_field}
use Rattle.kb_fsafile.specs.declared.error.FsaError.TheVariants as errors
use Rattle.kb_fsafile.proofs.FirstLemmas.{refused, value_refused}
use Rattle.kb_fsafile.proofs.alphabet.check_format.Goals as goal

pub returns-in_err-optional_string-clause-fault : goal.returns-in_err-optional_string-clause-fault
returns-in_err-optional_string-clause-fault c =
    let p = err_from_is_err_and c.from_residual.result c.from_residual.ensures.1 in
    rw (p.1, p.2) (λ given has. refused given names_format_field (fields_view c.args.letters.now) has _ c.in_err-optional_string.ensures.fault)

pub returns-in-Some-clause-fault : goal.returns-in-Some-clause-fault
returns-in-Some-clause-fault c = λ given has.
    let text = c.in-Some.field-0.now in
    value_refused given names_format_field (fields_view c.args.letters.now) has (string_value text)
    (c.in_ok-optional_string.ensures.found ∙ ap (λ (o : Option (Bor (List ℕ))). option_map (λ (t : Bor (List ℕ)). string_value t.now) o) c.in-Some.is)
    (text, refl) errors.AlphabetOther (refl, text, refl, c.in-Some.not-dense)
