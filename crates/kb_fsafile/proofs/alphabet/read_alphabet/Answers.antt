use Rattle.std.proofs.Common.{ℕ, List, refl, subst}
use Rattle.std.specs.Prelude.{codes}
use Rattle.kb_record.specs.Tree.{string_value}
use Rattle.kb_record.specs.View.{value_view, found_view}
use Rattle.std.proofs.lemmas.Result.{err_from_is_err_and}
use Rattle.kb_fields.specs.Fields.{fields_view}
use Rattle.kb_fields.proofs.Outcomes.{IfErr_then}
use Rattle.kb_fsafile.specs.Holds.{HoldsRecord, HoldsString}
use Rattle.kb_fsafile.specs.Checks.{alphabet_field, alphabet_type_field}
use Rattle.kb_fsafile.specs.Standing.{IsAlphabetOf}
use Rattle.kb_fsafile.specs.declared.error.FsaError.TheVariants as errors
use Rattle.kb_fsafile.proofs.FieldFaults.{value_seen, record_seen}
use Rattle.kb_fsafile.proofs.FirstLemmas.{refused, kind_refused, value_refused}
use Rattle.kb_fsafile.proofs.NoFault.{alphabet_passed, words_passed, pairs_passed}
use Rattle.kb_fsafile.proofs.alphabet.read_alphabet.Goals.{After-as_slice-letters}
use Rattle.kb_fsafile.proofs.alphabet.read_alphabet.Goals as goal

is_record : (c : After-as_slice-letters) → HoldsRecord (fields_view c.args.fields.now) (codes "alphabet") (fields_view c.as_slice-letters.result.now)
is_record c =
    record_seen (fields_view c.args.fields.now) (codes "alphabet") (found_view c.in_ok-value.value) (value_view c.value.result.now) c.in_ok-record_in.field-0.now.items
    c.as_slice-letters.result.now c.in_ok-value.ensures.found c.value.ensures c.in_ok-record_in.ensures.found c.as_slice-letters.ensures.value

pub returns-in_err-value-clause-fault : goal.returns-in_err-value-clause-fault
returns-in_err-value-clause-fault c =
    let p = err_from_is_err_and c.from_residual.result c.from_residual.ensures.1 in
    rw (p.1, p.2) (refused (fields_view c.args.fields.now) alphabet_field (fields_view c.args.fields.now) refl _ c.in_err-value.ensures.fault)

pub returns-in_err-record_in-clause-fault : goal.returns-in_err-record_in-clause-fault
returns-in_err-record_in-clause-fault c =
    let p = err_from_is_err_and c.from_residual-in_err-record_in.result c.from_residual-in_err-record_in.ensures.1 in
    let given = fields_view c.args.fields.now in
    let is = value_seen given (codes "alphabet") _ (value_view c.value.result.now) c.in_ok-value.ensures.found c.value.ensures in
    rw (p.1, p.2) (kind_refused given alphabet_field given refl (value_view c.value.result.now) _ is c.in_err-record_in.ensures.fault)

pub returns-in_err-needed_string-clause-fault : goal.returns-in_err-needed_string-clause-fault
returns-in_err-needed_string-clause-fault c =
    let p = err_from_is_err_and c.from_residual-in_err-needed_string.result c.from_residual-in_err-needed_string.ensures.1 in
    rw (p.1, p.2) (λ free.
    let is = is_record (goal.at.returns-in_err-needed_string-clause-fault c).After-as_slice-letters in
    refused (fields_view c.args.fields.now) alphabet_type_field (fields_view c.as_slice-letters.result.now) is _ c.in_err-needed_string.ensures.fault
    (alphabet_passed (fields_view c.args.fields.now) (fields_view c.as_slice-letters.result.now) is free))

pub returns-clause-fault : goal.returns-clause-fault
returns-clause-fault c = λ free.
    let given = fields_view c.args.fields.now in
    let letters = fields_view c.as_slice-letters.result.now in
    let text = c.in_ok-needed_string.field-0.now in
    let is = is_record (goal.at.returns-clause-fault c).After-as_slice-letters in
    value_refused given alphabet_type_field letters is (string_value text) c.in_ok-needed_string.ensures.found (text, refl) errors.AlphabetOther
    (refl, text, refl, c.in_default.not-identifiers, c.in_default.not-product) (alphabet_passed given letters is free)

pub returns-in-identifiers-clause-fault : goal.returns-in-identifiers-clause-fault
returns-in-identifiers-clause-fault c =
    let given = fields_view c.args.fields.now in
    let letters = fields_view c.as_slice-letters.result.now in
    let is = is_record (goal.at.returns-in-identifiers-clause-fault c).After-as_slice-letters in
    let P : List ℕ → Type 0 = λ t. HoldsString (fields_view c.as_slice-letters.result.now) (codes "type") t in
    let at : IsAlphabetOf (fields_view c.args.fields.now) (fields_view c.as_slice-letters.result.now) (codes "identifiers") =
    record { is_record = is; typed = subst P c.in-identifiers.is c.in_ok-needed_string.ensures.found } in
    IfErr_then c.read_words.result c.read_words.ensures.fault (λ error fault free. fault given at (words_passed given letters at (alphabet_passed given letters is free)))

pub returns-in-product-clause-fault : goal.returns-in-product-clause-fault
returns-in-product-clause-fault c =
    let given = fields_view c.args.fields.now in
    let letters = fields_view c.as_slice-letters.result.now in
    let is = is_record (goal.at.returns-in-product-clause-fault c).After-as_slice-letters in
    let P : List ℕ → Type 0 = λ t. HoldsString (fields_view c.as_slice-letters.result.now) (codes "type") t in
    let at : IsAlphabetOf (fields_view c.args.fields.now) (fields_view c.as_slice-letters.result.now) (codes "product") =
    record { is_record = is; typed = subst P c.in-product.is c.in_ok-needed_string.ensures.found } in
    IfErr_then c.read_pairs.result c.read_pairs.ensures.fault (λ error fault free. fault given at (pairs_passed given letters at (alphabet_passed given letters is free)))
