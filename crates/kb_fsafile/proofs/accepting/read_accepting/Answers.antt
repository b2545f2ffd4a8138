use Rattle.std.proofs.Common.{ℤ, List, w64, SFits, Some, rules, refl, sym, ap, ◌∙◌}
use Rattle.std.specs.Prelude.{codes}
use Rattle.std.proofs.lemmas.Int.{to_z-of_z}
use Rattle.std.proofs.lemmas.Result.{err_from_is_err_and}
use Rattle.kb_fields.specs.Fields.{fields_view}
use Rattle.kb_record.specs.View.{value_view}
use Rattle.kb_record.specs.Tree.{list_value, range_value}
use Rattle.kb_fields.proofs.Outcomes.{IfOk_then, IfErr_then}
use Rattle.kb_fsafile.specs.Kinds.{list_of_numbers}
use Rattle.kb_fsafile.specs.Checks.{accepting_field}
use Rattle.kb_fsafile.specs.Reading.{IsOutside}
use Rattle.kb_fsafile.specs.declared.error.Field.TheVariants as kinds
use Rattle.kb_fsafile.specs.declared.error.FsaError.TheVariants as errors
use Rattle.kb_fsafile.proofs.FieldFaults.{value_seen}
use Rattle.kb_fsafile.proofs.FirstLemmas.{refused, found_or_memory}
use Rattle.kb_fsafile.proofs.Refused.{accepting_refused}
use Rattle.kb_fsafile.proofs.KindLemmas.{value_of_numbers}
use Rattle.kb_fsafile.proofs.NumberLemmas.{no_numbers}
use Rattle.kb_fsafile.proofs.accepting.read_accepting.Goals as goal

pub returns-in_err-found-clause-fault : goal.returns-in_err-found-clause-fault
returns-in_err-found-clause-fault c =
    let p = err_from_is_err_and c.from_residual.result c.from_residual.ensures.1 in
    rw (p.1, p.2) (refused (fields_view c.args.fields.now) accepting_field (fields_view c.args.fields.now) refl _ c.in_err-found.ensures.fault)

pub returns-in_default-2-clause-fault : goal.returns-in_default-2-clause-fault
returns-in_default-2-clause-fault c =
    let given = fields_view c.args.fields.now in
    let seen = value_seen given (codes "accepting") _ (value_view c.value-value.result.now) c.in_ok-found.ensures.found c.value-value.ensures in
    refused given accepting_field given refl (errors.WrongKind kinds.Accepting)
    (refl, value_view c.value-value.result.now, seen, no_numbers _ c.in_default.ensures.none (rw c.in_default-2.is at c.in_ok-numbers.ensures.other))

pub returns-in-Numbers-clause-fault : goal.returns-in-Numbers-clause-fault
returns-in-Numbers-clause-fault c =
    let listed = ap value_view c.in-Numbers.is ∙ value_of_numbers c.in-Numbers.numbers in
    let seen = value_seen (fields_view c.args.fields.now) (codes "accepting") _ (value_view c.value-value.result.now) c.in_ok-found.ensures.found c.value-value.ensures in
    let holds = seen ∙ ap Some (listed ∙ ap (λ (ns : List ℤ). list_value (list_of_numbers ns)) (sym c.as_slice.ensures.value)) in
    IfErr_then c.listed_within.result c.listed_within.ensures.fault (λ error fault.
    accepting_refused (fields_view c.args.fields.now) c.args.count _ error c.requires holds (_, refl) fault)

pub returns-in-Numbers-clause-read : goal.returns-in-Numbers-clause-read
returns-in-Numbers-clause-read c =
    let listed = ap value_view c.in-Numbers.is ∙ value_of_numbers c.in-Numbers.numbers in
    let seen = value_seen (fields_view c.args.fields.now) (codes "accepting") _ (value_view c.value-value.result.now) c.in_ok-found.ensures.found c.value-value.ensures in
    let holds = seen ∙ ap Some (listed ∙ ap (λ (ns : List ℤ). list_value (list_of_numbers ns)) (sym c.as_slice.ensures.value)) in
    IfOk_then c.listed_within.result c.listed_within.ensures.read (λ accepting stands. record { value = _; holds = holds; stands = stands })

pub returns-clause-fault : goal.returns-clause-fault
returns-clause-fault c =
    let listed = rw c.in-Some-2.is at c.in_ok-numbers.ensures.listed in
    let seen = value_seen (fields_view c.args.fields.now) (codes "accepting") _ (value_view c.value-value.result.now) c.in_ok-found.ensures.found c.value-value.ensures in
    let holds = seen ∙ ap Some (listed ∙ ap (λ (ns : List ℤ). list_value (list_of_numbers ns)) (sym c.as_slice-2.ensures.value)) in
    IfErr_then c.listed_within-2.result c.listed_within-2.ensures.fault (λ error fault.
    accepting_refused (fields_view c.args.fields.now) c.args.count _ error c.requires holds (_, refl) fault)

pub returns-clause-read : goal.returns-clause-read
returns-clause-read c =
    let listed = rw c.in-Some-2.is at c.in_ok-numbers.ensures.listed in
    let seen = value_seen (fields_view c.args.fields.now) (codes "accepting") _ (value_view c.value-value.result.now) c.in_ok-found.ensures.found c.value-value.ensures in
    let holds = seen ∙ ap Some (listed ∙ ap (λ (ns : List ℤ). list_value (list_of_numbers ns)) (sym c.as_slice-2.ensures.value)) in
    IfOk_then c.listed_within-2.result c.listed_within-2.ensures.read (λ accepting stands. record { value = _; holds = holds; stands = stands })

pub returns-in-Some-clause-fault : goal.returns-in-Some-clause-fault
returns-in-Some-clause-fault c =
    let f : SFits w64 c.in-Some.from = search rules in
    let t : SFits w64 c.in-Some.to = search rules in
    let fault = simp to_z-of_z at c.range_within.ensures.fault in
    let seen = value_seen (fields_view c.args.fields.now) (codes "accepting") _ (value_view c.value-value.result.now) c.in_ok-found.ensures.found c.value-value.ensures in
    IfErr_then c.range_within.result fault (λ error fault.
    accepting_refused (fields_view c.args.fields.now) c.args.count (range_value c.in-Some.from c.in-Some.to) error c.requires
    (seen ∙ ap Some c.in-Some.ensures.found) tt (found_or_memory (IsOutside c.args.count (range_value c.in-Some.from c.in-Some.to)) error fault))

pub returns-in-Some-clause-read : goal.returns-in-Some-clause-read
returns-in-Some-clause-read c =
    let f : SFits w64 c.in-Some.from = search rules in
    let t : SFits w64 c.in-Some.to = search rules in
    let read = simp to_z-of_z at c.range_within.ensures.read in
    let seen = value_seen (fields_view c.args.fields.now) (codes "accepting") _ (value_view c.value-value.result.now) c.in_ok-found.ensures.found c.value-value.ensures in
    IfOk_then c.range_within.result read (λ accepting stands. record {
      value = range_value c.in-Some.from c.in-Some.to;
      holds = seen ∙ ap Some c.in-Some.ensures.found;
      stands = stands;
    })
