use Rattle.std.proofs.Common.{◌≡◌, ◌<◌, ◌≤◌, Some, sym, ap, ◌∙◌, arith}
use Rattle.kb_record.specs.Tree.{list_value}
use Rattle.kb_record.specs.View.{value_view, places_of}
use Rattle.kb_record.specs.Listed.{listed}
use Rattle.kb_fields.specs.Fields.{fields_view, place_count, value_of}
use Rattle.kb_fields.proofs.Outcomes.{IfErr_then, IfOk_then}
use Rattle.kb_fields.proofs.PlaceLemmas.{count_places}
use Rattle.kb_presfile.specs.Faults.{name_of}
use Rattle.kb_presfile.specs.declared.error.Field.TheVariants as kinds
use Rattle.kb_presfile.proofs.FaultLemmas.{kind_fault_there, many_fault, equations_fault}
use Rattle.kb_presfile.proofs.equations.read_equations.Goals as goal
use Rattle.kb_presfile.proofs.equations.read_equations.Goals.{In-Some}

list_is : (c : In-Some) → value_of (fields_view c.args.fields.now) (name_of kinds.Equations) ≡ Some (list_value (places_of (listed (value_view c.value-list.result.now))))
list_is c = c.in_ok-found.ensures.found ∙ ap Some (sym c.value-list.ensures ∙ c.in-Some.ensures.list.0)

count_is : (c : In-Some) → place_count (places_of (listed (value_view c.value-list.result.now))) ≡ c.in-Some.count
count_is c = count_places (listed (value_view c.value-list.result.now)) ∙ c.in-Some.ensures.list.1

pub returns-then-count-gt-MOST_EQUATIONS-clause-fault : goal.returns-then-count-gt-MOST_EQUATIONS-clause-fault
returns-then-count-gt-MOST_EQUATIONS-clause-fault c =
    let here = (goal.at.returns-then-count-gt-MOST_EQUATIONS-clause-fault c).In-Some in
    let places = places_of (listed (value_view c.value-list.result.now)) in
    let count = count_is here in
    let many : 65535 < place_count places = omega (arith, count) in
    λ free. many_fault (fields_view c.args.fields.now) c.args.presentation.now.names c.requires.named c.args.presentation.now.inv c.requires.inverted
    places (list_is here) free many

pub returns-clause-read : goal.returns-clause-read
returns-clause-read c =
    let here = (goal.at.returns-clause-read c).In-Some in
    let places = places_of (listed (value_view c.value-list.result.now)) in
    let count = count_is here in
    let few : place_count places ≤ 65535 = omega (arith, count) in
    IfOk_then c.equations_in.result c.equations_in.ensures.read (λ equations are.
    record { places = places; listed = list_is here; few = few; read = are })

pub returns-clause-fault : goal.returns-clause-fault
returns-clause-fault c =
    let here = (goal.at.returns-clause-fault c).In-Some in
    let places = places_of (listed (value_view c.value-list.result.now)) in
    let count = count_is here in
    let few : place_count places ≤ 65535 = omega (arith, count) in
    IfErr_then c.equations_in.result c.equations_in.ensures.fault (λ error fault free.
    equations_fault (fields_view c.args.fields.now) c.args.presentation.now.names c.requires.named c.args.presentation.now.inv c.requires.inverted
    places (list_is here) free few error fault)

pub returns-in_default-clause-fault : goal.returns-in_default-clause-fault
returns-in_default-clause-fault c =
    kind_fault_there (fields_view c.args.fields.now) kinds.Equations (value_view c.value-list.result.now) (c.in_ok-found.ensures.found ∙ ap Some (sym c.value-list.ensures))
    (λ kind. c.in_default.ensures.other kind.0 kind.1)
