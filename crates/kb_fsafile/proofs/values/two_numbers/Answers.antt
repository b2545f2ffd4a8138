use Rattle.std.proofs.Common.{Some, ap, ◌∙◌, w64, SFits, rules, arith}
use Rattle.std.proofs.lemmas.Int.{to_z-of_z}
use Rattle.kb_record.specs.Tree.{number_value}
use Rattle.kb_record.specs.View.{value_view}
use Rattle.kb_fields.proofs.PlaceLemmas.{two_listed}
use Rattle.kb_fsafile.proofs.values.two_numbers.Goals as goal

pub returns-clause-found : goal.returns-clause-found
returns-clause-found c =
    let list = c.in_ok-count.ensures.list in
    let count = list.1 in
    let first : SFits w64 c.in_ok-number_at.field-0 = search rules in
    let second : SFits w64 c.in_ok-number_at-2.field-0 = search rules in
    rw (to_z-of_z w64 c.in_ok-number_at.field-0 first, to_z-of_z w64 c.in_ok-number_at-2.field-0 second)
    (two_listed (value_view c.args.value.now) (number_value c.in_ok-number_at.field-0) (number_value c.in_ok-number_at-2.field-0) list.0 (omega (arith, count))
    (c.place.ensures ∙ ap Some c.in_ok-number_at.ensures.found) (c.place-2.ensures ∙ ap Some c.in_ok-number_at-2.ensures.found))
