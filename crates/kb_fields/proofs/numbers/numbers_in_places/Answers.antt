use Rattle.std.proofs.Common.{[], ◌∷◌, ◌++◌, sym, ap, ◌∙◌, arith, rules, SFits, w64}
use Rattle.std.proofs.lemmas.Int.{to_z-of_z}
use Rattle.std.proofs.lemmas.List.{take_all}
use Rattle.kb_record.specs.View.{value_view, number_place}
use Rattle.kb_record.specs.Listed.{listed}
use Rattle.kb_fields.specs.Fields.{list_of_numbers}
use Rattle.kb_fields.proofs.ListingLemmas.{value_listed, value_other, one_place_more}
use Rattle.kb_fields.proofs.NumberLemmas.{list_of_numbers-places_of}
use Rattle.kb_fields.proofs.numbers.numbers_in_places.Goals as goal

pub returns-in_default-number_at-clause-other : goal.returns-in_default-number_at-clause-other
returns-in_default-number_at-clause-other c =
    value_other number_place list_of_numbers list_of_numbers-places_of (value_view c.args.value.now) c.loop-place.place _ c.place.ensures
    c.in_default-number_at.ensures.none

pub loop-place-preserved : goal.loop-place-preserved
loop-place-preserved c =
    let number = c.in-Some-number_at.number in
    let fits : SFits w64 number = search rules in
    let longer = c.in_ok-push.ensures.items ∙ ap (λ z. c.loop-place.numbers.items ++ z ∷ []) (to_z-of_z w64 number fits) in
    one_place_more number_place (listed (value_view c.args.value.now)) c.loop-place.place _ c.place.ensures c.loop-place.numbers.items _
    number c.loop-place.invariant c.in-Some-number_at.ensures.found longer

pub returns-clause-listed : goal.returns-clause-listed
returns-clause-listed c =
    let places = listed (value_view c.args.value.now) in
    let count = c.in-Some.ensures.list.1 in
    let whole = take_all c.loop-place.place places (omega (arith, count)) in
    value_listed number_place list_of_numbers list_of_numbers-places_of (value_view c.args.value.now) places c.in-Some.ensures.list.0
    c.loop-place.numbers.items (sym whole ∙ c.loop-place.invariant)
