use Rattle.std.proofs.Common.{ℕ, List, Some, sym, ◌∙◌, arith}
use Rattle.std.specs.Borrow.{Bor}
use Rattle.std.proofs.lemmas.List.{take_all}
use Rattle.kb_record.specs.View.{value_view}
use Rattle.kb_record.specs.Listed.{listed}
use Rattle.kb_fields.specs.Fields.{bare_name, list_of_names}
use Rattle.kb_fields.proofs.ListingLemmas.{list_of_names-places_of, value_listed, value_other, one_place_more, map_now}
use Rattle.kb_fields.proofs.values.names_listed.Goals as goal

pub returns-in_default-name_at-clause-other : goal.returns-in_default-name_at-clause-other
returns-in_default-name_at-clause-other c =
    value_other (λ (name : List ℕ). Some (bare_name name)) list_of_names list_of_names-places_of (value_view c.args.value.now) c.loop-place.place _
    c.place.ensures c.in_default-name_at.ensures.none

pub loop-place-preserved : goal.loop-place-preserved
loop-place-preserved c =
    one_place_more (λ (name : Bor (List ℕ)). Some (bare_name name.now)) (listed (value_view c.args.value.now)) c.loop-place.place _ c.place.ensures
    c.loop-place.names.items _ c.in-Some-name_at.name c.loop-place.invariant c.in-Some-name_at.ensures.found c.in_ok-push.ensures.items

pub returns-clause-listed : goal.returns-clause-listed
returns-clause-listed c =
    let places = listed (value_view c.args.value.now) in
    let count = c.in-Some.ensures.list.1 in
    let whole = take_all c.loop-place.place places (omega (arith, count)) in
    value_listed (λ (name : List ℕ). Some (bare_name name)) list_of_names list_of_names-places_of (value_view c.args.value.now) places
    c.in-Some.ensures.list.0 _ (sym whole ∙ c.loop-place.invariant ∙ map_now c.loop-place.names.items)
