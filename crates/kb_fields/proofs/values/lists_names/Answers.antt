use Rattle.std.proofs.Common.{ℕ, List, [], ◌∷◌, ◌++◌, length, Some, refl, sym, ap, ◌∙◌, arith}
use Rattle.std.proofs.lemmas.List.{length-map, take_all}
use Rattle.kb_record.specs.View.{value_view}
use Rattle.kb_record.specs.Listed.{listed}
use Rattle.kb_fields.specs.Fields.{bare_name, list_of_names}
use Rattle.kb_fields.proofs.ListingLemmas.{list_of_names-places_of, value_listed, value_other, one_place_more}
use Rattle.kb_fields.proofs.values.lists_names.Goals as goal

pub loop-place-init : goal.loop-place-init
loop-place-init c = ([], refl)

pub loop-place-preserved : goal.loop-place-preserved
loop-place-preserved c =
    let before = c.loop-place.invariant in
    let name = c.in-Some._name.now in (
      before.0 ++ name ∷ [],
      one_place_more (λ (name : List ℕ). Some (bare_name name)) (listed (value_view c.args.value.now)) c.loop-place.place _ c.place.ensures
          before.0 (before.0 ++ name ∷ []) name before.1 c.in-Some.ensures.found refl,
    )

pub returns-in_default : goal.returns-in_default
returns-in_default c =
    value_other (λ (name : List ℕ). Some (bare_name name)) list_of_names list_of_names-places_of (value_view c.args.value.now) c.loop-place.place _
    c.place.ensures c.in_default.ensures.none

pub returns : goal.returns
returns c =
    let places = listed (value_view c.args.value.now) in
    let names = c.loop-place.invariant in
    let whole = take_all c.loop-place.place places (omega (arith, c.requires.counted)) in
    let is = sym whole ∙ names.1 in
    let count = ap length is ∙ length-map names.0 (λ (name : List ℕ). Some (bare_name name)) in (
      names.0,
      value_listed (λ (name : List ℕ). Some (bare_name name)) list_of_names list_of_names-places_of (value_view c.args.value.now) places c.requires.listed names.0 is,
      sym count ∙ c.requires.counted,
    )
