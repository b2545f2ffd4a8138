use Rattle.std.proofs.Common.{ℕ, ◌+◌, List, [], ◌∷◌, Option, Some, Vec, Global, sym, ap, subst, ◌∙◌, map, arith}
use Rattle.std.specs.Borrow.{Bor}
use Rattle.std.specs.Option.{option_map, option_copied}
use Rattle.std.proofs.lemmas.List.{map-append, length-map}
use Rattle.kb_record.specs.View.{value_view}
use Rattle.kb_record.specs.Listed.{listed}
use Rattle.kb_fields.specs.Fields.{bare_name}
use Rattle.kb_fields.proofs.ListingLemmas.{value_other}
use Rattle.kb_presfile.specs.Kinds.{list_of_places}
use Rattle.kb_presfile.proofs.PlaceLemmas.{list_of_places-places_of, place_listed, AreFirst, one_kept, one_empty, all_places, copied_none, copied_some}
use Rattle.kb_presfile.proofs.values.places_listed.Goals as goal
use Rattle.kb_presfile.proofs.values.places_listed.Goals.{then-place-count+in_ok-push, else-place-count+else-is_some}

pub returns-in_default-name_or_empty-clause-other : goal.returns-in_default-name_or_empty-clause-other
returns-in_default-name_or_empty-clause-other c = λ places is.
    absurd (value_other (option_map bare_name) list_of_places list_of_places-places_of (value_view c.args.value.now) c.loop-place.place _ c.place.ensures
    c.in_default-name_or_empty.ensures.none places is)

pub returns-then-is_some-clause-other : goal.returns-then-is_some-clause-other
returns-then-is_some-clause-other c = λ places is.
    let name = c.in-Some-name_or_empty.name in
    let here = place_listed (value_view c.args.value.now) c.loop-place.place (option_copied name)
    (c.place.ensures ∙ ap Some c.in-Some-name_or_empty.ensures.found) places is in
    (c.loop-place.place, omega arith, λ none. copied_some name c.if-is_some.ensures (sym here ∙ none))

pub loop-place-preserved : goal.loop-place-preserved
loop-place-preserved c =
    let places = listed (value_view c.args.value.now) in
    let place = c.loop-place.place in
    let items = c.loop-place.names.items in
    let kept = map option_copied items in
    let name = c.in-Some-name_or_empty.name in
    let here = c.place.ensures ∙ ap Some c.in-Some-name_or_empty.ensures.found in
    let P : List (Option (Bor (List ℕ))) → Type 0 = λ names. AreFirst places c.args.count (map option_copied names) (place + 1) in
    let Q : List (Option (List ℕ)) → Type 0 = λ names. AreFirst places c.args.count names (place + 1) in
    elim c.if-place-count.branch [
      | then-place-count+in_ok-push w ↦
          let one = one_kept places c.args.count kept place c.loop-place.invariant (option_copied name) here w.if-place-count.true in
          subst P (sym (ap (λ (v : Vec (Option (Bor (List ℕ))) Global). v.items) w.names-is ∙ w.in_ok-push.ensures.items))
          (subst Q (sym (map-append option_copied items (name ∷ []))) one)
      | else-place-count+else-is_some w ↦
          let empty = here ∙ ap (λ (o : Option (List ℕ)). Some (option_map bare_name o)) (copied_none name w.if-is_some.ensures) in
          let one = one_empty places c.args.count kept place c.loop-place.invariant empty w.if-place-count.false in
          subst P (sym (ap (λ (v : Vec (Option (Bor (List ℕ))) Global). v.items) w.names-is)) one
    ]

pub returns-clause-listed : goal.returns-clause-listed
returns-clause-listed c =
    let list = c.in-Some.ensures.list in
    all_places (value_view c.args.value.now) c.args.count (map option_copied c.loop-place.names.items) c.loop-place.place list.0 (omega (arith, list.1)) c.loop-place.invariant

pub returns-clause-few : goal.returns-clause-few
returns-clause-few c = omega (arith, c.loop-place.invariant.few, length-map c.loop-place.names.items option_copied)
