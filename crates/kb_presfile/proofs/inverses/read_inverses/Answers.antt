use Rattle.std.proofs.Common.{ℕ, List, Option, None, ◌++◌, length, map, replicate, sym, ap, subst, ◌∙◌, arith}
use Rattle.std.specs.Borrow.{Bor}
use Rattle.std.specs.Option.{option_copied}
use Rattle.std.proofs.lemmas.List.{length-map}
use Rattle.kb_fields.specs.Fields.{fields_view}
use Rattle.kb_fields.proofs.Outcomes.{IfErr_then, IfOk_then}
use Rattle.kb_presfile.specs.Holds.{GivesInverses}
use Rattle.kb_presfile.specs.Faults.{PlacesHaveFault, IsMemoryOr}
use Rattle.kb_presfile.proofs.CheckLemmas.{memory_or_weaker}
use Rattle.kb_presfile.proofs.EmptyPlaces.{place_at-behind, place_at-past, gives_same, fault_same}
use Rattle.kb_presfile.proofs.FaultLemmas.{places_fault}
use Rattle.kb_presfile.proofs.inverses.read_inverses.Goals as goal

pub inverses_at-requires : goal.inverses_at-requires
inverses_at-requires c = λ k past.
    let items = c.as_slice.result.now in
    let count = ap length c.as_slice.ensures.value in
    place_at-past (map option_copied items) (length c.args.names.now) k (omega (arith, c.in_ok-places.ensures.few, length-map items option_copied, count)) past

pub returns-clause-read : goal.returns-clause-read
returns-clause-read c =
    IfOk_then c.inverses_at.result c.inverses_at.ensures.read (λ inverses gives.
    let names = c.args.names.now in
    let kept = map option_copied c.in_ok-places.places.items in
    let more = c.in_ok-places.ensures.placed.0 in
    let P : List (Option (Bor (List ℕ))) → Type 0 = λ items. GivesInverses names (map option_copied items) inverses in
    record {
      places = kept ++ replicate more None;
      placed = c.in_ok-places.ensures.placed.1;
      gives = gives_same names kept (kept ++ replicate more None) (λ k. sym (place_at-behind kept more k)) inverses (subst P c.as_slice.ensures.value gives);
    })

pub returns-clause-fault : goal.returns-clause-fault
returns-clause-fault c =
    IfErr_then c.inverses_at.result c.inverses_at.ensures.fault (λ error fault.
    let names = c.args.names.now in
    let kept = map option_copied c.in_ok-places.places.items in
    let more = c.in_ok-places.ensures.placed.0 in
    let whole = kept ++ replicate more None in
    let P : List (Option (Bor (List ℕ))) → Type 0 = λ items. IsMemoryOr (PlacesHaveFault names (map option_copied items)) error in
    places_fault (fields_view c.args.fields.now) names c.requires whole c.in_ok-places.ensures.placed.1
    (λ k past. place_at-behind kept more k
    ∙ place_at-past kept (length names) k (omega (arith, c.in_ok-places.ensures.few, length-map c.in_ok-places.places.items option_copied)) past)
    error (memory_or_weaker (PlacesHaveFault names kept) (PlacesHaveFault names whole) (fault_same names kept whole (λ k. sym (place_at-behind kept more k)))
    error (subst P c.as_slice.ensures.value fault)))
