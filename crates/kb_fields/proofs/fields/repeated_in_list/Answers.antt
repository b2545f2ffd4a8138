use Rattle.std.proofs.Common.{arith}
use Rattle.std.proofs.lemmas.Option.{MatchOption-at_some, MatchOption-at_none}
use Rattle.kb_record.specs.View.{written_place, written_places}
use Rattle.kb_fields.proofs.RepeatLemmas.{no_place_twice, places_more}
use Rattle.kb_fields.proofs.RepeatOrder.{from_place, repeated_at_place, repeated_behind}
use Rattle.kb_fields.proofs.fields.repeated_in_list.Goals as goal

pub returns-in-Some-clause-some : goal.returns-in-Some-clause-some
returns-in-Some-clause-some c =
    let places = written_places c.args.places.now in
    repeated_at_place places c.loop-place.place (written_place c.get.result) c.get.ensures (from_place places 0) c.loop-place.invariant.order c.in-Some.name
    (MatchOption-at_some _ _ c.in-Some.name c.in-Some.is c.in_ok-name.ensures.some)

pub loop-place-preserved : goal.loop-place-preserved
loop-place-preserved c =
    let places = written_places c.args.places.now in
    let once = MatchOption-at_none _ _ c.in_default.is c.in_ok-name.ensures.none in
    record {
      within = places_more places c.loop-place.place (written_place c.get.result) c.get.ensures c.loop-place.invariant.within once;
      order = repeated_behind places c.loop-place.place (written_place c.get.result) c.get.ensures (from_place places 0) c.loop-place.invariant.order once;
    }

pub returns-clause-none : goal.returns-clause-none
returns-clause-none c =
    no_place_twice (written_places c.args.places.now) c.loop-place.place (omega (arith, c.len-place-end.ensures)) c.loop-place.invariant.within
