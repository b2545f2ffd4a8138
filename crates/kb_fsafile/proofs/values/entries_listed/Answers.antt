use Rattle.std.proofs.Common.{ℤ, Some, sym, ◌∙◌, arith}
use Rattle.std.proofs.lemmas.List.{take_all}
use Rattle.kb_record.specs.View.{value_view}
use Rattle.kb_record.specs.Listed.{listed}
use Rattle.kb_fields.proofs.ListingLemmas.{value_listed, value_other, one_place_more}
use Rattle.kb_fsafile.specs.Kinds.{entry_value, list_of_entries}
use Rattle.kb_fsafile.proofs.KindLemmas.{list_of_entries-places_of}
use Rattle.kb_fsafile.proofs.values.entries_listed.Goals as goal

pub returns-in_default-found-clause-other : goal.returns-in_default-found-clause-other
returns-in_default-found-clause-other c =
    value_other (λ (e : ℤ × ℤ). Some (entry_value e)) list_of_entries list_of_entries-places_of (value_view c.args.value.now) c.loop-place.place _ c.place.ensures
    (rw c.in_default-found.is at c.in_ok-found.ensures.none)

pub loop-place-preserved : goal.loop-place-preserved
loop-place-preserved c =
    one_place_more (λ (e : ℤ × ℤ). Some (entry_value e)) (listed (value_view c.args.value.now)) c.loop-place.place _ c.place.ensures c.loop-place.entries.items _
    c.in-Some-found.entry c.loop-place.invariant (rw c.in-Some-found.is at c.in_ok-found.ensures.found) c.in_ok-push.ensures.items

pub returns-clause-listed : goal.returns-clause-listed
returns-clause-listed c =
    let places = listed (value_view c.args.value.now) in
    let count = c.in-Some.ensures.list.1 in
    let whole = take_all c.loop-place.place places (omega (arith, count)) in
    value_listed (λ (e : ℤ × ℤ). Some (entry_value e)) list_of_entries list_of_entries-places_of (value_view c.args.value.now) places c.in-Some.ensures.list.0
    c.loop-place.entries.items (sym whole ∙ c.loop-place.invariant)
