use Rattle.std.proofs.Common.{◌≡◌, ℕ, ◌+◌, ◌<◌, List, Option, map, length, sym, subst, arith}
use Rattle.std.specs.Option.{option_copied}
use Rattle.std.proofs.lemmas.Result.{err_from_is_err_and}
use Rattle.kb_fields.specs.FirstFaults.{IsFirstFault}
use Rattle.kb_presfile.specs.Faults.{PlaceIsUnknown}
use Rattle.kb_presfile.proofs.CheckLemmas.{memory_or_weaker}
use Rattle.kb_presfile.proofs.LetterSteps.{StandForFirst, one_more, all_stand, first_unknown}
use Rattle.kb_presfile.proofs.inverses.letters_at.Goals as goal

pub loop-place-preserved : goal.loop-place-preserved
loop-place-preserved c =
    let places = map option_copied c.args.places.now in
    let P : List (Option ℕ) → Type 0 = λ letters. StandForFirst c.args.names.now places letters (c.loop-place.place + 1) in
    let letter = c.in_ok-letter_at.ensures in
    subst P (sym c.in_ok-push.ensures.items)
    (one_more c.args.names.now places c.loop-place.letters.items c.loop-place.place c.in_ok-letter_at.field-0 c.loop-place.invariant
    (record { empty = letter.empty; some = letter.some }))

pub returns-clause-read : goal.returns-clause-read
returns-clause-read c =
    let whole : length c.args.names.now ≡ c.loop-place.place = omega arith in
    all_stand c.args.names.now (map option_copied c.args.places.now) c.loop-place.letters.items c.loop-place.place whole c.loop-place.invariant

pub returns-in_err-letter_at-clause-fault : goal.returns-in_err-letter_at-clause-fault
returns-in_err-letter_at-clause-fault c =
    let p = err_from_is_err_and c.from_residual-in_err-letter_at.result c.from_residual-in_err-letter_at.ensures.1 in
    let names = c.args.names.now in
    let places = map option_copied c.args.places.now in
    rw (p.1, p.2) (memory_or_weaker (PlaceIsUnknown names places c.loop-place.place) (IsFirstFault ◌<◌ (PlaceIsUnknown names places))
    (λ e fault. first_unknown names places c.loop-place.letters.items c.loop-place.place e c.loop-place.invariant fault) _ c.in_err-letter_at.ensures.fault)
