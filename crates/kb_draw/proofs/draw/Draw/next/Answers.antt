use Rattle.std.proofs.Common.{cond, refl, sym, ap, ◌∙◌, arith}
use Rattle.kb_draw.specs.Seats.{nothing, one, last}
use Rattle.kb_draw.proofs.Sums.{is_past-yes, is_past-no}
use Rattle.kb_draw.proofs.Steps.{may_draw}
use Rattle.kb_draw.proofs.Seats.{drawing_seat}
use Rattle.kb_draw.proofs.draw.Draw.next.Goals as goal

pub returns-then-seat-clause-taken : goal.returns-then-seat-clause-taken
returns-then-seat-clause-taken c = nothing c.if-seat.true

pub fetch_add-number-requires : goal.fetch_add-number-requires
fetch_add-number-requires c =
    let draw = c.args.self.now in
    let words = draw.one_word.0 in
    let seat = c.requires in
    let wet = seat.is_dry ∙ ap (λ b. cond b 1 0) c.if-seat.false in (
      seat.at_table,
      omega (arith, words),
      may_draw draw.counter.shared.key draw.bounds _ _ _ draw.told draw.ordered.0 draw.ordered.1 draw.few.0 draw.few.1 seat.single wet,
    )

pub returns-then-number-self-clause-seat : goal.returns-then-number-self-clause-seat
returns-then-number-self-clause-seat c =
    let wet = c.if-seat.false in
    let early = is_past-no c.args.self.now.bounds.end c.fetch_add-number.result c.if-number-self.true in
    drawing_seat _ _ _ _ c.requires wet c.fetch_add-number.ensures.0 c.fetch_add-number.ensures.2.0 (early ∙ sym (ap (λ b. cond b 1 0) wet))

pub returns-then-number-self-clause-taken : goal.returns-then-number-self-clause-taken
returns-then-number-self-clause-taken c =
    let told = c.fetch_add-number.ensures.2 in
    let from = c.requires.from in
    let least = told.1 in
    one c.if-seat.false (omega (arith, from, least)) c.if-number-self.true (ap (λ m. m.0.numbers) told.0) c.if-seat.false

pub returns-clause-seat : goal.returns-clause-seat
returns-clause-seat c =
    let late = is_past-yes c.args.self.now.bounds.end c.fetch_add-number.result c.if-number-self.false in
    drawing_seat _ _ _ _ c.requires c.if-seat.false c.fetch_add-number.ensures.0 c.fetch_add-number.ensures.2.0 late

pub returns-clause-taken : goal.returns-clause-taken
returns-clause-taken c = last c.if-seat.false c.if-number-self.false (ap (λ m. m.0.numbers) c.fetch_add-number.ensures.2.0) refl
