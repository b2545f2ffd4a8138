use Rattle.std.proofs.Common.{Some, ap, ◌∙◌, arith}
use Rattle.std.proofs.lemmas.List.Elements.{All-pop}
use Rattle.kb_draw.specs.Seats.{IsSeatOf}
use Rattle.kb_draw.proofs.Steps.{may_join}
use Rattle.kb_draw.proofs.Seats.{gathers}
use Rattle.kb_draw.proofs.draw.Draw.with_all.Goals as goal

pub join_seat-requires : goal.join_seat-requires
join_seat-requires c =
    let before = c.loop-seat.invariant in
    let words = c.args.self.now.one_word.0 in
    let seat = (All-pop (IsSeatOf c.args.self.now) _ _ (Some c.in-Some.seat) c.in-Some.ensures.items before.4).1 in
    (before.0, seat.at_table, seat.bare, omega (arith, words), may_join _ _ _ _ _)

pub loop-seat-preserved : goal.loop-seat-preserved
loop-seat-preserved c =
    let before = c.loop-seat.invariant in
    let own = All-pop (IsSeatOf c.args.self.now) _ _ (Some c.in-Some.seat) c.in-Some.ensures.items before.4 in
    let now = c.join_seat.ensures in
    let seats = ap (λ m. m.0.seats) now.2 in
    let single = own.1.single in
    let counted = before.2 in
    let fewer = c.in-Some.ensures.len in (
      now.0 ∙ before.0,
      ap (λ m. m.1) now.2 ∙ before.1,
      omega (arith, seats, single, counted, fewer),
      (λ weight. gathers weight _ _ _ _ c.in-Some.seat _ now.2 c.in-Some.ensures.items (before.3 weight)),
      own.0,
    )
