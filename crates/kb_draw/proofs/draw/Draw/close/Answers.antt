use Rattle.std.proofs.Common.{◌<◌, sym, ◌∙◌, arith}
use Rattle.kb_draw.specs.Totals.{past, is_past, is_it}
use Rattle.kb_draw.proofs.Steps.{ends, ends_once}
use Rattle.kb_draw.proofs.Seats.{some_past}
use Rattle.kb_draw.proofs.draw.Draw.close.Goals as goal

pub returns-clause-once : goal.returns-clause-once
returns-clause-once c = λ number.
    let draw = c.args.self in
    let place = c.gathered-place in
    let seats = place.ensures.seats ∙ c.requires.0 in
    let same = place.ensures.numbers (is_it number) in
    let once = ends_once draw.counter.shared.key draw.bounds _ _ _ _ draw.told c.close_with.ensures.values.2 draw.few.0 seats number in
    omega (arith, same, once)

pub returns-clause-all : goal.returns-clause-all
returns-clause-all c = λ dry number from to.
    let draw = c.args.self in
    let place = c.gathered-place in
    let all = c.requires.0 in
    let some = draw.few.0 in
    let past_drawn = some_past draw c.args.seats.items (omega (arith, all, some)) c.requires.1 dry in
    let past_here = place.ensures.numbers (is_past draw.bounds.end) in
    let here : 0 < past draw.bounds.end place.result.me.0.numbers = omega (arith, past_drawn, past_here) in
    sym (place.ensures.numbers (is_it number))
    ∙ ends draw.counter.shared.key draw.bounds _ _ _ _ draw.told c.close_with.ensures.values.2 draw.ordered.0 some (place.ensures.seats ∙ all) here number from to
