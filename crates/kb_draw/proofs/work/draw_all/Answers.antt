use Rattle.std.proofs.Common.{length, arith, subst, sym, ◌∙◌}
use Rattle.std.specs.Prelude.{IfOk}
use Rattle.std.specs.List.{All}
use Rattle.kb_draw.specs.Seats.{IsNewSeatOf}
use Rattle.kb_draw.specs.Workers.{IsDrawnOf, AreAllDrawn}
use Rattle.kb_draw.specs.declared.work.Worker.{Worker}
use Rattle.kb_draw.proofs.Sharing.{all_taken}
use Rattle.kb_draw.proofs.work.draw_all.Goals as goal
use Rattle.kb_draw.proofs.work.draw_all.Goals.{In_ok-seats}

-- what the workers bring back
all_drawn : (g : _) (c : In_ok-seats g)
    → AreAllDrawn c.in_ok-draw.draw (g.W.Work.parts c.args.work.now) (g.W.Work.sound c.args.work.now) (g.W.Work.done c.args.work.now)
    (length c.in_ok-drawn.drawn.items) c.in_ok-seats.seats.items c.in_ok-seats.shares.items
all_drawn g c =
    let draw = c.in_ok-draw.draw in let work = c.args.work.now in
    let len = c.in_ok-drawn.ensures.len in let shares = c.in_ok-drawn.drawn.ok.0 in let jobs = c.in_ok-crew.crew.ok.0 in
    let each : All (λ one. IfOk one (IsDrawnOf draw (g.W.Work.parts work) (g.W.Work.sound work) (g.W.Work.done work))) c.in_ok-drawn.drawn.items =
    λ k d within. (c.in_ok-drawn.ensures.each k d (omega (arith, within, len, shares, jobs))).1.call.met in
    all_taken draw (g.W.Work.parts work) (g.W.Work.sound work) (g.W.Work.done work) c.in_ok-seats.ensures each

pub map_vec-requires-after_bounds : goal.map_vec-requires-after_bounds
map_vec-requires-after_bounds g c κs within =
    let draw = c.in_ok-draw.draw in
    let made = c.in_ok-crew.ensures.each draw c.in_ok-draw.ensures.seats.1 in
    λ i x low is.
    let own : IsNewSeatOf draw x.seat = subst (λ (one : Worker). IsNewSeatOf draw one.seat) (sym is) (made i x low) in
    (own, c.in_ok-draw.ensures.bounds.1 ∙ c.parts.ensures)

pub close-requires : goal.close-requires
close-requires g c =
    let all = all_drawn g c in
    let count = all.count in let made = c.in_ok-draw.ensures.seats.0 in let bounds = c.in_ok-draw.ensures.bounds in
    let workers = c.in_ok-crew.ensures.count in
    let len = c.in_ok-drawn.ensures.len in let shares = c.in_ok-drawn.drawn.ok.0 in let jobs = c.in_ok-crew.crew.ok.0 in
    (omega (arith, count, made, workers, bounds, len, shares, jobs), all.each)

pub returns-clause-count : goal.returns-clause-count
returns-clause-count g c =
    let all = all_drawn g (goal.at.returns-clause-count g c).In_ok-seats in
    let count = all.as_many in let made = c.in_ok-draw.ensures.seats.0 in let workers = c.in_ok-crew.ensures.count in
    let len = c.in_ok-drawn.ensures.len in let shares = c.in_ok-drawn.drawn.ok.0 in let jobs = c.in_ok-crew.crew.ok.0 in
    omega (arith, count, made, workers, len, shares, jobs)

pub returns-clause-sound : goal.returns-clause-sound
returns-clause-sound g c = (all_drawn g (goal.at.returns-clause-sound g c).In_ok-seats).sound

pub returns-clause-done : goal.returns-clause-done
returns-clause-done g c =
    let all = all_drawn g (goal.at.returns-clause-done g c).In_ok-seats in
    let bounds = c.in_ok-draw.ensures.bounds in
    let parts = c.parts.ensures in
    λ part low.
    let drawn = c.close.ensures.all all.dry part (omega (arith, bounds)) (omega (arith, bounds, parts, low)) in
    all.done part low (omega (arith, drawn))
