use Rattle.std.proofs.Common.{◌≡◌, length, Err, ap, ◌∙◌}
use Rattle.std.proofs.lemmas.Iterator.Adapters.{YieldsList-from_vec}
use Rattle.std.proofs.lemmas.Iterator.Consumers.{YieldsList-turn, YieldsList-end}
use Rattle.std.proofs.lemmas.Result.{err_from_is_err_and}
use Rattle.kb_explore.specs.declared.det.Det.TheVariants.{TooManyStates}
use Rattle.kb_branching.proofs.Steps.{AreReached-more, AreNumberedMoves-push, KeepNumbers-more, row_made, too_many, target_reached, next_item, yielded_whole}
use Rattle.kb_branching.proofs.exploration.row_at.Goals as goal

pub loop-symbol-init : goal.loop-symbol-init
loop-symbol-init g c = (tt, tt, c.requires.room, c.requires.reached, λ number state at. at, rw c.new-row.ensures tt)

pub returns-in_err-number-clause-many : goal.returns-in_err-number-clause-many
returns-in_err-number-clause-many g c most e =
    let exit = err_from_is_err_and c.from_residual-in_err-number.result c.from_residual-in_err-number.ensures.1 in
    let same : c.in_err-number.field-0.0 ≡ TooManyStates most = cc (exit.1, exit.2, e) in
    let answer = c.in_err-number.ensures.many most (ap (λ det. Err det) same) in
    let given = c.into_iter-symbol-iterator.ensures.into_iter_gives in
    let all = YieldsList-from_vec {s = c.into_iter-symbol-iterator.result} c.in_ok-moves.moves.items given.0 (given.1 ∙ c.in_ok-moves.moves.ok.0) in
    let turn = YieldsList-turn all c.loop-symbol.yielded c.loop-symbol.symbol-iterator c.loop-symbol.yielded_by c.next.result c.next.new.self
    (c.in-Some.symbol, c.in-Some.state) c.in-Some.is c.next.ensures.steps in (
      answer.0,
      too_many c.loop-symbol.invariant.3 (target_reached c.requires.reached c.args.place c.index.result.now c.index.ensures c.in-Some.symbol
          c.in-Some.state (next_item c.in_ok-moves.moves.items ((g.M.Branching.machine c.args.machine.now).moves c.index.result.now) c.in_ok-moves.ensures (length c.loop-symbol.yielded) (c.in-Some.symbol, c.in-Some.state) turn))
          c.args.limit answer.1,
    )

pub loop-symbol-preserved : goal.loop-symbol-preserved
loop-symbol-preserved g c =
    let given = c.into_iter-symbol-iterator.ensures.into_iter_gives in
    let all = YieldsList-from_vec {s = c.into_iter-symbol-iterator.result} c.in_ok-moves.moves.items given.0 (given.1 ∙ c.in_ok-moves.moves.ok.0) in
    let turn = YieldsList-turn all c.loop-symbol.yielded c.loop-symbol.symbol-iterator c.loop-symbol.yielded_by c.next.result c.next.new.self
    (c.in-Some.symbol, c.in-Some.state) c.in-Some.is c.next.ensures.steps in
    let reached = target_reached c.requires.reached c.args.place c.index.result.now c.index.ensures c.in-Some.symbol
    c.in-Some.state (next_item c.in_ok-moves.moves.items ((g.M.Branching.machine c.args.machine.now).moves c.index.result.now) c.in_ok-moves.ensures (length c.loop-symbol.yielded) (c.in-Some.symbol, c.in-Some.state) turn) in
    let has = c.in_ok-number.ensures.numbers in (
      tt,
      tt,
      c.in_ok-number.ensures.room,
      AreReached-more c.loop-symbol.invariant.3 reached c.number.new.states.keys c.in_ok-number.number has c.in_ok-number.ensures.distinct,
      KeepNumbers-more c.args.states.now.keys c.loop-symbol.states.keys c.number.new.states.keys c.loop-symbol.invariant.4 has.kept,
      rw c.in_ok-push.ensures.ok (AreNumberedMoves-push {states' = c.number.new.states.keys} has c.in-Some.symbol c.loop-symbol.row c.loop-symbol.yielded c.loop-symbol.invariant.5),
    )

pub returns-clause-row : goal.returns-clause-row
returns-clause-row g c =
    let given = c.into_iter-symbol-iterator.ensures.into_iter_gives in
    let all = YieldsList-from_vec {s = c.into_iter-symbol-iterator.result} c.in_ok-moves.moves.items given.0 (given.1 ∙ c.in_ok-moves.moves.ok.0) in
    let end = YieldsList-end all c.loop-symbol.yielded c.loop-symbol.symbol-iterator c.loop-symbol.yielded_by c.next.result c.next.new.self
    c.in-None.is c.next.ensures.steps in
    row_made (g.M.Branching.machine c.args.machine.now) c.args.states.now.keys c.loop-symbol.states.keys c.loop-symbol.invariant.4 c.args.place c.index.result.now c.index.ensures c.loop-symbol.row c.loop-symbol.yielded
    c.loop-symbol.invariant.5 (yielded_whole c.loop-symbol.yielded c.in_ok-moves.moves.items ((g.M.Branching.machine c.args.machine.now).moves c.index.result.now) end.0 c.in_ok-moves.ensures)
