use Rattle.std.proofs.Common.{◌≡◌, ◌+◌, ◌++◌, ◌∷◌, [], length, slice_get, Err, sym, ap, subst, ◌∙◌}
use Rattle.std.proofs.lemmas.Iterator.Adapters.{YieldsList-from_vec}
use Rattle.std.proofs.lemmas.Iterator.Consumers.{YieldsList-turn, YieldsList-end, YieldsList-so_far}
use Rattle.std.proofs.lemmas.Result.{err_from_is_err_and}
use Rattle.kb_fsa.specs.Table.{Moves}
use Rattle.kb_explore.specs.Progress.{Partway, Progress}
use Rattle.kb_explore.specs.declared.det.Det.TheVariants.{TooManyStates}
use Rattle.kb_explore.proofs.Rows.{next_move, all_moves, row_is}
use Rattle.kb_explore.proofs.ExplorationSteps.{Partway-begun, Partway-push, Partway-too_many, Progress-push}
use Rattle.kb_explore.proofs.exploration.next_row.Goals as goal

pub loop-symbol-init : goal.loop-symbol-init
loop-symbol-init g c =
    let state = c.index.result.now in
    let P : Moves → Type 0 = λ row. Partway (g.M.Machine.machine c.args.machine.now) (g.M.Machine.symbols c.args.machine.now)
    c.args.seen.now.states.keys c.args.seen.now.origins.items c.args.rows.now state [] row in (
      tt,
      tt,
      c.requires.room,
      (
        state,
        (
          ap (slice_get c.args.seen.now.states.keys) (sym c.len-done.ensures) ∙ c.index.ensures,
          subst P (sym c.in_ok-row.ensures.items)
              (Partway-begun state c.requires.progress (ap (slice_get c.args.seen.now.states.keys) (sym c.len-done.ensures) ∙ c.index.ensures)),
        ),
      ),
    )

pub returns-in_err-number-clause-many : goal.returns-in_err-number-clause-many
returns-in_err-number-clause-many g c most e =
    let exit = err_from_is_err_and c.from_residual-in_err-number.result c.from_residual-in_err-number.ensures.1 in
    let same : c.in_err-number.field-0.0 ≡ TooManyStates most = cc (exit.1, exit.2, e) in
    let answer = c.in_err-number.ensures.many most (ap (λ det. Err det) same) in
    let given = c.into_iter-symbol-iterator.ensures.into_iter_gives in
    let all = YieldsList-from_vec {s = c.into_iter-symbol-iterator.result} c.in_ok-moves.moves.items given.0 (given.1 ∙ c.in_ok-moves.moves.ok.0) in
    let so_far = c.loop-symbol.invariant.3 in
    let move = next_move c.args.seen.now.states.keys (length c.args.rows.now) so_far.0 c.index.result.now c.in_ok-moves.moves.items
    c.loop-symbol.yielded so_far.1.0 (ap (slice_get c.args.seen.now.states.keys) (sym c.len-done.ensures) ∙ c.index.ensures) c.in_ok-moves.ensures c.in-Some.symbol c.in-Some.state
    (YieldsList-so_far all c.loop-symbol.yielded c.loop-symbol.symbol-iterator c.loop-symbol.yielded_by)
    (YieldsList-turn all c.loop-symbol.yielded c.loop-symbol.symbol-iterator c.loop-symbol.yielded_by c.next.result c.next.new.self
    (c.in-Some.symbol, c.in-Some.state) c.in-Some.is c.next.ensures.steps) in
    (answer.0, Partway-too_many so_far.1.1 c.in-Some.symbol c.in-Some.state move.0 move.1 c.args.limit answer.1)

pub loop-symbol-preserved : goal.loop-symbol-preserved
loop-symbol-preserved g c =
    let given = c.into_iter-symbol-iterator.ensures.into_iter_gives in
    let all = YieldsList-from_vec {s = c.into_iter-symbol-iterator.result} c.in_ok-moves.moves.items given.0 (given.1 ∙ c.in_ok-moves.moves.ok.0) in
    let so_far = c.loop-symbol.invariant.3 in
    let move = next_move c.args.seen.now.states.keys (length c.args.rows.now) so_far.0 c.index.result.now c.in_ok-moves.moves.items
    c.loop-symbol.yielded so_far.1.0 (ap (slice_get c.args.seen.now.states.keys) (sym c.len-done.ensures) ∙ c.index.ensures) c.in_ok-moves.ensures c.in-Some.symbol c.in-Some.state
    (YieldsList-so_far all c.loop-symbol.yielded c.loop-symbol.symbol-iterator c.loop-symbol.yielded_by)
    (YieldsList-turn all c.loop-symbol.yielded c.loop-symbol.symbol-iterator c.loop-symbol.yielded_by c.next.result c.next.new.self
    (c.in-Some.symbol, c.in-Some.state) c.in-Some.is c.next.ensures.steps) in
    let more = Partway-push so_far.1.1 c.in-Some.symbol c.in-Some.state move.0 move.1 (c.len-done.result + 1) (ap (λ k. k + 1) c.len-done.ensures)
    c.number.new.seen.states.keys c.number.new.seen.origins.items c.in_ok-number.number c.in_ok-number.ensures.numbers
    c.in_ok-number.ensures.distinct in
    (tt, tt, c.in_ok-number.ensures.room, (so_far.0, (so_far.1.0, rw c.in_ok-push.ensures.items more)))

pub returns-clause-row : goal.returns-clause-row
returns-clause-row g c =
    let given = c.into_iter-symbol-iterator.ensures.into_iter_gives in
    let all = YieldsList-from_vec {s = c.into_iter-symbol-iterator.result} c.in_ok-moves.moves.items given.0 (given.1 ∙ c.in_ok-moves.moves.ok.0) in
    let end = YieldsList-end all c.loop-symbol.yielded c.loop-symbol.symbol-iterator c.loop-symbol.yielded_by c.next.result c.next.new.self
    c.in-None.is c.next.ensures.steps in
    let so_far = c.loop-symbol.invariant.3 in
    row_is c.loop-symbol.seen.states.keys so_far.1.1.words so_far.1.1.word
    (all_moves c.args.seen.now.states.keys (length c.args.rows.now) so_far.0 c.index.result.now c.in_ok-moves.moves.items
    c.loop-symbol.yielded so_far.1.0 (ap (slice_get c.args.seen.now.states.keys) (sym c.len-done.ensures) ∙ c.index.ensures) c.in_ok-moves.ensures end.0) c.loop-symbol.row.items so_far.1.1.are_numbered

pub returns-clause-progress : goal.returns-clause-progress
returns-clause-progress g c =
    let given = c.into_iter-symbol-iterator.ensures.into_iter_gives in
    let all = YieldsList-from_vec {s = c.into_iter-symbol-iterator.result} c.in_ok-moves.moves.items given.0 (given.1 ∙ c.in_ok-moves.moves.ok.0) in
    let end = YieldsList-end all c.loop-symbol.yielded c.loop-symbol.symbol-iterator c.loop-symbol.yielded_by c.next.result c.next.new.self
    c.in-None.is c.next.ensures.steps in
    let so_far = c.loop-symbol.invariant.3 in
    Progress-push so_far.1.1
    (all_moves c.args.seen.now.states.keys (length c.args.rows.now) so_far.0 c.index.result.now c.in_ok-moves.moves.items
    c.loop-symbol.yielded so_far.1.0 (ap (slice_get c.args.seen.now.states.keys) (sym c.len-done.ensures) ∙ c.index.ensures) c.in_ok-moves.ensures end.0)
