use Rattle.std.proofs.Common.{◌≡◌, ◌+◌, length, Err, slice_get, refl, sym, ap, ◌∙◌, arith}
use Rattle.std.proofs.lemmas.Iterator.Adapters.{YieldsList-from_vec}
use Rattle.std.proofs.lemmas.Iterator.Consumers.{YieldsList-turn, YieldsList-end, YieldsList-so_far}
use Rattle.std.proofs.lemmas.Result.{err_from_is_err_and}
use Rattle.kb_explore.specs.declared.det.Det.TheVariants.{TooManyStates}
use Rattle.kb_explore.proofs.Rows.{next_move, all_moves}
use Rattle.kb_explore.proofs.Searches.{Searching-begun, Searching-too_many, Searching-found, Searching-push, Searched-push}
use Rattle.kb_explore.proofs.acceptance.next_accepts.Goals as goal

pub loop-symbol-init : goal.loop-symbol-init
loop-symbol-init g c =
    let state = c.index.result.now in
    (tt, tt, c.requires.room, (state, (c.index.ensures, Searching-begun state c.requires.searched c.index.ensures)))

pub returns-in_err-number-clause-many : goal.returns-in_err-number-clause-many
returns-in_err-number-clause-many g c most e =
    let exit = err_from_is_err_and c.from_residual-in_err-number.result c.from_residual-in_err-number.ensures.1 in
    let same : c.in_err-number.field-0.0 ≡ TooManyStates most = cc (exit.1, exit.2, e) in
    let answer = c.in_err-number.ensures.many most (ap (λ det. Err det) same) in
    let given = c.into_iter-symbol-iterator.ensures.into_iter_gives in
    let all = YieldsList-from_vec {s = c.into_iter-symbol-iterator.result} c.in_ok-moves.moves.items given.0 (given.1 ∙ c.in_ok-moves.moves.ok.0) in
    let so_far = c.loop-symbol.invariant.3 in
    let front = YieldsList-so_far all c.loop-symbol.yielded c.loop-symbol.symbol-iterator c.loop-symbol.yielded_by in
    let turn = YieldsList-turn all c.loop-symbol.yielded c.loop-symbol.symbol-iterator c.loop-symbol.yielded_by c.next.result c.next.new.self
    (c.in-Some.symbol, c.in-Some.state) c.in-Some.is c.next.ensures.steps in
    let move = next_move c.args.seen.now.states.keys c.args.done so_far.0 c.index.result.now c.in_ok-moves.moves.items
    c.loop-symbol.yielded so_far.1.0 c.index.ensures c.in_ok-moves.ensures c.in-Some.symbol c.in-Some.state front turn in
    (answer.0, Searching-too_many so_far.1.1 c.in-Some.symbol c.in-Some.state move.0 move.1 move.2 c.args.limit answer.1)

pub returns-then-accepts_at-clause-found : goal.returns-then-accepts_at-clause-found
returns-then-accepts_at-clause-found g c _ =
    let given = c.into_iter-symbol-iterator.ensures.into_iter_gives in
    let all = YieldsList-from_vec {s = c.into_iter-symbol-iterator.result} c.in_ok-moves.moves.items given.0 (given.1 ∙ c.in_ok-moves.moves.ok.0) in
    let so_far = c.loop-symbol.invariant.3 in
    let front = YieldsList-so_far all c.loop-symbol.yielded c.loop-symbol.symbol-iterator c.loop-symbol.yielded_by in
    let turn = YieldsList-turn all c.loop-symbol.yielded c.loop-symbol.symbol-iterator c.loop-symbol.yielded_by c.next.result c.next.new.self
    (c.in-Some.symbol, c.in-Some.state) c.in-Some.is c.next.ensures.steps in
    let move = next_move c.args.seen.now.states.keys c.args.done so_far.0 c.index.result.now c.in_ok-moves.moves.items
    c.loop-symbol.yielded so_far.1.0 c.index.ensures c.in_ok-moves.ensures c.in-Some.symbol c.in-Some.state front turn in
    let new = c.accepts_at.ensures.yes c.if-accepts_at.true in
    let known : c.len-known.result ≡ length c.loop-symbol.seen.states.keys = omega (arith, c.len-known.ensures.len) in
    Searching-found so_far.1.1 c.in-Some.symbol c.in-Some.state move.0 move.1 move.2
    (c.args.done + 1) refl c.number.new.seen.states.keys c.number.new.seen.origins.items c.in_ok-number.field-0
    c.in_ok-number.ensures.numbers c.in_ok-number.ensures.distinct
    (new.0, (ap (slice_get c.number.new.seen.states.keys) (sym known) ∙ new.1, new.2))

pub loop-symbol-preserved : goal.loop-symbol-preserved
loop-symbol-preserved g c =
    let given = c.into_iter-symbol-iterator.ensures.into_iter_gives in
    let all = YieldsList-from_vec {s = c.into_iter-symbol-iterator.result} c.in_ok-moves.moves.items given.0 (given.1 ∙ c.in_ok-moves.moves.ok.0) in
    let so_far = c.loop-symbol.invariant.3 in
    let front = YieldsList-so_far all c.loop-symbol.yielded c.loop-symbol.symbol-iterator c.loop-symbol.yielded_by in
    let turn = YieldsList-turn all c.loop-symbol.yielded c.loop-symbol.symbol-iterator c.loop-symbol.yielded_by c.next.result c.next.new.self
    (c.in-Some.symbol, c.in-Some.state) c.in-Some.is c.next.ensures.steps in
    let move = next_move c.args.seen.now.states.keys c.args.done so_far.0 c.index.result.now c.in_ok-moves.moves.items
    c.loop-symbol.yielded so_far.1.0 c.index.ensures c.in_ok-moves.ensures c.in-Some.symbol c.in-Some.state front turn in
    let known : c.len-known.result ≡ length c.loop-symbol.seen.states.keys = omega (arith, c.len-known.ensures.len) in
    let more = Searching-push so_far.1.1 c.in-Some.symbol c.in-Some.state move.0 move.1 move.2
    (c.args.done + 1) refl c.number.new.seen.states.keys c.number.new.seen.origins.items c.in_ok-number.field-0
    c.in_ok-number.ensures.numbers c.in_ok-number.ensures.distinct
    (λ state at. c.accepts_at.ensures.no c.if-accepts_at.false state (ap (slice_get c.number.new.seen.states.keys) known ∙ at)) in
    (tt, tt, c.in_ok-number.ensures.room, (so_far.0, (so_far.1.0, more)))

pub returns-clause-searched : goal.returns-clause-searched
returns-clause-searched g c _ =
    let given = c.into_iter-symbol-iterator.ensures.into_iter_gives in
    let all = YieldsList-from_vec {s = c.into_iter-symbol-iterator.result} c.in_ok-moves.moves.items given.0 (given.1 ∙ c.in_ok-moves.moves.ok.0) in
    let end = YieldsList-end all c.loop-symbol.yielded c.loop-symbol.symbol-iterator c.loop-symbol.yielded_by c.next.result c.next.new.self
    c.in-None.is c.next.ensures.steps in
    let so_far = c.loop-symbol.invariant.3 in
    Searched-push so_far.1.1
    (all_moves c.args.seen.now.states.keys c.args.done so_far.0 c.index.result.now c.in_ok-moves.moves.items
    c.loop-symbol.yielded so_far.1.0 c.index.ensures c.in_ok-moves.ensures end.0)
