use Rattle.std.proofs.Common.{◌≡◌, List, length, Err, ap, subst, ◌∙◌}
use Rattle.std.proofs.lemmas.Iterator.Adapters.{YieldsList-from_vec}
use Rattle.std.proofs.lemmas.Iterator.Consumers.{YieldsList-turn, YieldsList-end}
use Rattle.std.proofs.lemmas.Result.{err_from_is_err_and}
use Rattle.kb_explore.specs.declared.det.Det.TheVariants.{TooManyStates}
use Rattle.kb_branching.specs.Progress.{AreNumbers}
use Rattle.kb_branching.proofs.Steps.{AreReached-more, AreNumbers-push, too_many, start_reached, next_item, yielded_whole}
use Rattle.kb_branching.proofs.exploration.number_starts.Goals as goal

pub loop-state-init : goal.loop-state-init
loop-state-init g c = (tt, tt, c.requires.room, c.requires.reached, rw c.new-numbers.ensures.items tt)

pub returns-in_err-number-clause-many : goal.returns-in_err-number-clause-many
returns-in_err-number-clause-many g c most e =
    let exit = err_from_is_err_and c.from_residual-in_err-number.result c.from_residual-in_err-number.ensures.1 in
    let same : c.in_err-number.field-0.0 ≡ TooManyStates most = cc (exit.1, exit.2, e) in
    let answer = c.in_err-number.ensures.many most (ap (λ det. Err det) same) in
    let given = c.into_iter-state-iterator.ensures.into_iter_gives in
    let all = YieldsList-from_vec {s = c.into_iter-state-iterator.result} c.in_ok-starts.starts.items given.0 (given.1 ∙ c.in_ok-starts.starts.ok.0) in
    let turn = YieldsList-turn all c.loop-state.yielded c.loop-state.state-iterator c.loop-state.yielded_by c.next.result c.next.new.self
    c.in-Some.state c.in-Some.is c.next.ensures.steps in (
      answer.0,
      too_many c.loop-state.invariant.3 (start_reached c.in-Some.state
          (next_item c.in_ok-starts.starts.items (g.M.Branching.machine c.args.machine.now).starts c.in_ok-starts.ensures (length c.loop-state.yielded) c.in-Some.state turn)) c.args.limit answer.1,
    )

pub loop-state-preserved : goal.loop-state-preserved
loop-state-preserved g c =
    let given = c.into_iter-state-iterator.ensures.into_iter_gives in
    let all = YieldsList-from_vec {s = c.into_iter-state-iterator.result} c.in_ok-starts.starts.items given.0 (given.1 ∙ c.in_ok-starts.starts.ok.0) in
    let turn = YieldsList-turn all c.loop-state.yielded c.loop-state.state-iterator c.loop-state.yielded_by c.next.result c.next.new.self
    c.in-Some.state c.in-Some.is c.next.ensures.steps in
    let reached = start_reached c.in-Some.state
    (next_item c.in_ok-starts.starts.items (g.M.Branching.machine c.args.machine.now).starts c.in_ok-starts.ensures (length c.loop-state.yielded) c.in-Some.state turn) in (
      tt,
      tt,
      c.in_ok-number.ensures.room,
      AreReached-more c.loop-state.invariant.3 reached c.number.new.states.keys c.in_ok-number.number c.in_ok-number.ensures.numbers c.in_ok-number.ensures.distinct,
      rw c.in_ok-push.ensures.items (AreNumbers-push {states' = c.number.new.states.keys} c.in_ok-number.ensures.numbers c.loop-state.numbers.items c.loop-state.yielded
          c.loop-state.invariant.4),
    )

pub returns-clause-numbers : goal.returns-clause-numbers
returns-clause-numbers g c =
    let given = c.into_iter-state-iterator.ensures.into_iter_gives in
    let all = YieldsList-from_vec {s = c.into_iter-state-iterator.result} c.in_ok-starts.starts.items given.0 (given.1 ∙ c.in_ok-starts.starts.ok.0) in
    let end = YieldsList-end all c.loop-state.yielded c.loop-state.state-iterator c.loop-state.yielded_by c.next.result c.next.new.self
    c.in-None.is c.next.ensures.steps in
    let P : List g.row.M-State.Denot → Type 0 = λ items. AreNumbers c.loop-state.states.keys c.loop-state.numbers.items items in
    subst P (yielded_whole c.loop-state.yielded c.in_ok-starts.starts.items (g.M.Branching.machine c.args.machine.now).starts end.0 c.in_ok-starts.ensures) c.loop-state.invariant.4
