use Rattle.std.proofs.Common.{◌≡◌, ◌-◌, true, false, [], ◌∷◌, ◌++◌, get_or, set, sym, ap, ◌∙◌, arith}
use Rattle.std.proofs.lemmas.List.{get_or_read, take_more}
use Rattle.kb_fsaleast.proofs.Marks.{mark_read, unseen_pass, unseen_take}
use Rattle.kb_fsaleast.proofs.unseen.unseen.Goals as goal
use Rattle.kb_fsaleast.proofs.unseen.unseen.Goals.{then-not-index+in_ok-push, else-not-index}

pub loop-state-preserved : goal.loop-state-preserved
loop-state-preserved c =
    let states = c.args.states.now in
    let index = c.loop-state.state-index in
    let state = get_or states index 0 in
    let marks = c.loop-state.seen.items in
    let known = c.requires index 0 c.loop-state-test.true in
    let next = take_more states index 0 c.loop-state-test.true in
    let positive = known.0 in
    let within = known.1 in
    let count = c.loop-state.invariant.one_each in
    let read : c.index.result.now ≡ get_or marks (state - 1) false = get_or_read marks (state - 1) _ (omega arith) c.index.ensures false in
    elim c.if-not-index.branch [
      | then-not-index+in_ok-push w ↦
          let unmarked : get_or marks (state - 1) false ≡ false = sym read ∙ w.if-not-index.true in
          let marks' : c.if-not-index.seen.items ≡ set marks (state - 1) true = ap (λ v. v.items) w.seen-is in
          let fresh' : c.if-not-index.fresh.items ≡ c.loop-state.fresh.items ++ state ∷ [] = ap (λ v. v.items) w.fresh-is ∙ w.in_ok-push.ensures.items in
          rw (next, marks', fresh') (unseen_take c.loop-state.invariant state positive within unmarked)
      | else-not-index w ↦
          rw (next, ap (λ v. v.items) w.seen-is, ap (λ v. v.items) w.fresh-is)
          (unseen_pass c.loop-state.invariant state (mark_read marks state positive ∙ sym read ∙ w.if-not-index.false))
    ]
