use Rattle.std.proofs.Common.{◌≡◌, ◌<◌, length, get_or, refl, sym, ap, ◌∙◌, arith}
use Rattle.std.proofs.lemmas.List.{get_or_read}
use Rattle.kb_padding.proofs.EdgeLemmas.{AreForward-added, AreForward-known, AreForward-same, same_from_forward}
use Rattle.kb_padding.proofs.misplaced.forward.Goals as goal
use Rattle.kb_padding.proofs.misplaced.forward.Goals.{then-index-state+in_ok-push, else-index-state}

pub loop-target-preserved : goal.loop-target-preserved
loop-target-preserved c =
    let backward = c.args.backward.now in
    let place = c.loop-target.target-index in
    let before = c.loop-target.invariant in
    let target = (get_or backward place (0, 0)).0 in
    let state = (get_or backward place (0, 0)).1 in
    let within : place < length backward = omega arith in
    let bounds = c.requires place (0, 0) within in
    let read : c.index.result.now ≡ get_or c.loop-target.latest.items target 0 =
    get_or_read c.loop-target.latest.items target _ (omega (arith, bounds.0, before.one_each)) c.index.ensures 0 in
    elim c.if-index-state.branch [
      | then-index-state+in_ok-push w ↦
          AreForward-same (sym (ap (λ v. v.items) w.edges-is ∙ w.in_ok-push.ensures.items)) (sym (ap (λ v. v.items) w.latest-is))
          (AreForward-added before target state refl bounds.0)
      | else-index-state w ↦
          AreForward-same (sym (ap (λ v. v.items) w.edges-is)) (sym (ap (λ v. v.items) w.latest-is))
          (AreForward-known before target state refl bounds.1 (omega (arith, read, w.if-index-state.false)))
    ]

pub returns : goal.returns
returns c =
    same_from_forward c.args.backward.now c.args.count c.loop-target.edges.items c.loop-target.latest.items c.loop-target.target-index (omega arith) c.loop-target.invariant
