use Rattle.std.proofs.Common.{◌≡◌, ◌+◌, ◌∷◌, Ok, drop, get_or, sym, ap, ◌∙◌}
use Rattle.std.proofs.lemmas.List.{drop_more, get_or_read}
use Rattle.kb_machine.specs.declared.line.LogStep.{LogStep}
use Rattle.kb_proof.proofs.Replays.{replayed_more}
use Rattle.kb_proof.proofs.verifying.replay.replay.Goals as goal

pub loop-step-preserved : goal.loop-step-preserved
loop-step-preserved c =
    let steps = c.args.steps.now in
    let index = c.loop-step.step-index in
    let step : LogStep = c.step-item.result in
    let within = c.loop-step-test.true in
    let here : step ≡ get_or steps index step = get_or_read steps index step within c.step-item.is step in
    replayed_more c.loop-step.invariant
    (drop_more steps index step within ∙ ap (λ (s : LogStep). s ∷ drop (index + 1) steps) (sym here))
    (c.in_ok-take_step.ensures.yes (ap Ok c.if-not-branch.false))
