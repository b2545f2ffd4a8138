use Rattle.std.proofs.Common.{◌≡◌, ◌++◌, List, ℕ, get_or, ap, ◌∙◌}
use Rattle.std.proofs.lemmas.List.{get_or_read}
use Rattle.kb_machine.specs.declared.line.LogStep.{LogStep}
use Rattle.kb_proof.specs.Printed.{text_of_step}
use Rattle.kb_proof.proofs.PrintLemmas.{steps_more}
use Rattle.kb_proof.proofs.printing.print_steps.Goals as goal

pub loop-step-preserved : goal.loop-step-preserved
loop-step-preserved c =
    let is = c.loop-step.invariant in
    let rest : List LogStep = c.in-Some.rest.now in
    let index : ℕ = c.loop-step.step-index in
    let step : LogStep = c.step-item.result in
    let before : List ℕ = c.push-in-loop-step.new.self.items in
    let here : step ≡ get_or rest index step = get_or_read rest index step c.loop-step-test.true c.step-item.is step in
    record {
      head = is.head;
      whole = is.whole;
      so_far =
          steps_more is.head rest index step c.loop-step.out.items before c.print_step-in-loop-step.new.out.items c.args.out.now.items
          c.loop-step-test.true is.so_far c.in_ok-push-2.ensures.items
          (c.in_ok-print_step-2.ensures ∙ ap (λ (s : LogStep). before ++ text_of_step s) here);
    }
