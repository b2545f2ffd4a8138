use Rattle.std.proofs.Common.{◌≡◌, ◌∷◌, ◌++◌, take}
use Rattle.std.specs.Prelude.{map}
use Rattle.std.specs.List.{join_with_byte}
use Rattle.kb_machine.specs.declared.line.LogStep.{LogStep}
use Rattle.kb_proof.specs.Printed.{text_of_step}
use Rattle.kb_proof.proofs.printing.print_steps.Given as goal

-- the steps before this one are printed
abbrev pub invariant-loop-step : goal.invariant-loop-step
invariant-loop-step l = record {
  head : LogStep;
  whole : l.steps ≡ head ∷ l.rest;
  so_far : l.out.items ≡ l.fn.out.items ++ join_with_byte 44 (map text_of_step (head ∷ take l.step-index l.rest));
}
