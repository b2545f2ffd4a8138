use Rattle.std.proofs.Common.{take}
use Rattle.kb_book.specs.Normal.{AreByLines}
use Rattle.kb_book.proofs.steps.log_steps.Given as goal

abbrev pub invariant-loop-step : goal.invariant-loop-step
invariant-loop-step l = AreByLines l.live (take l.step-index l.steps) l.log_steps.items
