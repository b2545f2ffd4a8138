use Rattle.std.proofs.Common.{drop}
use Rattle.kb_machine.specs.Lines.{rules_of}
use Rattle.kb_proof.proofs.Replays.{IsReplayed}
use Rattle.kb_proof.proofs.verifying.replay.replay.Given as goal

-- the steps before this one are taken
abbrev pub invariant-loop-step : goal.invariant-loop-step
invariant-loop-step l = IsReplayed (rules_of l.earlier) l.fn.word l.steps (drop l.step-index l.steps) l.word
