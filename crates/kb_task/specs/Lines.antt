-- A line that is printed with a status.
use Rattle.std.specs.Prelude.{◌≡◌, ℕ, ◌⊎◌, List, ◌++◌}
use Rattle.kb_io.specs.Bytes.{AppendsPrefix}
use Rattle.kb_io.specs.States.{SinkState}
use Rattle.kb_task.specs.Limits.{undecided_line}
use Rattle.kb_task.specs.declared.status.Limit.{Limit}
use Rattle.kb_task.specs.declared.status.Status.{Status}
use Rattle.kb_task.specs.declared.status.Status.TheVariants.{Undecided, Memory, Fault}
use Rattle.kb_task.specs.declared.status.Which.TheVariants.{Output}

-- the line was written and the run has its status; or the output failed after a front of the line
abbrev pub LineIsWritten : List ℕ → Status → SinkState → SinkState → Status → Type 0
LineIsWritten line status before after result =
    ((result ≡ status) × (after.written ≡ before.written ++ line))
    ⊎ ((result ≡ Fault Output) × AppendsPrefix before.written after.written line)

-- the line of the limit was written, or a front of it; or memory ran out before
abbrev pub LimitIsPrinted : List (List ℕ) → Limit → SinkState → SinkState → Status → Type 0
LimitIsPrinted names limit before after result =
    LineIsWritten (undecided_line names limit) (Undecided limit) before after result
    ⊎ ((result ≡ Memory) × (after.written ≡ before.written))
