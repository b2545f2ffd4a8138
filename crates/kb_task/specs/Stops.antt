-- Runs that end where the answers to word lines stop.
use Rattle.kb_lines.specs.declared.stop.Stop.{Stop}
use Rattle.kb_lines.specs.declared.stop.Stop.TheVariants as stops
use Rattle.kb_task.specs.declared.status.Refusal.TheVariants.{Line, InputTooLong}
use Rattle.kb_task.specs.declared.status.Status.{Status}
use Rattle.kb_task.specs.declared.status.Status.TheVariants.{Refused, Memory, Fault}
use Rattle.kb_task.specs.declared.status.Which.TheVariants.{Input, Output}

-- the status of a run that a stop ends
abbrev pub stop_status : Stop → Status
stop_status (stops.Refused number fault) = Refused (Line number fault)
stop_status stops.TooLong = Refused InputTooLong
stop_status stops.Input = Fault Input
stop_status stops.Output = Fault Output
stop_status stops.Memory = Memory
