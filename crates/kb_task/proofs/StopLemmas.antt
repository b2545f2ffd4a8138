-- A run that a stop ends has its fault counted.
use Rattle.kb_io.specs.Outside.{Outside}
use Rattle.kb_lines.specs.Answered.{StopIsCounted}
use Rattle.kb_lines.specs.Streams.{streams}
use Rattle.kb_lines.specs.declared.stop.Stop.{Stop}
use Rattle.kb_lines.specs.declared.stop.Stop.TheVariants as stops
use Rattle.kb_task.specs.Runs.{FaultIsCounted}
use Rattle.kb_task.specs.Stops.{stop_status}

pub stop-counted : (before after : Outside) (stop : Stop)
    → StopIsCounted (streams before.input before.output) (streams after.input after.output) stop
    → FaultIsCounted before after (stop_status stop)
stop-counted before after (stops.Refused number fault) counted = tt
stop-counted before after stops.TooLong counted = tt
stop-counted before after stops.Input counted = counted
stop-counted before after stops.Output counted = counted
stop-counted before after stops.Memory counted = tt
