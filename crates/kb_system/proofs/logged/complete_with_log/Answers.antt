use Rattle.kb_word.specs.Presentations.{parts_of}
use Rattle.kb_system.specs.Problems.{limits_of}
use Rattle.kb_system.proofs.logged.complete_with_log.Goals as goal

pub halted-requires : goal.halted-requires
halted-requires g c =
    let says = rw c.in-Halted.is at c.in_ok-rules.ensures in record { halted = says.1; reduced = says.2 }

pub returns-in_ok-halted-in-Halted : goal.returns-in_ok-halted-in-Halted
returns-in_ok-halted-in-Halted g c =
    let says = rw c.in-Halted.is at c.in_ok-rules.ensures in
    c.in_ok-halted-in-Halted.ensures.shows (limits_of c.args.limits.now) (parts_of c.args.presentation.now) says.0
