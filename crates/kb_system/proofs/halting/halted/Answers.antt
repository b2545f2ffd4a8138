use Rattle.std.proofs.Common.{◌∙◌, ap}
use Rattle.kb_machine.specs.States.{Problem}
use Rattle.kb_system.proofs.Halts.{ends_halted}
use Rattle.kb_system.proofs.halting.halted.Goals as goal

pub returns-clause-shows : goal.returns-clause-shows
returns-clause-shows g c limits parts same =
    let course = c.args.book.course in
    let first = c.first_pending-origin.ensures in
    let rules = c.in_ok-rules.ensures in (
      rules.order ∙ ap (λ (problem : Problem). problem.order) same,
      ends_halted limits parts course.problem course.state course.journal c.log_and_halt-lines.result.1 c.first_pending-origin.result first.0 c.log_and_halt-lines.result.0.items
          c.waiting_line-waiting.result c.in_ok-rules.rules.rules c.reached_by-reached.result same c.book_is_sound.ensures c.log_and_halt-lines.ensures.halt first.1 c.requires.reduced
          c.log_and_halt-lines.ensures.lines c.waiting_line-waiting.ensures rules.rules c.reached_by-reached.ensures,
    )
