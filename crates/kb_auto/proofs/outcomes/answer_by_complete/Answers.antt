use Rattle.std.proofs.Common.{refl}
use Rattle.kb_word.specs.Relations.{relations_of}
use Rattle.kb_machine.proofs.Relations.{relations_over}
use Rattle.kb_system.specs.Problems.{limits_of}
use Rattle.kb_auto.proofs.Decisions.{is_reduced_system}
use Rattle.kb_auto.proofs.LiveRules.{reduced_are_over}
use Rattle.kb_auto.proofs.RulesOfLogs.{log_of_complete, order_given}
use Rattle.kb_auto.proofs.outcomes.answer_by_complete.Goals as goal

pub try_rules-requires-clause-letters : goal.try_rules-requires-clause-letters
try_rules-requires-clause-letters g c κs within =
    let presentation = c.args.presentation.now in
    let reduced =
    is_reduced_system (limits_of c.args.limits.now) presentation c.args.book.course c.args.rules c.requires.problem c.requires.completed in
    reduced_are_over presentation c.args.rules.rules reduced
    (c.reduced_left_sides_keep_the_letters.ensures presentation.order presentation.n (relations_of presentation.inv presentation.eqs)
    c.args.rules.rules (relations_over presentation.is_presentation) reduced)

pub try_rules-requires-clause-sides : goal.try_rules-requires-clause-sides
try_rules-requires-clause-sides g c κs within =
    let presentation = c.args.presentation.now in
    let reduced =
    is_reduced_system (limits_of c.args.limits.now) presentation c.args.book.course c.args.rules c.requires.problem c.requires.completed in
    (c.reduced_complete_systems_are_complete.ensures.complete presentation.order (relations_of presentation.inv presentation.eqs)
    c.args.rules.rules reduced).same.covers

pub returns-in-Own : goal.returns-in-Own
returns-in-Own g c = rw c.in-Own.is at c.in_ok-structure.ensures

pub returns-in-NoRoom : goal.returns-in-NoRoom
returns-in-NoRoom g c =
    let limits = limits_of c.args.limits.now in
    let presentation = c.args.presentation.now in
    let course = c.args.book.course in
    let rules = c.args.rules in
    let lines = c.into_log-lines.result.0.items in
    let reduced = is_reduced_system limits presentation course rules c.requires.problem c.requires.completed in (
      order_given limits presentation course.problem course.state lines rules.rules c.requires.problem rules.order c.requires.completed.order,
      log_of_complete limits presentation course.problem course.state lines rules.rules c.requires.problem c.book_is_sound.ensures
          c.into_log-lines.ensures.lines c.requires.completed.confluent c.requires.completed.same reduced,
      rw c.in-NoRoom.is at c.in_ok-structure.ensures,
    )

pub returns-in-Counted : goal.returns-in-Counted
returns-in-Counted g c =
    let limits = limits_of c.args.limits.now in
    let presentation = c.args.presentation.now in
    let course = c.args.book.course in
    let rules = c.args.rules in
    let lines = c.into_log-lines.result.0.items in
    let reduced = is_reduced_system limits presentation course rules c.requires.problem c.requires.completed in (
      order_given limits presentation course.problem course.state lines rules.rules c.requires.problem rules.order c.requires.completed.order,
      log_of_complete limits presentation course.problem course.state lines rules.rules c.requires.problem c.book_is_sound.ensures
          c.into_log-lines.ensures.lines c.requires.completed.confluent c.requires.completed.same reduced,
      rw c.in-Counted.is at c.in_ok-structure.ensures,
    )

pub unreachable-requires : goal.unreachable-requires
unreachable-requires g c =
    let reduced =
    is_reduced_system (limits_of c.args.limits.now) c.args.presentation.now c.args.book.course c.args.rules c.requires.problem
    c.requires.completed in
    (rw c.in-Stuck.is at c.in_ok-structure.ensures) refl reduced
