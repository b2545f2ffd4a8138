use Rattle.std.proofs.Common.{List, false, sym, ◌∙◌, subst}
use Rattle.kb_word.specs.Presentations.{parts_of}
use Rattle.kb_machine.specs.declared.line.Line.{Line}
use Rattle.kb_complete.specs.declared.answers.Grown.TheVariants as grown
use Rattle.kb_auto.specs.Autgroup.{AreRulesOfLog}
use Rattle.kb_auto.proofs.Growing.{grown_said, known_grown, still_reduced, fewer_left}
use Rattle.kb_auto.proofs.searching.search_by_growths.Goals as goal

pub growths-init : goal.growths-init
growths-init g c = c.requires.under_way

pub growths-preserved : goal.growths-preserved
growths-preserved g c =
    let says = grown_said c.growths.book.course c.in_ok-next.field-0 (grown.More c.in-More.next) c.in-More.is c.in_ok-next.ensures.says in
    record {
      problem = says.continues.later.problem ∙ c.growths.invariant.problem;
      reduced = still_reduced c.growths.book.course c.in-More.next.course c.growths.invariant.reduced says.continues;
      known = known_grown c.grow_twofold.new.finder c.in_ok-next.field-0 (grown.More c.in-More.next) c.in-More.is c.in_ok-next.ensures.known;
    }

pub growths-smaller : goal.growths-smaller
growths-smaller g c =
    fewer_left c.growths.book.course c.in-More.next.course
    (grown_said c.growths.book.course c.in_ok-next.field-0 (grown.More c.in-More.next) c.in-More.is c.in_ok-next.ensures.says)
    c.book_is_sound.ensures

pub answer_by_complete-requires-clause-problem : goal.answer_by_complete-requires-clause-problem
answer_by_complete-requires-clause-problem g c κs within =
    let says =
    grown_said c.growths.book.course c.in_ok-next.field-0 (grown.Confluent c.in-Confluent.rules c.in-Confluent.end) c.in-Confluent.is
    c.in_ok-next.ensures.says in
    says.0.later.problem ∙ c.growths.invariant.problem

pub answer_by_complete-requires-clause-completed : goal.answer_by_complete-requires-clause-completed
answer_by_complete-requires-clause-completed g c κs within =
    (grown_said c.growths.book.course c.in_ok-next.field-0 (grown.Confluent c.in-Confluent.rules c.in-Confluent.end) c.in-Confluent.is
    c.in_ok-next.ensures.says).1

pub answer_at_halt-requires-clause-problem : goal.answer_at_halt-requires-clause-problem
answer_at_halt-requires-clause-problem g c κs within =
    let says =
    grown_said c.growths.book.course c.in_ok-next.field-0 (grown.Halted c.in-Halted.end) c.in-Halted.is c.in_ok-next.ensures.says in
    says.0.later.problem ∙ c.growths.invariant.problem

pub answer_at_halt-requires-clause-halted : goal.answer_at_halt-requires-clause-halted
answer_at_halt-requires-clause-halted g c κs within =
    (grown_said c.growths.book.course c.in_ok-next.field-0 (grown.Halted c.in-Halted.end) c.in-Halted.is c.in_ok-next.ensures.says).1

pub answer_at_halt-requires-clause-reduced : goal.answer_at_halt-requires-clause-reduced
answer_at_halt-requires-clause-reduced g c κs within =
    let says =
    grown_said c.growths.book.course c.in_ok-next.field-0 (grown.Halted c.in-Halted.end) c.in-Halted.is c.in_ok-next.ensures.says in
    still_reduced c.growths.book.course c.in-Halted.end.course c.growths.invariant.reduced says.0

pub returns-in-Own : goal.returns-in-Own
returns-in-Own g c = rw c.in-Own.is at c.in_ok-structure.ensures

pub try_live_rules-requires-clause-problem : goal.try_live_rules-requires-clause-problem
try_live_rules-requires-clause-problem g c κs within =
    let says = grown_said c.growths.book.course c.in_ok-next.field-0 (grown.More c.in-More.next) c.in-More.is c.in_ok-next.ensures.says in
    says.continues.later.problem ∙ c.growths.invariant.problem

pub try_live_rules-requires-clause-settled : goal.try_live_rules-requires-clause-settled
try_live_rules-requires-clause-settled g c κs within =
    (grown_said c.growths.book.course c.in_ok-next.field-0 (grown.More c.in-More.next) c.in-More.is c.in_ok-next.ensures.says).settled

pub returns-in-NoRoom : goal.returns-in-NoRoom
returns-in-NoRoom g c =
    let presentation = c.args.presentation.now in
    let says = rw c.in-NoRoom.is at c.in_ok-structure.ensures in
    let P : List Line → Type 0 = λ lines. AreRulesOfLog (parts_of presentation) lines c.in-NoRoom.rules.rules false in
    (says.0, subst P (sym c.into_log-lines.ensures.lines) says.1, says.2)
