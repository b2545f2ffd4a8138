use Rattle.std.proofs.Common.{ap, ◌∙◌, Ok}
use Rattle.kb_complete.specs.declared.answers.Grown.TheVariants as grown
use Rattle.kb_auto.proofs.Growing.{grown_said, known_grown, still_reduced, fewer_left}
use Rattle.kb_system.specs.Problems.{limits_of}
use Rattle.kb_auto.proofs.Decisions.{given_relations, is_reduced_system}
use Rattle.kb_auto.proofs.rounds.decide_by_rounds.Goals as goal

pub rounds-init : goal.rounds-init
rounds-init g c = c.requires.under_way

pub rounds-preserved : goal.rounds-preserved
rounds-preserved g c =
    let says = grown_said c.rounds.book.course c.in_ok-next.field-0 (grown.More c.in-More.next) c.in-More.is c.in_ok-next.ensures.says in
    record {
      problem = says.continues.later.problem ∙ c.rounds.invariant.problem;
      reduced = still_reduced c.rounds.book.course c.in-More.next.course c.rounds.invariant.reduced says.continues;
      known = known_grown c.grow.new.finder c.in_ok-next.field-0 (grown.More c.in-More.next) c.in-More.is c.in_ok-next.ensures.known;
    }

pub rounds-smaller : goal.rounds-smaller
rounds-smaller g c =
    fewer_left c.rounds.book.course c.in-More.next.course
    (grown_said c.rounds.book.course c.in_ok-next.field-0 (grown.More c.in-More.next) c.in-More.is c.in_ok-next.ensures.says)
    c.book_is_sound.ensures

pub live_rules_show-requires-clause-relations : goal.live_rules_show-requires-clause-relations
live_rules_show-requires-clause-relations g c =
    let says = grown_said c.rounds.book.course c.in_ok-next.field-0 (grown.More c.in-More.next) c.in-More.is c.in_ok-next.ensures.says in
    given_relations (limits_of c.args.limits.now) c.args.presentation.now c.in-More.next.course.problem
    (says.continues.later.problem ∙ c.rounds.invariant.problem)

pub decide_by_complete-requires-clause-reduced : goal.decide_by_complete-requires-clause-reduced
decide_by_complete-requires-clause-reduced g c =
    let after = c.in-Confluent._book.course in
    let says =
    grown_said c.rounds.book.course c.in_ok-next.field-0 (grown.Confluent c.in-Confluent.rules c.in-Confluent._book) c.in-Confluent.is
    c.in_ok-next.ensures.says in
    is_reduced_system (limits_of c.args.limits.now) c.args.presentation.now after c.in-Confluent.rules
    (says.0.later.problem ∙ c.rounds.invariant.problem) says.1

pub returns-in-Confluent : goal.returns-in-Confluent
returns-in-Confluent g c = c.decide_by_complete.ensures (limits_of c.args.limits.now)

pub decide_at_halt-requires : goal.decide_at_halt-requires
decide_at_halt-requires g c =
    let says =
    grown_said c.rounds.book.course c.in_ok-next.field-0 (grown.Halted c.in-Halted.book) c.in-Halted.is
    c.in_ok-next.ensures.says in
    record {
      group = c.requires.group;
      multipliers = c.requires.multipliers;
      relations = given_relations (limits_of c.args.limits.now) c.args.presentation.now c.in-Halted.book.course.problem
          (says.0.later.problem ∙ c.rounds.invariant.problem);
      halted = says.1;
      reduced = still_reduced c.rounds.book.course c.in-Halted.book.course c.rounds.invariant.reduced says.0;
    }

pub returns-in-Halted : goal.returns-in-Halted
returns-in-Halted g c =
    let says =
    grown_said c.rounds.book.course c.in_ok-next.field-0 (grown.Halted c.in-Halted.book) c.in-Halted.is
    c.in_ok-next.ensures.says in
    c.decide_at_halt.ensures (limits_of c.args.limits.now) (says.0.later.problem ∙ c.rounds.invariant.problem)

pub returns-then-branch : goal.returns-then-branch
returns-then-branch g c = c.in_ok-live_rules_show.ensures.yes (ap Ok c.if-branch.true)
