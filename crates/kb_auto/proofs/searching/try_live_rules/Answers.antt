use Rattle.std.proofs.Common.{List, sym, refl, subst}
use Rattle.kb_word.specs.Words.{Pair as Sides}
use Rattle.kb_word.specs.Relations.{relations_of}
use Rattle.kb_diff.specs.Groups.{AreRulesOver}
use Rattle.kb_labels.specs.Labels.{AreEqualSides}
use Rattle.kb_system.specs.Problems.{limits_of}
use Rattle.kb_auto.proofs.Decisions.{given_relations}
use Rattle.kb_auto.proofs.RulesOfLogs.{log_of_live, order_given}
use Rattle.kb_auto.proofs.searching.try_live_rules.Goals as goal

pub live_rules_are_of_the_group-requires : goal.live_rules_are_of_the_group-requires
live_rules_are_of_the_group-requires g c =
    given_relations (limits_of c.args.limits.now) c.args.presentation.now c.args.book.now.course.problem c.requires.problem

pub try_rules-requires-clause-letters : goal.try_rules-requires-clause-letters
try_rules-requires-clause-letters g c κs within =
    let P : List Sides → Type 0 = λ rules. AreRulesOver c.args.presentation.now.n rules in
    subst P (sym c.in_ok-rules.ensures.rules) c.live_rules_are_of_the_group.ensures.letters

pub try_rules-requires-clause-sides : goal.try_rules-requires-clause-sides
try_rules-requires-clause-sides g c κs within =
    let presentation = c.args.presentation.now in
    let P : List Sides → Type 0 = λ rules. AreEqualSides (relations_of presentation.inv presentation.eqs) rules in
    subst P (sym c.in_ok-rules.ensures.rules) c.live_rules_are_of_the_group.ensures.sides

pub returns-in-NoRoom : goal.returns-in-NoRoom
returns-in-NoRoom g c =
    let limits = limits_of c.args.limits.now in
    let presentation = c.args.presentation.now in
    let course = c.args.book.now.course in
    let rules = c.in_ok-rules.rules in
    let own = c.live_rules_are_of_the_group.ensures in (
      order_given limits presentation course.problem course.state course.state.lines rules.rules c.requires.problem rules.order
          c.in_ok-rules.ensures.order,
      log_of_live limits presentation course.problem course.state course.state.lines rules.rules c.requires.problem c.book_is_sound.ensures refl
          c.in_ok-rules.ensures.rules own.live (own.same c.requires.settled),
      rw c.in-NoRoom.is at c.in_ok-structure.ensures,
    )
