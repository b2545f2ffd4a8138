use Rattle.std.proofs.Common.{List, sym, subst}
use Rattle.kb_word.specs.Presentations.{parts_of}
use Rattle.kb_word.specs.Words.{Pair as Sides}
use Rattle.kb_word.specs.Relations.{relations_of}
use Rattle.kb_diff.specs.Groups.{AreRulesOver}
use Rattle.kb_labels.specs.Labels.{AreEqualSides}
use Rattle.kb_system.specs.Problems.{limits_of}
use Rattle.kb_auto.proofs.Decisions.{given_relations}
use Rattle.kb_auto.proofs.outcomes.answer_at_halt.Goals as goal

pub live_rules_are_of_the_group-requires : goal.live_rules_are_of_the_group-requires
live_rules_are_of_the_group-requires g c =
    given_relations (limits_of c.args.limits.now) c.args.presentation.now c.args.book.course.problem c.requires.problem

pub last_round-requires-clause-letters : goal.last_round-requires-clause-letters
last_round-requires-clause-letters g c κs within =
    let P : List Sides → Type 0 = λ rules. AreRulesOver c.args.presentation.now.n rules in
    subst P (sym c.in_ok-halt.ensures.rules) c.live_rules_are_of_the_group.ensures.letters

pub last_round-requires-clause-sides : goal.last_round-requires-clause-sides
last_round-requires-clause-sides g c κs within =
    let presentation = c.args.presentation.now in
    let P : List Sides → Type 0 = λ rules. AreEqualSides (relations_of presentation.inv presentation.eqs) rules in
    subst P (sym c.in_ok-halt.ensures.rules) c.live_rules_are_of_the_group.ensures.sides

pub returns-in-Own : goal.returns-in-Own
returns-in-Own g c = rw c.in-Own.is at c.in_ok-structure.ensures

pub returns-in-Failed : goal.returns-in-Failed
returns-in-Failed g c = (
  c.in_ok-halt.ensures.shows (limits_of c.args.limits.now) (parts_of c.args.presentation.now) c.requires.problem,
  rw c.in-Failed.is at c.in_ok-structure.ensures,
)
