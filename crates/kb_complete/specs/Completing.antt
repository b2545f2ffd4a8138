-- What completion answers.
use Rattle.std.specs.Prelude.{◌≡◌, ◌<◌, [], length, Some, None}
use Rattle.kb_word.specs.Congruence.{SameCongruence}
use Rattle.kb_word.specs.Overlap.{IsConfluent}
use Rattle.kb_rules.specs.OrderedRules.{OrderedRules}
use Rattle.kb_machine.specs.Lines.{rules_of}
use Rattle.kb_machine.specs.States.{Problem, below}
use Rattle.kb_machine.specs.Course.{Course}
use Rattle.kb_machine.specs.declared.halt.Halt.{Halt}
use Rattle.kb_share.specs.Finding.{Knows}
use Rattle.kb_share.specs.Versions.{IsPublished}
use Rattle.kb_share.specs.declared.finding.Finder.{Finder}
use Rattle.kb_reduced.specs.Reduced.{IsReducedComplete}
use Rattle.kb_complete.specs.declared.answers.Grown.{Grown}
use Rattle.kb_complete.specs.declared.answers.Grown.TheVariants as grown
use Rattle.kb_complete.specs.declared.answers.Outcome.{Outcome}
use Rattle.kb_complete.specs.declared.answers.Outcome.TheVariants as outcomes
use Rattle.kb_share.specs.Interreduced.{LeftSidesAreReduced, RightSidesAreReducedOrFull, StaysReduced}
use Rattle.kb_share.specs.Later.{IsLater}

-- a later stage, at which sides that were reduced still are
pub record Continues (before after : Course) : Type 0 where
  pub later : IsLater before after
  pub reduced : StaysReduced before after

-- a later stage with a line more, at which nothing is pending and the live lines are published
pub record Grows (before after : Course) : Type 0 where
  pub continues : Continues before after
  pub more : length before.state.lines < length after.state.lines
  pub settled : after.state.pending ≡ []
  pub running : after.state.halt ≡ None
  pub published : IsPublished after.state

-- The completion is at its end: these rules are the reduced complete system of its problem, and the rules of all its
-- lines are confluent and generate the congruence of the relations.
pub record IsCompleted (course : Course) (list : OrderedRules) : Type 0 where
  pub order : list.order ≡ course.problem.order
  pub reduced : IsReducedComplete (below course.problem) course.problem.relations list.rules
  pub settled : course.state.pending ≡ []
  pub running : course.state.halt ≡ None
  pub confluent : IsConfluent (rules_of course.state.lines)
  pub same : SameCongruence course.problem.relations (rules_of course.state.lines)

-- the completion is halted: a pair waits, and this limit is reached
pub record IsHalted (course : Course) : Type 0 where
  pub reason : Halt
  pub is : course.state.halt ≡ Some reason

-- what `grow` answers
abbrev pub GrowSays : {R : Type 0} → Course → Grown R → Type 0
GrowSays before (grown.More after) = Grows before after.course
GrowSays before (grown.Confluent rules after) =
    Continues before after.course × IsCompleted after.course rules
GrowSays before (grown.Halted after) = Continues before after.course × IsHalted after.course

-- the finder knows the book that `grow` answers
abbrev pub KnowsGrown : {R : Type 0} → Finder → Grown R → Type 0
KnowsGrown finder (grown.More after) = Knows finder after.course.state
KnowsGrown finder (grown.Confluent rules after) = Knows finder after.course.state
KnowsGrown finder (grown.Halted after) = Knows finder after.course.state

-- the live rules of a completion are interreduced, but for right sides where the log is full
pub record AreReduced (course : Course) : Type 0 where
  pub lefts : LeftSidesAreReduced course.state
  pub rights : RightSidesAreReducedOrFull course

-- what `complete` answers
abbrev pub CompleteSays : {R : Type 0} → Problem → Outcome R → Type 0
CompleteSays problem (outcomes.Confluent rules after) =
    (after.course.problem ≡ problem) × IsCompleted after.course rules
CompleteSays problem (outcomes.Halted after) =
    (after.course.problem ≡ problem) × IsHalted after.course × AreReduced after.course
