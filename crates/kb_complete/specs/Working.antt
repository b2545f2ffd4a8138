-- Rounds of completion.
use Rattle.std.specs.Prelude.{◌≡◌, ℕ, ◌<◌, List, [], ◌∷◌, length, Some, None}
use Rattle.kb_word.specs.Words.{Pair}
use Rattle.kb_word.specs.Overlap.{IsUnresolved, critical_pair}
use Rattle.kb_machine.specs.Lines.{numbered, rules_of}
use Rattle.kb_machine.specs.declared.origin.Origin.{Origin}
use Rattle.kb_machine.specs.declared.origin.Origin.TheVariants as origins
use Rattle.kb_machine.specs.States.{live_rules}
use Rattle.kb_machine.specs.Course.{Course}
use Rattle.kb_share.specs.Finding.{Knows}
use Rattle.kb_share.specs.Versions.{IsPublished}
use Rattle.kb_share.specs.declared.finding.Finder.{Finder}
use Rattle.kb_complete.specs.declared.answers.Grown.TheVariants as grown
use Rattle.kb_complete.specs.declared.growing.Round.{Round}
use Rattle.kb_complete.specs.declared.growing.Round.TheVariants as rounds
use Rattle.kb_complete.specs.declared.publishing.Standing.{Standing}
use Rattle.kb_complete.specs.declared.publishing.Standing.TheVariants as standings
use Rattle.kb_complete.specs.Completing.{Continues, IsHalted, KnowsGrown}

-- nothing is pending, and no limit is reached
pub record IsIdle (course : Course) : Type 0 where
  pub settled : course.state.pending ≡ []
  pub running : course.state.halt ≡ None

-- nothing is pending, and the live lines are published
pub record IsSettled (course : Course) : Type 0 where
  pub settled : course.state.pending ≡ []
  pub running : course.state.halt ≡ None
  pub published : IsPublished course.state

-- how a book stands after it was settled
abbrev pub StandsAs : Course → Standing → Type 0
StandsAs course standings.Published = IsSettled course
StandsAs course standings.Halted = IsHalted course

-- A round is over at a halt, or at a settled book with more lines than were given, or is still open at a settled book.
abbrev pub AdvanceSays : {R : Type 0} → ℕ → Course → Round R → Type 0
AdvanceSays given before (rounds.Over (grown.More after)) =
    Continues before after.course × IsSettled after.course × (given < length after.course.state.lines)
AdvanceSays given before (rounds.Over (grown.Confluent rules after)) = ⊥
AdvanceSays given before (rounds.Over (grown.Halted after)) =
    Continues before after.course × IsHalted after.course
AdvanceSays given before (rounds.Open after) = Continues before after.course × IsSettled after.course

-- the finder knows the book to which a round has come
abbrev pub KnowsRound : {R : Type 0} → Finder → Round R → Type 0
KnowsRound finder (rounds.Over answer) = KnowsGrown finder answer
KnowsRound finder (rounds.Open after) = Knows finder after.course.state

-- the first pending origin is an overlap, and the words of its pair have different normal forms by the live rules
pub record FirstIsApart (course : Course) : Type 0 where
  pub i : ℕ
  pub j : ℕ
  pub place : ℕ
  pub rest : List Origin
  pub pending : course.state.pending ≡ origins.Overlap i j place ∷ rest
  pub first : Pair
  pub second : Pair
  pub is_first : numbered (rules_of course.state.lines) i ≡ Some first
  pub is_second : numbered (rules_of course.state.lines) j ≡ Some second
  pub u : List ℕ
  pub v : List ℕ
  pub parts : IsUnresolved (live_rules course.state) (critical_pair first second place) u v
