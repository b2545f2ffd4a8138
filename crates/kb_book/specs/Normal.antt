-- The pair that an origin names, its normal forms, and the line that they give.
use Rattle.std.specs.Prelude.{◌≡◌, ◌≢◌, ℕ, List, ◌∷◌, map, None, get_or}
use Rattle.kb_word.specs.Words.{Pair}
use Rattle.kb_word.specs.Rewriting.{NormalForm}
use Rattle.kb_rules.specs.declared.trace.Step.{Step}
use Rattle.kb_machine.specs.Lines.{IsPairOf, rules_of}
use Rattle.kb_machine.specs.declared.line.Line.{Line}
use Rattle.kb_machine.specs.declared.line.LogStep.{LogStep}
use Rattle.kb_machine.specs.declared.origin.Origin.{Origin}
use Rattle.kb_machine.specs.States.{live_rules}
use Rattle.kb_machine.specs.Machine.{LeadsApart, IsAtLimit}
use Rattle.kb_machine.specs.declared.halt.Halt.{Halt}
use Rattle.kb_machine.specs.Course.{Course}
use Rattle.kb_book.specs.Answers.{AreNormalForms, words_of}

-- the origin names a pair of words
abbrev pub HasPair : List Pair → List Pair → Origin → Type 0
HasPair relations rules origin = (pair : Pair) × IsPairOf relations rules origin pair

-- u and v are the normal forms, by the live rules, of the words of the origin's pair
pub record HaveNormalForms (relations rules live_rules : List Pair) (origin : Origin)
    (u v : List ℕ) : Type 0 where
  pub pair : Pair
  pub is_pair : IsPairOf relations rules origin pair
  pub first : NormalForm live_rules pair.0 u
  pub second : NormalForm live_rules pair.1 v

-- the origin's pair is apart: its words have different normal forms
abbrev pub PairIsApart : Course → Origin → Type 0
PairIsApart course origin = (u v : List ℕ)
    × HaveNormalForms course.problem.relations (rules_of course.state.lines)
    (live_rules course.state)
    origin u v × (u ≢ v)

-- the origin is the first pending one, and the book isn't halted
pub record IsNext (course : Course) (origin : Origin) : Type 0 where
  pub running : course.state.halt ≡ None
  pub rest : List Origin
  pub pending : course.state.pending ≡ origin ∷ rest

-- the line is the one that the first pending pair gives
pub record IsNextLine (course : Course) (line : Line) : Type 0 where
  pub next : IsNext course line.origin
  pub apart : LeadsApart course.problem course.state line.origin line.left line.right
      line.first_steps.items line.second_steps.items
  pub normal : AreNormalForms course line.left line.right

-- the place of the step, and the number of its line
abbrev pub shown : LogStep → ℕ × ℕ
shown step = (step.place, step.line)

-- the place of a step by the live rules, and the number of its rule's line
abbrev pub by_line : List ℕ → Step → ℕ × ℕ
by_line live step = (step.place, get_or live step.rule 0)

-- the steps by the live rules are these, by the numbers of their lines
abbrev pub AreByLines : List ℕ → List Step → List LogStep → Type 0
AreByLines live steps log_steps = map shown log_steps ≡ map (by_line live) steps

-- the origin's pair is joined: its words have one normal form
abbrev pub PairIsJoined : Course → Origin → Type 0
PairIsJoined course origin = (joint : List ℕ)
    × HaveNormalForms course.problem.relations (rules_of course.state.lines)
    (live_rules course.state)
    origin joint joint

-- the first pending pair would make a line, but a limit is reached, as the halt says
pub record IsLimitOf (course : Course) (halt : Halt) : Type 0 where
  pub origin : Origin
  pub next : IsNext course origin
  pub limit : IsAtLimit course.problem course.state origin halt
  pub normal : AreNormalForms course (words_of halt).0 (words_of halt).1
