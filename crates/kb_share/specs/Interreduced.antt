-- Interreduced rules: no left side is reducible by the other rules, and no right side is reducible. Book and Otto,
-- String-Rewriting Systems, 2.2.
use Rattle.std.specs.Prelude.{◌≡◌, ℕ, ◌≤◌, ◌⊎◌, Some, length}
use Rattle.kb_word.specs.Words.{Pair}
use Rattle.kb_word.specs.Rewriting.{IsIrreducible}
use Rattle.kb_machine.specs.Lines.{numbered, rules_of}
use Rattle.kb_machine.specs.States.{State, IsLiveRule}
use Rattle.kb_machine.specs.Machine.{IsLive}
use Rattle.kb_machine.specs.Course.{Course}
use Rattle.kb_book.specs.Answers.{IsOtherLiveRule}

-- no live left side is reducible by the other live rules: none has another one as a factor
abbrev pub LeftSidesAreReduced : State → Type 0
LeftSidesAreReduced state =
    (k : ℕ) (rule : Pair) → IsLive state k → numbered (rules_of state.lines) k ≡ Some rule
    → IsIrreducible (IsOtherLiveRule state k) rule.0

-- no live right side is reducible by the live rules
abbrev pub RightSidesAreReduced : State → Type 0
RightSidesAreReduced state =
    (rule : Pair) → IsLiveRule state rule → IsIrreducible (IsLiveRule state) rule.1

-- the live rules are interreduced
pub record AreInterreduced (state : State) : Type 0 where
  pub lefts : LeftSidesAreReduced state
  pub rights : RightSidesAreReduced state

-- the log is full: it has as many lines as it may have
abbrev pub IsFull : Course → Type 0
IsFull course = course.problem.most_lines ≤ length course.state.lines

-- no live right side is reducible, or none can be replaced, since the log is full
abbrev pub RightSidesAreReducedOrFull : Course → Type 0
RightSidesAreReducedOrFull course = RightSidesAreReduced course.state ⊎ IsFull course

-- sides that were reduced are so after
pub record StaysReduced (before after : Course) : Type 0 where
  pub lefts : LeftSidesAreReduced before.state → LeftSidesAreReduced after.state
  pub rights : RightSidesAreReducedOrFull before → RightSidesAreReducedOrFull after
