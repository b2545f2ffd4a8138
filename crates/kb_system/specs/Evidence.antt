-- What shows that a completion reached a limit.
use Rattle.std.specs.Prelude.{◌≡◌, ◌≢◌, ℕ, ◌<◌, ◌≤◌, List, [], ◌∷◌, ◌++◌, length, All, map, slice_get, Some}
use Rattle.std.specs.List.{AllPairs}
use Rattle.kb_word.specs.Words.{Pair, OneOf, IsFactor}
use Rattle.kb_word.specs.Congruence.{Congruent, SameCongruence}
use Rattle.kb_word.specs.Overlap.{IsConfluent}
use Rattle.kb_word.specs.Rewriting.{IsIrreducible}
use Rattle.kb_word.specs.Presentations.{PresentationParts}
use Rattle.kb_machine.specs.Lines.{rules_of}
use Rattle.kb_machine.specs.Justified.{IsJustified}
use Rattle.kb_machine.specs.declared.line.Line.{Line}
use Rattle.kb_machine.specs.States.{rule_numbered}
use Rattle.kb_reduced.specs.Reduced.{IsReducedComplete}
use Rattle.kb_wa.specs.Prefixes.{CountedPrefixes}
use Rattle.kb_system.specs.Completed.{relations, below}
use Rattle.kb_system.specs.declared.ending.Reached.{Reached}
use Rattle.kb_system.specs.declared.ending.Reached.TheVariants.{Lines, Letters}

-- the limits of a completion: how many lines, letters of a left side, and states of the word acceptor there may be
pub record Limits : Type 0 where
  pub lines : ℕ
  pub letters : ℕ
  pub states : ℕ

-- The rules are those of some lines, in line order, and the left side of each line has one of theirs as a factor.
pub record AreLiveRules (lines : List Line) (rules : List Pair) : Type 0 where
  pub numbers : List ℕ
  pub within : All (λ k. (0 < k) × (k ≤ length lines)) numbers
  pub ascending : AllPairs (λ one other. one < other) numbers
  pub are : rules ≡ map (rule_numbered lines) numbers
  pub cover : (index : ℕ) (line : Line) → slice_get lines index ≡ Some line
      → (rule : Pair) × OneOf rules rule × IsFactor line.left rule.0

-- the pair is a rule of the list at another index
abbrev pub AnotherOf : List Pair → ℕ → Pair → Type 0
AnotherOf rules i pair = (j : ℕ) × (j ≢ i) × (slice_get rules j ≡ Some pair)

-- The rules are interreduced (Book and Otto, String-Rewriting Systems, 2.2): no left side is reducible by the other
-- rules, and no right side by any, unless as many lines were made as may be, so that none could be replaced.
pub record AreInterreduced (limits : Limits) (lines : List Line) (rules : List Pair) : Type 0 where
  pub lefts : (i : ℕ) (rule : Pair) → slice_get rules i ≡ Some rule
      → IsIrreducible (AnotherOf rules i) rule.0
  pub rights : length lines < limits.lines → (rule : Pair) → OneOf rules rule
      → IsIrreducible (OneOf rules) rule.1

-- A log whose last line waits: with it the log would be justified; its sides are congruent, and no line reduces them.
pub record WaitsIn (parts : PresentationParts) (lines : List Line) (waiting : Line) : Type 0 where
  pub justified : IsJustified (below parts) (relations parts) (lines ++ waiting ∷ [])
  pub congruent : Congruent (OneOf (relations parts)) waiting.left waiting.right
  pub left_is_irreducible : IsIrreducible (OneOf (rules_of lines)) waiting.left
  pub right_is_irreducible : IsIrreducible (OneOf (rules_of lines)) waiting.right

-- the limit of lines, or of letters, was reached at the line that waits
abbrev pub IsReached : Limits → List Line → Line → Reached → Type 0
IsReached limits lines waiting Lines = length lines ≡ limits.lines
IsReached limits lines waiting Letters =
    (length lines < limits.lines) × (limits.letters < length waiting.left)

-- a completion that halted at a limit of lines or letters, with its log and its live rules
pub record IsHalted (limits : Limits) (parts : PresentationParts)
    (lines : List Line) (waiting : Line)
    (rules : List Pair) (reached : Reached) : Type 0 where
  pub waits : WaitsIn parts lines waiting
  pub is_reached : IsReached limits lines waiting reached
  pub live : AreLiveRules lines rules
  pub interreduced : AreInterreduced limits lines rules

-- A completion whose word acceptor has more states than may be, with its log: the rules of all its lines are confluent
-- and generate the congruence of the relations.
pub record IsTooLarge (limits : Limits) (parts : PresentationParts) (lines : List Line)
    (rules : List Pair) : Type 0 where
  pub justified : IsJustified (below parts) (relations parts) lines
  pub confluent : IsConfluent (rules_of lines)
  pub same : SameCongruence (relations parts) (rules_of lines)
  pub reduced : IsReducedComplete (below parts) (relations parts) rules
  pub counted : CountedPrefixes rules limits.states
