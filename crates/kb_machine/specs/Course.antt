-- The course of a completion, and what holds along every course.
use Rattle.std.specs.Prelude.{◌≡◌, ℕ, ◌<◌, ◌≤◌, ◌⊎◌, List, [], ◌∷◌, ◌++◌, length, All, Some, IfSome, slice_get}
use Rattle.std.specs.List.{AllPairs}
use Rattle.kb_word.specs.Words.{Pair, OneOf, IsFactor}
use Rattle.kb_word.specs.Congruence.{Congruent}
use Rattle.kb_word.specs.Rewriting.{IsIrreducible}
use Rattle.kb_machine.specs.Lines.{rules_of}
use Rattle.kb_machine.specs.Justified.{IsJustified}
use Rattle.kb_machine.specs.declared.line.Line.{Line}
use Rattle.kb_machine.specs.States.{Problem, State, below, rule_numbered, IsLiveRule, IsPendingPair}
use Rattle.kb_machine.specs.Machine.{Run, Step, IsLive}
use Rattle.kb_machine.specs.declared.origin.Origin.{Origin}
use Rattle.kb_machine.specs.declared.event.Event.{Event}
use Rattle.kb_machine.specs.declared.halt.Halt.{Halt}
use Rattle.kb_machine.specs.declared.halt.Halt.TheVariants.{Rules, Length}

-- a completion: its problem, its state, and the events that led there
pub record Course : Type 0 where
  pub problem : Problem
  pub state : State
  pub journal : List Event

-- the events lead from the start of the problem to the state
abbrev pub IsCourse : Course → Type 0
IsCourse course = Run course.problem course.journal course.state

-- the event was the next one
pub record Takes (event : Event) (before after : Course) : Type 0 where
  pub problem : after.problem ≡ before.problem
  pub journal : after.journal ≡ before.journal ++ event ∷ []
  pub step : Step before.problem before.state event after.state

-- the live rules and the pending pairs generate the congruence of the relations
pub record KeepsCongruence (problem : Problem) (state : State) : Type 0 where
  pub covered : (pair : Pair) → OneOf problem.relations pair
      → Congruent (λ one. IsLiveRule state one ⊎ IsPendingPair problem state one) pair.0 pair.1
  pub rules_hold : (pair : Pair) → IsLiveRule state pair
      → Congruent (OneOf problem.relations) pair.0 pair.1
  pub pairs_hold : (pair : Pair) → IsPendingPair problem state pair
      → Congruent (OneOf problem.relations) pair.0 pair.1

-- a live left side is a factor of the left side of each line
abbrev pub IsCovered : State → Type 0
IsCovered state = (index : ℕ) (line : Line) → slice_get state.lines index ≡ Some line
    → (k : ℕ) × IsLive state k × IsFactor line.left (rule_numbered state.lines k).0

-- u and v are different words that are congruent by the relations, and no line reduces either
pub record AreApart (problem : Problem) (state : State) (u v : List ℕ) : Type 0 where
  pub less : below problem v u
  pub congruent : Congruent (OneOf problem.relations) u v
  pub u_is_irreducible : IsIrreducible (OneOf (rules_of state.lines)) u
  pub v_is_irreducible : IsIrreducible (OneOf (rules_of state.lines)) v

-- the line that a halted completion would make of the pair that waits
abbrev pub waiting_line : Origin → Halt → Line
waiting_line origin (Rules u v first second) =
    record { origin = origin; left = u; right = v; first_steps = first; second_steps = second }
waiting_line origin (Length u v first second) =
    record { origin = origin; left = u; right = v; first_steps = first; second_steps = second }

-- the first pending pair waits: the line of it would be justified, and its sides are apart
pub record Waits (problem : Problem) (state : State) (halt : Halt) : Type 0 where
  pub origin : Origin
  pub rest : List Origin
  pub pending : state.pending ≡ origin ∷ rest
  pub justified : IsJustified (below problem) problem.relations
      (state.lines ++ waiting_line origin halt ∷ [])
  pub apart : AreApart problem state (waiting_line origin halt).left
      (waiting_line origin halt).right

-- what a halt says: a pair waits, and the limit is reached
abbrev pub HaltSays : Problem → State → Halt → Type 0
HaltSays problem state (Rules u v first second) =
    (length state.lines ≡ problem.most_lines) × Waits problem state (Rules u v first second)
HaltSays problem state (Length u v first second) =
    (length state.lines < problem.most_lines) × (problem.most_letters < length u)
    × Waits problem state (Length u v first second)

-- What holds along every course.
pub record IsSound (problem : Problem) (state : State) : Type 0 where
  pub congruence : KeepsCongruence problem state
  pub justified : IsJustified (below problem) problem.relations state.lines
  pub covered : IsCovered state
  pub few : length state.lines ≤ problem.most_lines
  pub ascending : AllPairs (λ one other. one < other) state.live
  pub numbers : All (λ k. (0 < k) × (k ≤ length state.lines)) state.live
  pub halted : IfSome state.halt (HaltSays problem state)
