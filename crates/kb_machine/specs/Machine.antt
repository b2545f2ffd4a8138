-- The completion machine: which events are allowed in a state, and what they change. Sims,
-- Computation with Finitely Presented Groups, 2.5 and 2.6; Holt, Eick, O'Brien, Handbook of
-- Computational Group Theory, 12.2. Each event leaves what it doesn't name. A machine is free to
-- choose among reducts and among lines, so that what is shown of its runs holds of any interleaving
-- of workers.
use Rattle.std.specs.Prelude.{◌≡◌, ◌≢◌, ℕ, ◌+◌, ◌<◌, ◌≤◌, List, [], ◌∷◌, ◌++◌, length, Some, None}
use Rattle.std.specs.List.{Contains}
use Rattle.kb_word.specs.Words.{Pair, IsFactor}
use Rattle.kb_word.specs.Rewriting.{IsIrreducible, ReducesTo}
use Rattle.kb_rules.specs.Steps.{Leads}
use Rattle.kb_machine.specs.Lines.{numbered, rules_of, IsPairOf, OverlapOfNumbers}
use Rattle.kb_machine.specs.Derivations.{Derives, DerivesBoth}
use Rattle.kb_machine.specs.declared.line.Line.{Line}
use Rattle.kb_machine.specs.declared.line.LogStep.{LogStep}
use Rattle.kb_machine.specs.declared.origin.Origin.{Origin}
use Rattle.kb_machine.specs.declared.origin.Origin.TheVariants as origins
use Rattle.kb_machine.specs.States.{Problem, State, below, start, IsLiveRule}
use Rattle.kb_machine.specs.declared.event.Event.{Event}
use Rattle.kb_machine.specs.declared.event.Event.TheVariants.{Entered, Balanced, Dropped, Made, Halted, Killed, Shortened, Published}
use Rattle.kb_machine.specs.declared.halt.Halt.{Halt}
use Rattle.kb_machine.specs.declared.halt.Halt.TheVariants.{Rules, Length}

-- the number is that of a live line
abbrev pub IsLive : State → ℕ → Type 0
IsLive state k = Contains state.live k

-- the first pending origin, and those after it
pub record FirstPending (state : State) (origin : Origin) (rest : List Origin) : Type 0 where
  pub running : state.halt ≡ None
  pub is : state.pending ≡ origin ∷ rest

-- Live lines lead from the words of the origin's pair to u and v, in one order or the other:
-- different words, u the greater one, that the live rules don't reduce.
pub record LeadsApart (problem : Problem) (state : State) (origin : Origin) (u v : List ℕ)
    (first_steps second_steps : List LogStep) : Type 0 where
  pub pair : Pair
  pub is_pair : IsPairOf problem.relations (rules_of state.lines) origin pair
  pub derived : DerivesBoth (IsLive state) (rules_of state.lines) pair first_steps second_steps u v
  pub less : below problem v u
  pub u_is_irreducible : IsIrreducible (IsLiveRule state) u
  pub v_is_irreducible : IsIrreducible (IsLiveRule state) v

-- an overlap of two lines becomes pending
pub record Enters (before after : State) (i j place : ℕ) : Type 0 where
  pub first : Pair
  pub second : Pair
  pub overlap : OverlapOfNumbers (rules_of before.lines) i j place first second
  pub is : after ≡ record before { pending = before.pending ++ origins.Overlap i j place ∷ [] }

-- an overlap of two lines becomes the first pending pair, to balance a new line; not where a pair waits
pub record Balances (before after : State) (i j place : ℕ) : Type 0 where
  pub running : before.halt ≡ None
  pub first : Pair
  pub second : Pair
  pub overlap : OverlapOfNumbers (rules_of before.lines) i j place first second
  pub is : after ≡ record before { pending = origins.Overlap i j place ∷ before.pending }

-- the first pending pair, whose words have a common reduct by live rules, goes
pub record Drops (problem : Problem) (before after : State) : Type 0 where
  pub origin : Origin
  pub rest : List Origin
  pub pending : FirstPending before origin rest
  pub pair : Pair
  pub is_pair : IsPairOf problem.relations (rules_of before.lines) origin pair
  pub joint : List ℕ
  pub first : ReducesTo (IsLiveRule before) pair.0 joint
  pub second : ReducesTo (IsLiveRule before) pair.1 joint
  pub is : after ≡ record before { pending = rest }

-- a line is made of the first pending pair
pub record Makes (problem : Problem) (before after : State) (k : ℕ) : Type 0 where
  pub origin : Origin
  pub rest : List Origin
  pub pending : FirstPending before origin rest
  pub line : Line
  pub number : k ≡ length before.lines + 1
  pub room : length before.lines < problem.most_lines
  pub short : length line.left ≤ problem.most_letters
  pub of_origin : line.origin ≡ origin
  pub apart : LeadsApart problem before origin line.left line.right line.first_steps.items
      line.second_steps.items
  pub is : after
      ≡ record before
      { lines = before.lines ++ line ∷ []; live = before.live ++ k ∷ []; pending = rest }

-- the first pending pair would make a line, but a limit is reached
abbrev pub IsAtLimit : Problem → State → Origin → Halt → Type 0
IsAtLimit problem state origin (Rules u v first_steps second_steps) =
    (length state.lines ≡ problem.most_lines)
    × LeadsApart problem state origin u v first_steps.items second_steps.items
IsAtLimit problem state origin (Length u v first_steps second_steps) =
    (length state.lines < problem.most_lines) × (problem.most_letters < length u)
    × LeadsApart problem state origin u v first_steps.items second_steps.items

-- the completion halts at a limit, and the pair stays pending
pub record Halts (problem : Problem) (before after : State) : Type 0 where
  pub origin : Origin
  pub rest : List Origin
  pub pending : FirstPending before origin rest
  pub halt : Halt
  pub limit : IsAtLimit problem before origin halt
  pub is : after ≡ record before { halt = Some halt }

-- line k, whose left side has another live one as a factor, is no longer live, and the pair of its
-- sides becomes pending
pub record Kills (before after : State) (k : ℕ) : Type 0 where
  pub earlier : List ℕ
  pub later : List ℕ
  pub is_live : before.live ≡ earlier ++ k ∷ later
  pub own : Pair
  pub is_own : numbered (rules_of before.lines) k ≡ Some own
  pub other : ℕ
  pub rule : Pair
  pub another : other ≢ k
  pub other_is_live : IsLive before other
  pub is_rule : numbered (rules_of before.lines) other ≡ Some rule
  pub factor : IsFactor own.0 rule.0
  pub is : after
      ≡ record before { live = earlier ++ later; pending = before.pending ++ origins.Killed k ∷ [] }

-- line k is replaced by a new one, whose right side comes from its own by other live lines
pub record Shortens (problem : Problem) (before after : State) (k new : ℕ) : Type 0 where
  pub running : before.halt ≡ None
  pub earlier : List ℕ
  pub later : List ℕ
  pub is_live : before.live ≡ earlier ++ k ∷ later
  pub own : Pair
  pub is_own : numbered (rules_of before.lines) k ≡ Some own
  pub line : Line
  pub number : new ≡ length before.lines + 1
  pub room : length before.lines < problem.most_lines
  pub of_origin : line.origin ≡ origins.Shortened k
  pub left : line.left ≡ own.0
  pub right : Derives (λ j. IsLive before j × (j ≢ k)) (rules_of before.lines) own.1
      line.first_steps.items line.right
  pub changed : line.right ≢ own.1
  pub no_second : line.second_steps.items ≡ []
  pub is : after
      ≡ record before { lines = before.lines ++ line ∷ []; live = earlier ++ later ++ new ∷ [] }

-- the event leads from one state to another
abbrev pub Step : Problem → State → Event → State → Type 0
Step problem before (Entered worker place i j) after = Enters before after i j place
Step problem before (Balanced place i j) after = Balances before after i j place
Step problem before Dropped after = Drops problem before after
Step problem before (Made k) after = Makes problem before after k
Step problem before Halted after = Halts problem before after
Step problem before (Killed k) after = Kills before after k
Step problem before (Shortened k new) after = Shortens problem before after k new
Step problem before Published after =
    after ≡ record before { versions = before.versions ++ before.live ∷ [] }

-- the events lead from the start to the state: a run of the machine
abbrev pub Run : Problem → List Event → State → Type 0
Run problem = Leads (Step problem) (start problem)
