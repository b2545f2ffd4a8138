-- What each call of a book answers: one event of the completion machine, or none.
use Rattle.std.specs.Prelude.{◌≡◌, ◌≢◌, ℕ, ◌≤◌, ◌⊎◌, List, [], ◌∷◌, length, Some, None, Result, Ok, Err}
use Rattle.kb_word.specs.Words.{Pair, IsFactor}
use Rattle.kb_word.specs.Rewriting.{IsIrreducible, NormalForm}
use Rattle.kb_word.specs.declared.memory.Memory.{Memory}
use Rattle.kb_machine.specs.Lines.{numbered, rules_of, IsPairOf, OverlapOfNumbers}
use Rattle.kb_machine.specs.declared.origin.Origin.{Origin}
use Rattle.kb_machine.specs.declared.line.LogStep.{LogStep}
use Rattle.kb_machine.specs.States.{Problem, State, live_rules}
use Rattle.kb_machine.specs.Machine.{IsLive}
use Rattle.kb_machine.specs.Course.{Course, Takes}
use Rattle.kb_book.specs.declared.answers.EnterFault.{EnterFault}
use Rattle.kb_book.specs.declared.answers.EnterFault.TheVariants as enter_faults
use Rattle.kb_book.specs.declared.answers.Balance.{Balance}
use Rattle.kb_book.specs.declared.answers.Balance.TheVariants as balances
use Rattle.kb_book.specs.declared.answers.Make.{Make}
use Rattle.kb_book.specs.declared.answers.Make.TheVariants as makes
use Rattle.kb_book.specs.declared.answers.Kill.{Kill}
use Rattle.kb_book.specs.declared.answers.Kill.TheVariants as kills
use Rattle.kb_book.specs.declared.answers.Shorten.{Shorten}
use Rattle.kb_book.specs.declared.answers.Shorten.TheVariants as shortens
use Rattle.kb_machine.specs.declared.event.Event.TheVariants.{Entered, Balanced, Dropped, Made, Halted, Killed, Shortened, Published}
use Rattle.kb_machine.specs.declared.halt.Halt.{Halt}
use Rattle.kb_machine.specs.declared.halt.Halt.TheVariants.{Rules, Length}

-- these are the normal forms, by the live rules, of the words of the first pending pair
pub record PendingNormalForms (problem : Problem) (state : State)
    (one other : List ℕ) : Type 0 where
  pub origin : Origin
  pub rest : List Origin
  pub pending : state.pending ≡ origin ∷ rest
  pub pair : Pair
  pub is_pair : IsPairOf problem.relations (rules_of state.lines) origin pair
  pub first : NormalForm (live_rules state) pair.0 one
  pub second : NormalForm (live_rules state) pair.1 other

-- u and v are, in one order or the other, the normal forms of the words of the first pending pair
abbrev pub AreNormalForms : Course → List ℕ → List ℕ → Type 0
AreNormalForms course u v =
    PendingNormalForms course.problem course.state u v
    ⊎ PendingNormalForms course.problem course.state v u

-- the greater and the lesser word of a halt
abbrev pub words_of : Halt → Pair
words_of (Rules u v first second) = (u, v)
words_of (Length u v first second) = (u, v)

-- the halt is by the number of lines, with these words and derivations
abbrev pub IsByRules : List ℕ → List ℕ → List LogStep → List LogStep → Halt → Type 0
IsByRules u v first second (Rules u' v' first' second') =
    (u' ≡ u) × (v' ≡ v) × (first'.items ≡ first) × (second'.items ≡ second)
IsByRules u v first second (Length u' v' first' second') = ⊥

-- the halt is by the number of letters, with these words and derivations
abbrev pub IsByLength : List ℕ → List ℕ → List LogStep → List LogStep → Halt → Type 0
IsByLength u v first second (Rules u' v' first' second') = ⊥
IsByLength u v first second (Length u' v' first' second') =
    (u' ≡ u) × (v' ≡ v) × (first'.items ≡ first) × (second'.items ≡ second)

-- the second halt is a copy of the first
abbrev pub IsCopyOf : Halt → Halt → Type 0
IsCopyOf (Rules u v first second) = IsByRules u v first.items second.items
IsCopyOf (Length u v first second) = IsByLength u v first.items second.items

-- line k is new, and its sides are the normal forms of the first pending pair's words
pub record MakesLine (before after : Course) (k : ℕ) : Type 0 where
  pub takes : Takes (Made k) before after
  pub rule : Pair
  pub is_rule : numbered (rules_of after.state.lines) k ≡ Some rule
  pub normal : AreNormalForms before rule.0 rule.1

-- the words of the first pending pair have one normal form, and it goes
pub record DropsPair (before after : Course) : Type 0 where
  pub takes : Takes Dropped before after
  pub joint : List ℕ
  pub normal : PendingNormalForms before.problem before.state joint joint

-- the book halts, with the normal forms of the first pending pair's words; the halt is a copy of its own
pub record HaltsAt (before after : Course) (halt : Halt) : Type 0 where
  pub takes : Takes Halted before after
  pub own : Halt
  pub is : after.state.halt ≡ Some own
  pub copied : IsCopyOf own halt
  pub normal : AreNormalForms before (words_of own).0 (words_of own).1

-- the book was halted already
pub record IsHalted (before after : Course) (halt : Halt) : Type 0 where
  pub same : after ≡ before
  pub own : Halt
  pub is : before.state.halt ≡ Some own
  pub copied : IsCopyOf own halt

-- what `make` answers
abbrev pub MakeSays : Course → Course → Result Make Memory → Type 0
MakeSays before after (Ok (makes.Made k)) = MakesLine before after k
MakeSays before after (Ok makes.Dropped) = DropsPair before after
MakeSays before after (Ok makes.Idle) = (before.state.pending ≡ []) × (after ≡ before)
MakeSays before after (Ok (makes.Halted halt)) =
    HaltsAt before after halt ⊎ IsHalted before after halt
MakeSays before after (Err memory) = after ≡ before

-- two lines with these numbers overlap at the place
abbrev pub HasOverlap : State → ℕ → ℕ → ℕ → Type 0
HasOverlap state i j place =
    (first second : Pair) × OverlapOfNumbers (rules_of state.lines) i j place first second

-- what `enter` answers
abbrev pub EnterSays : ℕ → ℕ → ℕ → ℕ → Course → Course → Result Unit EnterFault → Type 0
EnterSays worker i j place before after (Ok done) = Takes (Entered worker place i j) before after
EnterSays worker i j place before after (Err enter_faults.NotOverlap) =
    (after ≡ before) × (¬ HasOverlap before.state i j place)
EnterSays worker i j place before after (Err enter_faults.Memory) = after ≡ before

-- what `balance` answers
abbrev pub BalanceSays : ℕ → ℕ → ℕ → Course → Course → Result Balance Memory → Type 0
BalanceSays i j place before after (Ok balances.Balanced) = Takes (Balanced place i j) before after
BalanceSays i j place before after (Ok balances.Stays) =
    (after ≡ before) × ((before.state.halt ≢ None) ⊎ (¬ HasOverlap before.state i j place))
BalanceSays i j place before after (Err memory) = after ≡ before

-- line k is live, and another live left side is a factor of its left side
pub record CanBeKilled (state : State) (k : ℕ) : Type 0 where
  pub is_live : IsLive state k
  pub own : Pair
  pub is_own : numbered (rules_of state.lines) k ≡ Some own
  pub other : ℕ
  pub rule : Pair
  pub another : other ≢ k
  pub other_is_live : IsLive state other
  pub is_rule : numbered (rules_of state.lines) other ≡ Some rule
  pub factor : IsFactor own.0 rule.0

-- what `kill` answers
abbrev pub KillSays : ℕ → Course → Course → Result Kill Memory → Type 0
KillSays k before after (Ok kills.Killed) = Takes (Killed k) before after
KillSays k before after (Ok kills.Stays) = (after ≡ before) × (¬ CanBeKilled before.state k)
KillSays k before after (Err memory) = after ≡ before

-- the pair is a live rule other than that of line k
abbrev pub IsOtherLiveRule : State → ℕ → Pair → Type 0
IsOtherLiveRule state k pair =
    (j : ℕ) × IsLive state j × (j ≢ k) × (numbered (rules_of state.lines) j ≡ Some pair)

-- line k is live, and other live rules reduce its right side
pub record CanBeShortened (state : State) (k : ℕ) : Type 0 where
  pub is_live : IsLive state k
  pub own : Pair
  pub is_own : numbered (rules_of state.lines) k ≡ Some own
  pub reducible : ¬ IsIrreducible (IsOtherLiveRule state k) own.1

-- no line can be made any more
abbrev pub HasNoRoom : Course → Type 0
HasNoRoom course =
    (course.problem.most_lines ≤ length course.state.lines) ⊎ (course.state.halt ≢ None)

-- line k is replaced by a new one, whose right side is the normal form of its own
pub record ShortensLine (before after : Course) (k new : ℕ) : Type 0 where
  pub takes : Takes (Shortened k new) before after
  pub own : Pair
  pub is_own : numbered (rules_of before.state.lines) k ≡ Some own
  pub rule : Pair
  pub is_rule : numbered (rules_of after.state.lines) new ≡ Some rule
  pub normal : NormalForm (live_rules before.state) own.1 rule.1

-- what `shorten` answers
abbrev pub ShortenSays : ℕ → Course → Course → Result Shorten Memory → Type 0
ShortenSays k before after (Ok (shortens.Shortened new)) = ShortensLine before after k new
ShortenSays k before after (Ok shortens.Least) =
    (after ≡ before) × (¬ CanBeShortened before.state k)
ShortenSays k before after (Ok shortens.NoRoom) =
    (after ≡ before) × CanBeShortened before.state k × HasNoRoom before
ShortenSays k before after (Err memory) = after ≡ before

-- what `publish` answers
abbrev pub PublishSays : Course → Course → Result ℕ Memory → Type 0
PublishSays before after (Ok number) =
    Takes Published before after × (number ≡ length after.state.versions)
PublishSays before after (Err memory) = after ≡ before
