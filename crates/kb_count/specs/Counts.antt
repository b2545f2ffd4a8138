-- How many texts there are.
use Rattle.std.specs.Prelude.{◌≡◌, ◌≢◌, ◌↔◌, ℕ, ◌<◌, List, length, AllPairs, Contains}
use Rattle.kb_fsa.specs.Table.{Table, AcceptsFrom}
use Rattle.kb_fsa.specs.Language.{Automaton}
use Rattle.kb_count.specs.declared.counting.Count.{Count}
use Rattle.kb_count.specs.declared.counting.Count.TheVariants.{Finite, Infinite}

-- the list has exactly the texts of which this holds, each once
pub record AreAll (Holds : List ℕ → Type 0) (texts : List (List ℕ)) : Type 0 where
  pub once : AllPairs (λ text other. text ≢ other) texts
  pub exact : (text : List ℕ) → Contains texts text ↔ Holds text

-- so many texts are such
pub record AreSoMany (Holds : List ℕ → Type 0) (number : ℕ) : Type 0 where
  pub texts : List (List ℕ)
  pub all : AreAll Holds texts
  pub so_many : length texts ≡ number

-- infinitely many are: one is longer than each bound
abbrev pub AreInfinitelyMany : (List ℕ → Type 0) → Type 0
AreInfinitelyMany Holds = (bound : ℕ) → (text : List ℕ) × Holds text × (bound < length text)

-- the count says how many are
abbrev pub IsCountOf : (List ℕ → Type 0) → Count → Type 0
IsCountOf Holds (Finite number) = AreSoMany Holds number
IsCountOf Holds Infinite = AreInfinitelyMany Holds

-- from the state the text, which is so long, leads to acceptance
pub record IsAcceptedOfLength (table : Table) (long state : ℕ) (text : List ℕ) : Type 0 where
  pub accepts : AcceptsFrom table state text
  pub so_long : length text ≡ long

-- so many accepted texts are so long
abbrev pub AcceptsSoManyOfLength : Automaton → ℕ → ℕ → Type 0
AcceptsSoManyOfLength automaton long =
    AreSoMany (IsAcceptedOfLength automaton.table long automaton.table.initial)
