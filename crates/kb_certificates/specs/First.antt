-- First certificates: of the least generator that has one, with the least words.
use Rattle.std.specs.Prelude.{◌≡◌, ◌≢◌, ℕ, ◌<◌, ◌≤◌, List, Some}
use Rattle.kb_word.specs.Words.{Less}
use Rattle.kb_fsa.specs.Language.{Automaton}
use Rattle.kb_fsa.specs.Counted.{CountedExists}
use Rattle.kb_leastpair.specs.LeastPair.{IsAccepted, IsLeastWord, IsLeastPair}
use Rattle.kb_structure.specs.StructureOf.{multiplier_of}

-- no generator up to this one has a certificate with a word
abbrev pub NoneUpTo : (ℕ → List ℕ → Type 0) → ℕ → Type 0
NoneUpTo Certificate x = (y : ℕ) (u : List ℕ) → y ≤ x → ¬ Certificate y u

-- no generator has one
abbrev pub HasNone : (ℕ → List ℕ → Type 0) → Type 0
HasNone Certificate = (x : ℕ) (u : List ℕ) → ¬ Certificate x u

-- no lesser generator has a certificate with a word, and the word is the least of this one
pub record IsFirstWord (Certificate : ℕ → List ℕ → Type 0) (x : ℕ) (u : List ℕ) : Type 0 where
  pub no_earlier : (y : ℕ) (v : List ℕ) → y < x → ¬ Certificate y v
  pub least : IsLeastWord (Certificate x) u

-- the same three of certificates with two words
abbrev pub NoPairUpTo : (ℕ → List ℕ → List ℕ → Type 0) → ℕ → Type 0
NoPairUpTo Certificate x = (y : ℕ) (u v : List ℕ) → y ≤ x → ¬ Certificate y u v

abbrev pub HasNoPair : (ℕ → List ℕ → List ℕ → Type 0) → Type 0
HasNoPair Certificate = (x : ℕ) (u v : List ℕ) → ¬ Certificate x u v

pub record IsFirstPair (Certificate : ℕ → List ℕ → List ℕ → Type 0) (x : ℕ)
    (u v : List ℕ) : Type 0 where
  pub no_earlier : (y : ℕ) (first second : List ℕ) → y < x → ¬ Certificate y first second
  pub least : IsLeastPair (Certificate x) u v

-- The fact holds of the three words; the first is the least, beside it the second, and beside both the third.
pub record IsLeastTriple (Holds : List ℕ → List ℕ → List ℕ → Type 0) (u v w : List ℕ) : Type 0 where
  pub holds : Holds u v w
  pub least_first : (a b c : List ℕ) → Holds a b c → ¬ Less a u
  pub least_second : (b c : List ℕ) → Holds u b c → ¬ Less b v
  pub least_third : (c : List ℕ) → Holds u v c → ¬ Less c w

-- the same three of certificates with three words
abbrev pub NoTripleUpTo : (ℕ → List ℕ → List ℕ → List ℕ → Type 0) → ℕ → Type 0
NoTripleUpTo Certificate x = (y : ℕ) (u v w : List ℕ) → y ≤ x → ¬ Certificate y u v w

abbrev pub HasNoTriple : (ℕ → List ℕ → List ℕ → List ℕ → Type 0) → Type 0
HasNoTriple Certificate = (x : ℕ) (u v w : List ℕ) → ¬ Certificate x u v w

pub record IsFirstTriple (Certificate : ℕ → List ℕ → List ℕ → List ℕ → Type 0) (x : ℕ)
    (u v w : List ℕ) : Type 0 where
  pub no_earlier : (y : ℕ) (a b c : List ℕ) → y < x → ¬ Certificate y a b c
  pub least : IsLeastTriple (Certificate x) u v w

-- the automaton accepts the first word with both others, which are different
pub record HasTwo (pairs : Automaton) (first second other : List ℕ) : Type 0 where
  pub one : IsAccepted pairs first second
  pub two : IsAccepted pairs first other
  pub different : second ≢ other

-- the automaton accepts the first word with the other one, which isn't the second
pub record IsOther (pairs : Automaton) (first second other : List ℕ) : Type 0 where
  pub accepted : IsAccepted pairs first other
  pub different : second ≢ other

-- the first words of no multiplier up to this generator's have more sets of states than the limit
abbrev pub NoneCountedUpTo : List Automaton → ℕ → ℕ → Type 0
NoneCountedUpTo multipliers limit x = (y : ℕ) (multiplier : Automaton) → y ≤ x
    → multiplier_of multipliers y ≡ Some multiplier → ¬ CountedExists multiplier limit
