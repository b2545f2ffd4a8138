-- The reduced complete rewriting system of a congruence.
use Rattle.std.specs.Prelude.{◌≡◌, ◌≢◌, ℕ, ◌-◌, List, length, take, drop, slice_get, Some}
use Rattle.std.specs.List.{AllPairs}
use Rattle.kb_word.specs.Words.{Pair, OneOf, IsFactor}
use Rattle.kb_word.specs.Congruence.{IsLeast, SameCongruence}
use Rattle.kb_word.specs.Rewriting.{AreDecreasing}
use Rattle.kb_word.specs.Overlap.{IsConfluent}

-- no word that is congruent to w is below it
abbrev pub IsLeastWord : (List ℕ → List ℕ → Type 0) → List Pair → List ℕ → Type 0
IsLeastWord below pairs w = IsLeast below pairs w w

-- A rule of the reduced complete system: the left side isn't least, but is without its first letter and
-- without its last; the right side is the least word congruent to it.
pub record IsReducedRule (below : List ℕ → List ℕ → Type 0) (pairs : List Pair)
    (rule : Pair) : Type 0 where
  pub not_least : ¬ IsLeastWord below pairs rule.0
  pub behind_first : IsLeastWord below pairs (drop 1 rule.0)
  pub before_last : IsLeastWord below pairs (take (length rule.0 - 1) rule.0)
  pub least : IsLeast below pairs rule.0 rule.1

-- The reduced complete rewriting system of the congruence that the pairs generate: exactly these rules,
-- sorted by left sides. Holt, Eick, O'Brien, Handbook of Computational Group Theory, 12.2; Book, Otto,
-- String-Rewriting Systems, 2.2.
pub record IsReducedComplete (below : List ℕ → List ℕ → Type 0)
    (pairs rules : List Pair) : Type 0 where
  pub each : (rule : Pair) → OneOf rules rule → IsReducedRule below pairs rule
  pub all : (rule : Pair) → IsReducedRule below pairs rule → OneOf rules rule
  pub sorted : AllPairs (λ (one other : Pair). below one.0 other.0) rules

-- A complete rewriting system of the congruence that the pairs generate: decreasing confluent rules that
-- generate the same congruence. Book, Otto, String-Rewriting Systems, 2.2.
pub record IsCompleteSystem (below : List ℕ → List ℕ → Type 0)
    (pairs rules : List Pair) : Type 0 where
  pub decreasing : AreDecreasing below rules
  pub confluent : IsConfluent rules
  pub same : SameCongruence pairs rules

-- no rule's left side has the left side of another one as a factor
abbrev pub NoLeftSideInAnother : List Pair → Type 0
NoLeftSideInAnother rules =
    (i j : ℕ) (one other : Pair) → slice_get rules i ≡ Some one → slice_get rules j ≡ Some other
    → i ≢ j → ¬ IsFactor one.0 other.0
