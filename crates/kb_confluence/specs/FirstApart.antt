-- The order of overlaps, and the first overlap that is apart.
use Rattle.std.specs.Prelude.{◌≡◌, ◌≢◌, ℕ, ◌<◌, ◌⊎◌, List}
use Rattle.kb_word.specs.Words.{Pair, OneOf}
use Rattle.kb_word.specs.Congruence.{Congruent}
use Rattle.kb_word.specs.Rewriting.{IsIrreducible}
use Rattle.kb_word.specs.Overlap.{OverlapOf, IsResolved, IsUnresolved, critical_pair}

-- Overlaps come in the order of their first rules, then of their second rules, then of their places: the
-- overlap of rules i and j at place p is before that of rules k and l at place q.
abbrev pub ComesBefore : ℕ → ℕ → ℕ → ℕ → ℕ → ℕ → Type 0
ComesBefore i j p k l q = (i < k) ⊎ ((i ≡ k) × ((j < l) ⊎ ((j ≡ l) × (p < q))))

-- each overlap before this one is joined
abbrev pub EarlierAreJoined : List Pair → ℕ → ℕ → ℕ → Type 0
EarlierAreJoined rules k l q =
    (i j p : ℕ) (first second : Pair) → ComesBefore i j p k l q → OverlapOf rules i j p first second
    → IsResolved rules (critical_pair first second p)

-- the overlap of the rules of indices i and j, from 0 on, is the first that is apart: its
-- words' normal forms are u and v
pub record IsFirstApart (rules : List Pair) (i j place : ℕ) (u v : List ℕ) : Type 0 where
  pub first : Pair
  pub second : Pair
  pub overlap : OverlapOf rules i j place first second
  pub parts : IsUnresolved rules (critical_pair first second place) u v
  pub earlier : EarlierAreJoined rules i j place

-- u and v show that the rules don't decide their congruence: congruent words, different and irreducible
pub record IsCounterexample (rules : List Pair) (u v : List ℕ) : Type 0 where
  pub different : u ≢ v
  pub left : IsIrreducible (OneOf rules) u
  pub right : IsIrreducible (OneOf rules) v
  pub congruent : Congruent (OneOf rules) u v
