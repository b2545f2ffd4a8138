-- Words and the shortlex order.
use Rattle.std.specs.Prelude.{◌≡◌, ℕ, ◌<◌, ◌⊎◌, List, [], ◌∷◌, ◌++◌, length, slice_get, Some}

-- a word is the list of its letters' numbers; `IdWord` is []
abbrev pub Letters : Type 0
Letters = List ℕ

-- two words side by side: the sides of a relation or of a rule, left side first
abbrev pub Pair : Type 0
Pair = List ℕ × List ℕ

-- at the first letter in which u and v differ, u has the earlier generator
abbrev pub IsEarlier : List ℕ → List ℕ → Type 0
IsEarlier [] v = ⊥
IsEarlier (x ∷ u) [] = ⊥
IsEarlier (x ∷ u) (y ∷ v) = (x < y) ⊎ ((x ≡ y) × IsEarlier u v)

-- The shortlex order: u is shorter than v, or as long and earlier at the first difference.
-- Epstein et al., Word Processing in Groups, 2.5; Sims, Computation with Finitely Presented Groups, 2.1.
pub data Less (u v : List ℕ) : Type 0 where
  shorter : length u < length v → Less u v
  earlier : length u ≡ length v → IsEarlier u v → Less u v

-- v stands in w from the place on
pub record StandsAt (w v : List ℕ) (place : ℕ) : Type 0 where
  pub before : List ℕ
  pub after : List ℕ
  pub whole : w ≡ before ++ v ++ after
  pub at : length before ≡ place

-- v is a factor of w: it stands at some place
abbrev pub IsFactor : List ℕ → List ℕ → Type 0
IsFactor w v = (place : ℕ) × StandsAt w v place

-- the list ends with v
abbrev pub EndsWith : List ℕ → List ℕ → Type 0
EndsWith w v = (before : List ℕ) × (w ≡ before ++ v)

-- the pair is one of the list's
abbrev pub OneOf : List Pair → Pair → Type 0
OneOf pairs pair = (index : ℕ) × (slice_get pairs index ≡ Some pair)
