-- Right cosets of what some words generate. In a group they are the right cosets of the subgroup.
use Rattle.std.specs.Prelude.{◌≡◌, ℕ, List, ◌++◌}
use Rattle.kb_word.specs.Words.{Pair, OneOf}
use Rattle.kb_word.specs.Path.{Path}
use Rattle.kb_word.specs.Congruence.{Touches}
use Rattle.kb_coset.specs.Subgroups.{IsGenerator}

-- One step within a right coset, from u to v: a side of a relation is replaced by the other side, or a generator of
-- the subgroup comes to stand in front, or one that stands in front goes.
pub data CosetStep (relations : List Pair) (generators : List (List ℕ))
    (u v : List ℕ) : Type 0 where
  by_relation : Touches (OneOf relations) u v → CosetStep relations generators u v
  comes : (h : List ℕ) → IsGenerator generators h → v ≡ h ++ u
      → CosetStep relations generators u v
  goes : (h : List ℕ) → IsGenerator generators h → u ≡ h ++ v
      → CosetStep relations generators u v

-- the words are in one right coset: steps within the coset lead from u to v
abbrev pub SameCoset : List Pair → List (List ℕ) → List ℕ → List ℕ → Type 0
SameCoset relations generators = Path (CosetStep relations generators)

-- m is in the right coset of w, and no word of the coset is below m
pub record IsLeastInCoset (below : List ℕ → List ℕ → Type 0) (relations : List Pair)
    (generators : List (List ℕ)) (w m : List ℕ) : Type 0 where
  pub same_coset : SameCoset relations generators w m
  pub least : (v : List ℕ) → SameCoset relations generators w v → ¬ below v m
