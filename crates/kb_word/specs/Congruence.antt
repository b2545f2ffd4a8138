-- The congruence that pairs of words generate, and least words.
use Rattle.std.specs.Prelude.{◌≡◌, ℕ, ◌⊎◌, List, ◌++◌}
use Rattle.kb_word.specs.Words.{Pair, OneOf}
use Rattle.kb_word.specs.Path.{Path}

-- v is u with the left side of an allowed pair replaced by its right side, at one place
pub record Replaces (allowed : Pair → Type 0) (u v : List ℕ) : Type 0 where
  pub before : List ℕ
  pub pair : Pair
  pub after : List ℕ
  pub is_allowed : allowed pair
  pub from : u ≡ before ++ pair.0 ++ after
  pub to : v ≡ before ++ pair.1 ++ after

-- one replacement, in one direction or the other
abbrev pub Touches : (Pair → Type 0) → List ℕ → List ℕ → Type 0
Touches allowed u v = Replaces allowed u v ⊎ Replaces allowed v u

-- The Thue congruence: a chain of words leads from u to v, each a replacement away from the next.
-- Epstein et al., Word Processing in Groups, 2.1; Book, Otto, String-Rewriting Systems, 1.1.
abbrev pub Congruent : (Pair → Type 0) → List ℕ → List ℕ → Type 0
Congruent allowed = Path (Touches allowed)

-- each pair of either list is congruent by the other list
pub record SameCongruence (pairs others : List Pair) : Type 0 where
  pub covered : (pair : Pair) → OneOf pairs pair → Congruent (OneOf others) pair.0 pair.1
  pub covers : (pair : Pair) → OneOf others pair → Congruent (OneOf pairs) pair.0 pair.1

-- m is congruent to w, and no word that is congruent to w is below m
pub record IsLeast (below : List ℕ → List ℕ → Type 0) (pairs : List Pair)
    (w m : List ℕ) : Type 0 where
  pub congruent : Congruent (OneOf pairs) w m
  pub least : (v : List ℕ) → Congruent (OneOf pairs) w v → ¬ below v m
