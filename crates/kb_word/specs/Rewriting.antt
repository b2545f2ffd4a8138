-- Reduction by rules, and the normal form that the programs compute.
use Rattle.std.specs.Prelude.{◌≡◌, ◌≢◌, ℕ, ◌<◌, List, [], ◌++◌, slice_get, Some}
use Rattle.kb_word.specs.Words.{Pair, OneOf, EndsWith}
use Rattle.kb_word.specs.Path.{Path}
use Rattle.kb_word.specs.Congruence.{Replaces}

-- no left side of an allowed pair is a factor of w
abbrev pub IsIrreducible : (Pair → Type 0) → List ℕ → Type 0
IsIrreducible allowed w =
    (before : List ℕ) (pair : Pair) (after : List ℕ) → allowed pair → w ≢ before ++ pair.0 ++ after

-- replacements of left sides by right sides lead from w to v
abbrev pub ReducesTo : (Pair → Type 0) → List ℕ → List ℕ → Type 0
ReducesTo allowed = Path (Replaces allowed)

-- each rule's right side is below its left side
abbrev pub AreDecreasing : (List ℕ → List ℕ → Type 0) → List Pair → Type 0
AreDecreasing below rules = (rule : Pair) → OneOf rules rule → below rule.1 rule.0

-- The first rewrite of u gives v: in the shortest prefix of u that is reducible, the suffix that is a left
-- side is replaced, by the first such rule in list order.
pub record FirstRewrite (rules : List Pair) (u v : List ℕ) : Type 0 where
  pub before : List ℕ
  pub index : ℕ
  pub rule : Pair
  pub after : List ℕ
  pub is_rule : slice_get rules index ≡ Some rule
  pub from : u ≡ before ++ rule.0 ++ after
  pub to : v ≡ before ++ rule.1 ++ after
  pub shortest : (prefix rest : List ℕ) → before ++ rule.0 ≡ prefix ++ rest → rest ≢ []
      → IsIrreducible (OneOf rules) prefix
  pub first : (earlier : ℕ) (other : Pair) → earlier < index → slice_get rules earlier ≡ Some other
      → ¬ EndsWith (before ++ rule.0) other.0

-- The normal form of w: first rewrites lead from w to m, and m is irreducible.
-- Sims, Computation with Finitely Presented Groups, 2.4, where this is rewriting from the left.
pub record NormalForm (rules : List Pair) (w m : List ℕ) : Type 0 where
  pub path : Path (FirstRewrite rules) w m
  pub irreducible : IsIrreducible (OneOf rules) m
