-- Left sides of rules, and their proper prefixes.
use Rattle.std.specs.Prelude.{◌≡◌, ◌≢◌, ◌⊎◌, ℕ, List, [], ◌++◌, slice_get, Some}
use Rattle.kb_word.specs.Words.{Pair, OneOf, IsFactor}
use Rattle.kb_word.specs.Relations.{IsOver}
use Rattle.kb_fsa.specs.Counted.{MoreThan}

-- each left side is a word over n letters
abbrev pub AreLeftSidesOver : ℕ → List Pair → Type 0
AreLeftSidesOver n rules = (rule : Pair) → OneOf rules rule → IsOver n rule.0

-- No left side has the left side of another rule as a factor, or is the same word. The left sides of a reduced
-- rewriting system are so. Sims, Computation with Finitely Presented Groups, chapter 2.
abbrev pub AreLeftSidesApart : List Pair → Type 0
AreLeftSidesApart rules =
    (i j : ℕ) (one other : Pair) → slice_get rules i ≡ Some one → slice_get rules j ≡ Some other
    → IsFactor one.0 other.0 → i ≡ j

-- a left side begins with the word, and has more letters
pub record IsProperPrefix (rules : List Pair) (w : List ℕ) : Type 0 where
  pub rule : Pair
  pub rest : List ℕ
  pub is_rule : OneOf rules rule
  pub whole : rule.0 ≡ w ++ rest
  pub longer : rest ≢ []

-- more than m words are the empty one or proper prefixes of left sides
abbrev pub CountedPrefixes : List Pair → ℕ → Type 0
CountedPrefixes rules = MoreThan (λ w. (w ≡ []) ⊎ IsProperPrefix rules w) (λ w other. w ≡ other)
