-- Rules whose left side ends a word.
use Rattle.std.specs.Prelude.{◌≡◌, ℕ, ◌<◌, List, slice_get, Some}
use Rattle.kb_word.specs.Words.{Pair, OneOf, EndsWith}

-- the rule at the index is the first one in list order whose left side ends the word
pub record IsFirstEnding (rules : List Pair) (w : List ℕ) (index : ℕ) (rule : Pair) : Type 0 where
  pub is_rule : slice_get rules index ≡ Some rule
  pub ends : EndsWith w rule.0
  pub first : (earlier : ℕ) (other : Pair) → earlier < index → slice_get rules earlier ≡ Some other
      → ¬ EndsWith w other.0

-- no rule's left side ends the word
abbrev pub NoneEnds : List Pair → List ℕ → Type 0
NoneEnds rules w = (pair : Pair) → OneOf rules pair → ¬ EndsWith w pair.0
