-- The word differences that are kept of a group.
use Rattle.std.specs.Prelude.{◌≡◌, ℕ, ◌<◌, ◌≤◌, ◌^◌, All, List, [], length, slice_get, Some}
use Rattle.kb_word.specs.Words.{OneOf}
use Rattle.kb_word.specs.Names.{AreApart}
use Rattle.kb_word.specs.Relations.{IsOver}
use Rattle.kb_word.specs.Rewriting.{IsIrreducible}
use Rattle.kb_diff.specs.Groups.{Group, EachInverts, InvertWithin, AreRulesOver}

-- the words that are kept, in first-seen order, and how many there may be
pub record KeptDifferences : Type 0 where
  pub group : Group
  pub most : ℕ
  pub words : List (List ℕ)

-- what they keep: it is a group, whose rules leave the empty word; that word is the first, none stands twice, and there
-- are no more than there may be, fewer than 2^32; each is a word over the generators that the rules leave
pub record AreKept (kept : KeptDifferences) : Type 0 where
  pub inverses : EachInverts kept.group.n kept.group.inverses
  pub within_letters : InvertWithin kept.group.n kept.group.inverses
  pub letters : AreRulesOver kept.group.n kept.group.rules
  pub empty : IsIrreducible (OneOf kept.group.rules) []
  pub first : slice_get kept.words 0 ≡ Some []
  pub apart : AreApart kept.words
  pub within : length kept.words ≤ kept.most
  pub limit : kept.most < 2 ^ 32
  pub over : All (IsOver kept.group.n) kept.words
  pub irreducible : All (IsIrreducible (OneOf kept.group.rules)) kept.words
