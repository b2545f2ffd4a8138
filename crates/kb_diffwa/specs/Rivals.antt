-- Rivals: words that are read beside the suffixes of a word, to see whether one of them is less and the same element.
-- Epstein et al., Word Processing in Groups, 2.3; Holt, Eick, O'Brien, Handbook of Computational Group Theory, 13.2.
use Rattle.std.specs.Prelude.{◌≡◌, ℕ, List, [], ◌++◌}
use Rattle.kb_word.specs.Relations.{IsOver}
use Rattle.kb_fsa.specs.Counted.{MoreSetsThan}
use Rattle.kb_diff.specs.Groups.{Group}
use Rattle.kb_diff.specs.Steps.{HasNumber, Leads}
use Rattle.kb_diff.specs.Languages.{DifferenceAcceptor}
use Rattle.kb_diffwa.specs.Comparing.{Comparison, Compares}

-- what counts of a word that is read beside a suffix of another
pub record Rival : Type 0 where
  -- the number of the difference between the suffix and the word
  pub difference : ℕ
  -- how the word compares with the suffix
  pub comparison : Comparison

-- The rival is that of the word v beside s: by differences that are kept the two lead from the empty word to the one
-- with the rival's number, and v compares with s as the rival says.
pub record IsRival (group : Group) (words : List (List ℕ)) (s v : List ℕ)
    (rival : Rival) : Type 0 where
  pub letters : IsOver group.n v
  pub difference : List ℕ
  pub number : HasNumber words rival.difference difference
  pub leads : Leads group words [] s v difference
  pub compares : Compares s v rival.comparison

-- the rival is that of some word beside some suffix of w
pub record IsRivalAfter (group : Group) (words : List (List ℕ)) (w : List ℕ)
    (rival : Rival) : Type 0 where
  pub front : List ℕ
  pub suffix : List ℕ
  pub whole : w ≡ front ++ suffix
  pub word : List ℕ
  pub is_rival : IsRival group words suffix word rival

-- the same, where w is accepted
pub record IsRivalOfAccepted (group : Group) (words : List (List ℕ)) (w : List ℕ)
    (rival : Rival) : Type 0 where
  pub accepted : DifferenceAcceptor group words w
  pub is_after : IsRivalAfter group words w rival

-- the acceptor counts the sets of rivals that accepted words have
abbrev pub CountedRivals : Group → List (List ℕ) → ℕ → Type 0
CountedRivals group words = MoreSetsThan (IsRivalOfAccepted group words)
