-- Word differences of pairs of words, each where it was first seen.
-- Epstein et al., Word Processing in Groups, 2.3; Holt, Eick, O'Brien, Handbook of Computational Group Theory, 13.2.
use Rattle.std.specs.Prelude.{◌≡◌, ◌⊎◌, ℕ, ◌<◌, ◌≤◌, All, List, [], ◌∷◌, Option, Some, None, Contains, IfSome, map, slice_get}
use Rattle.std.specs.List.{AllPairs}
use Rattle.kb_word.specs.Words.{Pair}
use Rattle.kb_word.specs.Relations.{IsOver}
use Rattle.kb_diff.specs.Groups.{Group}
use Rattle.kb_diff.specs.Differences.{IsDifference, last_place}
use Rattle.kb_kept.specs.declared.equality.Equality.{Equality}
use Rattle.kb_kept.specs.declared.seen.Seen.{Seen}
use Rattle.kb_kept.specs.declared.listing.Listing.{Listing}

-- an equality of two words, with the generator that follows the first one
abbrev pub equality_of : List ℕ → List ℕ → Option ℕ → Equality
equality_of u v x = record { u = u; v = v; x = x }

-- the words of an equality
abbrev pub pair_of : Equality → Pair
pair_of equality = (equality.u, equality.v)

-- the equalities of rules: both sides are the same element
abbrev pub rule_equality : Pair → Equality
rule_equality rule = equality_of rule.0 rule.1 None

abbrev pub rule_equalities : List Pair → List Equality
rule_equalities = map rule_equality

-- the words of the equalities are words over n generators
abbrev pub AreEqualitiesOver : ℕ → List Equality → Type 0
AreEqualitiesOver n = All (λ equality. IsOver n equality.u × IsOver n equality.v)

-- one is at an earlier equality than the other, or at an earlier place of the same
abbrev pub IsBefore : Seen → Seen → Type 0
IsBefore one other = (one.equality < other.equality)
    ⊎ ((one.equality ≡ other.equality) × (one.place < other.place))

-- the word is the difference of the equality at the place
pub record IsAt (group : Group) (equalities : List Equality) (seen : Seen) : Type 0 where
  pub equality : Equality
  pub is_equality : slice_get equalities seen.equality ≡ Some equality
  pub positive : 0 < seen.place
  pub within : seen.place ≤ last_place equality.u equality.v
  pub difference : IsDifference group equality.u equality.v seen.place seen.word

-- the same, and at no equality and place before
pub record IsFirstSeen (group : Group) (equalities : List Equality) (seen : Seen) : Type 0 where
  pub at : IsAt group equalities seen
  pub first : (other : Seen) → IsAt group equalities other → other.word ≡ seen.word
      → ¬ IsBefore other seen

-- the words that are listed, and the empty word before them
abbrev pub listed_words : List Seen → List (List ℕ)
listed_words kept = [] ∷ map (λ seen. seen.word) kept

-- what is seen comes before the end, where there is one
abbrev pub ComesBefore : Option Seen → Seen → Type 0
ComesBefore None seen = Unit {0}
ComesBefore (Some end) seen = IsBefore seen end

-- The difference for which there is no room: it is not listed, and first seen where it is.
pub record IsMissing (group : Group) (equalities : List Equality) (kept : List Seen)
    (needed : Seen) : Type 0 where
  pub first_seen : IsFirstSeen group equalities needed
  pub missing : ¬ Contains (listed_words kept) needed.word

-- The listing has the differences of the equalities other than the empty word, each where it is first seen, in the
-- order of equalities and places: all of them, or those before the one for which there is no room.
pub record AreListed (group : Group) (equalities : List Equality) (kept : List Seen)
    (needed : Option Seen) : Type 0 where
  pub each : All (IsFirstSeen group equalities) kept
  pub not_empty : All (λ seen. seen.word ≡ [] → ⊥) kept
  pub ascending : AllPairs IsBefore kept
  pub before : All (ComesBefore needed) kept
  pub all : (seen : Seen) → IsAt group equalities seen → ComesBefore needed seen
      → Contains (listed_words kept) seen.word
  pub end : IfSome needed (IsMissing group equalities kept)

-- the listing is of these words, and of the differences of its equalities
pub record Lists (group : Group) (words : List (List ℕ)) (listing : Listing) : Type 0 where
  pub words_are : listed_words listing.kept.items ≡ words
  pub listed : AreListed group listing.equalities.items listing.kept.items listing.needed
