-- What is found of word differences up to a place of the equalities, and what is left to find.
use Rattle.std.specs.Prelude.{◌≡◌, ◌≢◌, ◌↔◌, ℕ, suc, ◌<◌, ◌≤◌, All, List, [], ◌∷◌, ◌++◌, length, drop, Option, Some, None, Contains, map}
use Rattle.std.specs.List.{AllPairs}
use Rattle.kb_word.specs.Words.{Pair}
use Rattle.kb_diff.specs.declared.grow.Grow.{Grow}
use Rattle.kb_diff.specs.Groups.{Group}
use Rattle.kb_diff.specs.Differences.{IsDifference, last_place}
use Rattle.kb_diff.specs.Keeping.{IsFull}
use Rattle.kb_kept.specs.declared.equality.Equality.{Equality}
use Rattle.kb_kept.specs.declared.seen.Seen.{Seen}
use Rattle.kb_kept.specs.declared.listing.Found.{Found}
use Rattle.kb_kept.specs.Listed.{AreListed, IsAt, IsBefore, IsFirstSeen, listed_words, pair_of}

-- What is found after one difference more, where the words that are known may be so many. It is known already, or it is
-- added, or there is no room for it, and then it is needed.
pub data FindsOne (most : ℕ) (seen : Seen) (old new : Found) : Option Seen → Type 0 where
  known_already : Contains old.known.keys seen.word → new.known.keys ≡ old.known.keys
      → new.kept.items ≡ old.kept.items
      → FindsOne most seen old new None
  found_first : ¬ Contains old.known.keys seen.word → length old.known.keys < most
      → new.known.keys ≡ old.known.keys ++ seen.word ∷ []
      → new.kept.items ≡ old.kept.items ++ seen ∷ []
      → FindsOne most seen old new None
  no_room : ¬ Contains old.known.keys seen.word → most ≤ length old.known.keys
      → new.known.keys ≡ old.known.keys → new.kept.items ≡ old.kept.items
      → FindsOne most seen old new (Some seen)

-- the same of the difference at a place of the equality at an index
pub record FindsAt (group : Group) (most : ℕ) (equality : Equality) (index place : ℕ)
    (old new : Found)
    (needed : Option Seen) : Type 0 where
  pub word : List ℕ
  pub difference : IsDifference group equality.u equality.v place word
  pub finds : FindsOne most (record { word = word; equality = index; place = place }) old new needed

-- a place of the equality at an index, as an end of what is listed
abbrev pub mark : ℕ → ℕ → Seen
mark index place = record { word = []; equality = index; place = place }

-- The listing has the differences of the equalities before the end, other than the empty word, each where it is first
-- seen, in the order of equalities and places.
pub record AreListedBefore (group : Group) (equalities : List Equality) (kept : List Seen)
    (end : Seen) : Type 0 where
  pub each : All (IsFirstSeen group equalities) kept
  pub not_empty : All (λ seen. seen.word ≡ [] → ⊥) kept
  pub ascending : AllPairs IsBefore kept
  pub before : All (λ seen. IsBefore seen end) kept
  pub all : (seen : Seen) → IsAt group equalities seen → IsBefore seen end
      → Contains (listed_words kept) seen.word

-- Differences are kept from a place of the first pair on, after those that are known: of all pairs, or up to one for
-- which there is no room. In the end it is these words that are kept.
pub data KeepsFrom (group : Group) (words : List (List ℕ)) (answer : Grow) : List Pair → ℕ
    → List (List ℕ) → Type 0 where
  no_pairs : {place : ℕ} {known : List (List ℕ)} → known ≡ words → ¬ IsFull answer
      → KeepsFrom group words answer [] place known
  next_pair : {pair : Pair} {rest : List Pair} {place : ℕ} {known : List (List ℕ)}
      → last_place pair.0 pair.1 < place → KeepsFrom group words answer rest 1 known
      → KeepsFrom group words answer (pair ∷ rest) place known
  known_at : {pair : Pair} {rest : List Pair} {place : ℕ} {known : List (List ℕ)} (word : List ℕ)
      → IsDifference group pair.0 pair.1 place word → place ≤ last_place pair.0 pair.1
      → Contains known word → KeepsFrom group words answer (pair ∷ rest) (suc place) known
      → KeepsFrom group words answer (pair ∷ rest) place known
  first_at : {pair : Pair} {rest : List Pair} {place : ℕ} {known : List (List ℕ)} (word : List ℕ)
      → IsDifference group pair.0 pair.1 place word → place ≤ last_place pair.0 pair.1
      → ¬ Contains known word
      → KeepsFrom group words answer (pair ∷ rest) (suc place) (known ++ word ∷ [])
      → KeepsFrom group words answer (pair ∷ rest) place known
  full_at : {pair : Pair} {rest : List Pair} {place : ℕ} {known : List (List ℕ)} (word : List ℕ)
      → IsDifference group pair.0 pair.1 place word → place ≤ last_place pair.0 pair.1
      → ¬ Contains known word → known ≡ words → IsFull answer
      → KeepsFrom group words answer (pair ∷ rest) place known

-- what is found before a place of the equality at an index, and what is left from there on
pub record Standing (group : Group) (words : List (List ℕ)) (answer : Grow)
    (equalities : List Equality)
    (index place : ℕ) (found : Found) : Type 0 where
  pub known_are : found.known.keys ≡ listed_words found.kept.items
  pub listed : AreListedBefore group equalities found.kept.items (mark index place)
  pub left : KeepsFrom group words answer (map pair_of (drop index equalities)) place
      found.known.keys

-- The listing is finished: it is of these words, and a difference is needed where there was no room for one.
pub record IsFinished (group : Group) (words : List (List ℕ)) (answer : Grow)
    (equalities : List Equality)
    (kept : List Seen) (needed : Option Seen) : Type 0 where
  pub listed : AreListed group equalities kept needed
  pub words_are : listed_words kept ≡ words
  pub full : (needed ≢ None) ↔ IsFull answer

-- the listing stands at a place, or is finished by the difference that is needed
abbrev pub Reaches : Group → List (List ℕ) → Grow → List Equality → ℕ → ℕ → Found → Option Seen
    → Type 0
Reaches group words answer equalities index place found None =
    Standing group words answer equalities index place found
Reaches group words answer equalities index place found (Some needed) =
    IsFinished group words answer equalities found.kept.items (Some needed)
