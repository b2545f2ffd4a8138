-- Classes of states that have one least text, and what is known of them on the way.
use Rattle.std.specs.Prelude.{◌≡◌, ◌⊎◌, ℕ, suc, ◌+◌, ◌<◌, ◌≤◌, Bool, IsTrue, not, List, [], ◌∷◌, ◌++◌, length, get_or, count_by, All, AllPairs, Contains}
use Rattle.std.specs.List.Sorted.{IsNonDecreasingBy}
use Rattle.kb_word.specs.Words.{Less}
use Rattle.kb_fsa.specs.Table.{Moves}
use Rattle.kb_explore.specs.Exploration.{IsTraced, AreFromEarlier}
use Rattle.kb_fsadet.specs.Nondeterministic.{Nondeterministic, LeadsSomehow, moves_from, accepts_at}
use Rattle.kb_fsadet.specs.SubsetConstruction.{set_of}
use Rattle.kb_fsaleast.specs.Marks.{is_marked, AreUnseen}
use Rattle.kb_fsaleast.specs.declared.classes.Classes.{Classes}

-- the class at the place has the state
abbrev pub Has : List (List ℕ) → ℕ → ℕ → Type 0
Has members place state = Contains (get_or members place []) state

-- the word of the class at the place
abbrev pub word_at : List (List ℕ) → ℕ → List ℕ
word_at words place = get_or words place []

-- each class is led to by its word; the words ascend, and the origins trace them
pub record AreClasses (automaton : Nondeterministic) (members : List (List ℕ))
    (origins : List (ℕ × ℕ)) (marks : List Bool) (words : List (List ℕ)) : Type 0 where
  pub one_word_each : length words ≡ length members
  pub one_origin_each : length origins ≡ length members
  pub one_mark_each : length marks ≡ length automaton.rows
  pub room : length members + count_by not marks ≤ length marks
  pub lead : (place state : ℕ) → Has members place state
      → LeadsSomehow automaton (word_at words place) state
  pub marked : (state : ℕ) → IsTrue (is_marked marks state) → (place : ℕ) × Has members place state
  pub traced : (place : ℕ) → place < length words
      → IsTraced origins (suc place) (word_at words place)
  pub from_earlier : AreFromEarlier origins
  pub ascending : AllPairs Less words

-- the state is in a class whose word is no greater than the text
pub record IsFound (members words : List (List ℕ)) (text : List ℕ) (state : ℕ) : Type 0 where
  pub place : ℕ
  pub has : Has members place state
  pub not_less : ¬ Less text (word_at words place)

-- no state of the class at the place accepts
abbrev pub NoneAccepts : Nondeterministic → List (List ℕ) → ℕ → Type 0
NoneAccepts automaton members place =
    (state : ℕ) → Has members place state → ¬ IsTrue (accepts_at automaton state)

-- no state of the class accepts, and where their moves lead is found by the word with the symbol
pub record IsFollowed (automaton : Nondeterministic) (members words : List (List ℕ))
    (place : ℕ) : Type 0 where
  pub rejects : NoneAccepts automaton members place
  pub targets : (state symbol target : ℕ) → Has members place state
      → Contains (moves_from automaton state) (symbol, target)
      → IsFound members words (word_at words place ++ symbol ∷ []) target

-- each of the words is less than this one with the symbol
abbrev pub Precede : List (List ℕ) → List ℕ → ℕ → Type 0
Precede words word symbol = All (λ other. Less other (word ++ symbol ∷ [])) words

-- so many classes are followed, and the next will find what comes from its word on
pub record Progress (automaton : Nondeterministic) (members : List (List ℕ))
    (origins : List (ℕ × ℕ)) (marks : List Bool) (followed : ℕ) : Type 0 where
  pub words : List (List ℕ)
  pub classes : AreClasses automaton members origins marks words
  pub initial : (state : ℕ) → Contains automaton.initial state → IsFound members words [] state
  pub within : followed ≤ length members
  pub done : (place : ℕ) → place < followed → IsFollowed automaton members words place
  pub next : followed < length members → (symbol : ℕ)
      → Precede words (word_at words followed) symbol

-- after those classes, the moves of the next one's states are followed but for the rest, whose
-- symbols are greater
pub record Partway (automaton : Nondeterministic) (members : List (List ℕ))
    (origins : List (ℕ × ℕ)) (marks : List Bool) (followed : ℕ) (rest : Moves) : Type 0 where
  pub words : List (List ℕ)
  pub classes : AreClasses automaton members origins marks words
  pub initial : (state : ℕ) → Contains automaton.initial state → IsFound members words [] state
  pub within : followed < length members
  pub word : List ℕ
  pub is_word : word_at words followed ≡ word
  pub done : (place : ℕ) → place < followed → IsFollowed automaton members words place
  pub rejects : NoneAccepts automaton members followed
  pub in_order : IsNonDecreasingBy (λ move. move.0) rest
  pub from_there : (symbol target : ℕ) → Contains rest (symbol, target)
      → (state : ℕ) × (Has members followed state
      × Contains (moves_from automaton state) (symbol, target))
  pub each : (state symbol target : ℕ) → Has members followed state
      → Contains (moves_from automaton state) (symbol, target)
      → Contains rest (symbol, target)
      ⊎ IsFound members words (word ++ symbol ∷ []) target
  pub below : All (λ move. Precede words word move.0) rest
  pub top : ℕ
  pub under : Precede words word top

-- Where some of the states are in no class, they are added as one, with the origin.
pub data Adds (members : List (List ℕ)) (origins : List (ℕ × ℕ)) (marks : List Bool)
    (states : List ℕ) (origin : ℕ × ℕ)
    (members' : List (List ℕ)) (origins' : List (ℕ × ℕ)) (marks' : List Bool) : Type 0 where
  none : members' ≡ members → origins' ≡ origins → AreUnseen marks states [] marks'
      → Adds members origins marks states origin members' origins' marks'
  some : {fresh : List ℕ} → members' ≡ members ++ set_of fresh ∷ []
      → origins' ≡ origins ++ origin ∷ [] → 0 < length fresh → AreUnseen marks states fresh marks'
      → Adds members origins marks states origin members' origins' marks'

-- ---- the same of the classes that are found

-- how many there are
abbrev pub class_count : Classes → ℕ
class_count classes = length classes.members.items

-- how many marks
abbrev pub mark_count : Classes → ℕ
mark_count classes = length classes.seen.items

-- so many are followed
abbrev pub IsUnderWay : Nondeterministic → Classes → ℕ → Type 0
IsUnderWay automaton classes =
    Progress automaton classes.members.items classes.origins.items classes.seen.items

-- a class of states is added, where some are in none
abbrev pub IsAdded : Classes → List ℕ → ℕ × ℕ → Classes → Type 0
IsAdded before states origin after =
    Adds before.members.items before.origins.items before.seen.items states origin
    after.members.items after.origins.items after.seen.items
