-- First words of one length, each the least that leads to a state with a label.
use Rattle.std.specs.Prelude.{◌≡◌, ◌⊎◌, ℕ, zero, suc, ◌<◌, ◌≤◌, List, [], ◌∷◌, ◌++◌, length, get_or, slice_get, slice_set, Option, Some, None}
use Rattle.kb_word.specs.Words.{Less, Pair, OneOf}
use Rattle.kb_word.specs.Rewriting.{IsIrreducible}
use Rattle.kb_fsa.specs.Table.{Table, IsLive, moves_of, step}
use Rattle.kb_fsa.specs.PairSymbols.{first_letter}
use Rattle.kb_diff.specs.Groups.{Group}
use Rattle.kb_labels.specs.Labels.{Turns}
use Rattle.kb_labels.specs.Unequal.{IsOther}
use Rattle.kb_labels.specs.declared.config.Config.{Config}

-- the lesser of the word at the index and another one is kept there
pub data KeepsLesser (words : List (List ℕ)) (index : ℕ) (word : List ℕ)
    : List (List ℕ) → Type 0 where
  new_lesser : Less word (get_or words index [])
      → KeepsLesser words index word (slice_set words index word)
  old_stays : ¬ Less word (get_or words index []) → KeepsLesser words index word words

-- the move leads from the one state with a label to the other, with a letter of the first word, and on to acceptance
pub record IsMove (group : Group) (table : Table) (from : Config) (symbol : ℕ)
    (to : Config) : Type 0 where
  pub letter : first_letter group.n symbol ≤ group.n
  pub leads : step table from.state symbol ≡ to.state
  pub live : IsLive table to.state
  pub turned : Turns group from.label symbol to.label

-- the word with a letter more
abbrev pub longer : Group → List ℕ → ℕ → List ℕ
longer group word symbol = word ++ first_letter group.n symbol ∷ []

-- The first word, of this length, leads to the state with this label, and some text leads on to acceptance. The second
-- word beside it is no longer.
abbrev pub Reaches : Group → Table → ℕ → List ℕ → Config → Type 0
Reaches group table zero word config =
    (word ≡ []) × ((config.label ≡ []) × ((config.state ≡ table.initial) × IsLive table config.state))
Reaches group table (suc size) word config =
    (from : Config) × ((before : List ℕ) × ((symbol : ℕ)
    × (Reaches group table size before from × (IsMove group table from symbol config
    × (word ≡ longer group before symbol)))))

-- from the state a second word goes on alone to acceptance, and behind the label it has another normal form than
-- the end
abbrev pub GoesWrong : Group → Table → List ℕ → Config → Type 0
GoesWrong group table end config = (second : List ℕ)
    × IsOther group.n group.rules table config.state [] config.label end second

-- the word stands beside the state with its label
pub record HasEntry (configs : List Config) (words : List (List ℕ)) (config : Config)
    (word : List ℕ) : Type 0 where
  pub place : ℕ
  pub config_at : slice_get configs place ≡ Some config
  pub word_at : slice_get words place ≡ Some word

-- a word stands beside it that is this one or less
pub record Covers (configs : List Config) (words : List (List ℕ)) (config : Config)
    (word : List ℕ) : Type 0 where
  pub own : List ℕ
  pub entry : HasEntry configs words config own
  pub at_most : (own ≡ word) ⊎ Less own word

-- New words beside states with labels are added. Of two words beside one of them the lesser stays.
pub record Adds (New : Config → List ℕ → Type 0) (configs : List Config)
    (words : List (List ℕ)) (configs' : List Config) (words' : List (List ℕ)) : Type 0 where
  pub one_each : length words' ≡ length configs'
  pub sound : (config : Config) (word : List ℕ) → HasEntry configs' words' config word
      → HasEntry configs words config word ⊎ New config word
  pub kept : (config : Config) (word : List ℕ) → Covers configs words config word
      → Covers configs' words' config word
  pub added : (config : Config) (word : List ℕ) → New config word
      → Covers configs' words' config word

-- one word beside one state with a label
abbrev pub IsOne : Config → List ℕ → Config → List ℕ → Type 0
IsOne config word other more = (other ≡ config) × (more ≡ word)

-- what the move leads to, with the word that is a letter longer
abbrev pub ComesBy : Group → Table → Config → List ℕ → ℕ → Config → List ℕ → Type 0
ComesBy group table config word symbol to more =
    IsMove group table config symbol to × (more ≡ longer group word symbol)

-- what one of the first moves leads to
abbrev pub ComesByFirst : Group → Table → Config → List ℕ → ℕ → Config → List ℕ → Type 0
ComesByFirst group table config word moved to more =
    (number : ℕ) × ((number < moved)
    × ComesBy group table config word
    (get_or (moves_of table config.state) number (0, 0)).0 to more)

-- what some move leads to
abbrev pub ComesFrom : Group → Table → Config → List ℕ → Config → List ℕ → Type 0
ComesFrom group table config word to more =
    (symbol : ℕ) × ComesBy group table config word symbol to more

-- what the moves lead to from one of the first places
pub record ComesFromFirst (group : Group) (table : Table) (configs : List Config)
    (words : List (List ℕ)) (done : ℕ) (to : Config) (more : List ℕ) : Type 0 where
  pub place : ℕ
  pub early : place < done
  pub from : Config
  pub word : List ℕ
  pub config_at : slice_get configs place ≡ Some from
  pub word_at : slice_get words place ≡ Some word
  pub comes : ComesFrom group table from word to more

-- the next layer has what the moves lead to from this one
abbrev pub IsNextLayer : Group → Table → List Config → List (List ℕ) → List Config
    → List (List ℕ) → Type 0
IsNextLayer group table configs words configs' words' =
    Adds (ComesFromFirst group table configs words (length words)) [] [] configs' words'

-- the words of the layer have this length and lead to what they stand beside; of those of this length, none that leads
-- there is less
pub record IsLayer (group : Group) (table : Table) (size : ℕ) (configs : List Config)
    (words : List (List ℕ)) : Type 0 where
  pub one_each : length words ≡ length configs
  pub sound : (config : Config) (word : List ℕ) → HasEntry configs words config word
      → Reaches group table size word config
  pub covers : (config : Config) (word : List ℕ) → Reaches group table size word config
      → Covers configs words config word

-- all labels are irreducible
abbrev pub HaveIrreducible : List Pair → List Config → Type 0
HaveIrreducible rules configs = (place : ℕ) (config : Config)
    → slice_get configs place ≡ Some config → IsIrreducible (OneOf rules) config.label

-- among the first places, so many, the place has the least word beside a state with a label that goes wrong
pub data IsLeastWrong (group : Group) (table : Table) (end : List ℕ) (configs : List Config)
    (words : List (List ℕ)) (done : ℕ) : Option ℕ → Type 0 where
  none : ((place : ℕ) (config : Config) → place < done → slice_get configs place ≡ Some config
      → ¬ GoesWrong group table end config)
      → IsLeastWrong group table end configs words done None
  some : {found : ℕ} {config : Config} → found < length words
      → slice_get configs found ≡ Some config → GoesWrong group table end config
      → ((place : ℕ) (other : Config) → place < done → slice_get configs place ≡ Some other
      → GoesWrong group table end other → ¬ Less (get_or words place []) (get_or words found []))
      → IsLeastWrong group table end configs words done (Some found)

-- the word leads to a state with a label that goes wrong
abbrev pub IsWrong : Group → Table → List ℕ → List ℕ → Type 0
IsWrong group table end word = (size : ℕ) × ((config : Config)
    × (Reaches group table size word config × GoesWrong group table end config))
