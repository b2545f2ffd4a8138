-- Where the search for a broken relation ends, and where it goes on.
use Rattle.std.specs.Prelude.{◌≡◌, ℕ, List, slice_get, Some}
use Rattle.kb_word.specs.Words.{Pair as Sides}
use Rattle.kb_fsa.specs.Language.{Automaton}
use Rattle.kb_leastpair.specs.LeastPair.{IsLeastWord}
use Rattle.kb_structure.specs.StructureOf.{OfAutomata}
use Rattle.kb_structure.specs.Axioms.{ActAlike}
use Rattle.kb_relations.specs.declared.stop.Stop.{Stop}
use Rattle.kb_relations.specs.declared.stop.Stop.TheVariants.{LedApart, TooManyStates}
use Rattle.kb_relations.specs.Images.{CanBeFollowed}
use Rattle.kb_relations.specs.Composites.{CountedRelation}
use Rattle.kb_relations.specs.Acts.{LeadApart}

-- The relation at the index acts alike, where words can be followed by the automata, and isn't counted above the limit.
pub record GoesOnAt (relations : List Sides) (acceptor : Automaton) (multipliers : List Automaton)
    (limit index : ℕ) : Type 0 where
  pub alike : CanBeFollowed acceptor multipliers → (relation : Sides)
      → slice_get relations index ≡ Some relation
      → OfAutomata acceptor multipliers (λ structure. ActAlike structure relation.0 relation.1)
  pub few : (relation : Sides) → slice_get relations index ≡ Some relation
      → ¬ CountedRelation acceptor multipliers relation limit

-- The relation isn't counted above the limit, and the word is the least from which its sides lead apart, where words
-- can be followed by the automata.
pub record IsApartFrom (acceptor : Automaton) (multipliers : List Automaton) (limit : ℕ)
    (relation : Sides) (word : List ℕ) : Type 0 where
  pub few : ¬ CountedRelation acceptor multipliers relation limit
  pub apart : CanBeFollowed acceptor multipliers → OfAutomata acceptor multipliers
      (λ structure. IsLeastWord (LeadApart structure relation.0 relation.1) word)

-- the relation with this index is that of the place, and the fact holds of it
pub record AtPlace (relations : List Sides) (place index : ℕ) (Holds : Sides → Type 0) : Type 0 where
  pub here : index ≡ place
  pub relation : Sides
  pub is_relation : slice_get relations place ≡ Some relation
  pub holds : Holds relation

-- the search ends at the relation of this place
abbrev pub StopsAt : List Sides → Automaton → List Automaton → ℕ → ℕ → Stop → Type 0
StopsAt relations acceptor multipliers limit place (LedApart index word) =
    AtPlace relations place index
    (λ relation. IsApartFrom acceptor multipliers limit relation word)
StopsAt relations acceptor multipliers limit place (TooManyStates index) =
    AtPlace relations place index
    (λ relation. CountedRelation acceptor multipliers relation limit)
