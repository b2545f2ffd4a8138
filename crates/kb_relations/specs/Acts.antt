-- Whether both sides of relations act alike, and what is counted on the way.
use Rattle.std.specs.Prelude.{◌≡◌, ◌≢◌, ℕ, suc, ◌<◌, List, length, slice_get, Some}
use Rattle.kb_word.specs.Words.{Pair as Sides, Less, OneOf}
use Rattle.kb_word.specs.Relations.{IsOver}
use Rattle.kb_word.specs.declared.word_order.WordOrder.{WordOrder}
use Rattle.kb_fsa.specs.Language.{Automaton, generators}
use Rattle.kb_structure.specs.Structure.{Structure, Accepts, Follows}
use Rattle.kb_structure.specs.StructureOf.{structure_of, OfAutomata}
use Rattle.kb_structure.specs.Axioms.{ActAlike}
use Rattle.kb_structure.specs.Certificates.{RelationBroken}
use Rattle.kb_relations.specs.declared.acting.Acting.{Acting}
use Rattle.kb_relations.specs.declared.acting.Acting.TheVariants.{Alike, Broken, TooManyStates}
use Rattle.kb_relations.specs.Composites.{CountedRelation}

-- both sides of each relation are words over the generators
abbrev pub AreOver : Automaton → List Sides → Type 0
AreOver acceptor relations = (relation : Sides) → OneOf relations relation
    → IsOver (generators acceptor.alphabet) relation.0 × IsOver (generators acceptor.alphabet) relation.1

-- followed from the accepted word u, the two words lead to different words
pub record LeadApart (structure : Structure) (left right u : List ℕ) : Type 0 where
  pub a : List ℕ
  pub b : List ℕ
  pub accepted : Accepts structure u
  pub left_leads : Follows structure left u a
  pub right_leads : Follows structure right u b
  pub different : a ≢ b

-- the relations before the index act alike, and none of them is counted above the limit
pub record ActAlikeBefore (relations : List Sides) (acceptor : Automaton)
    (multipliers : List Automaton) (limit index : ℕ) : Type 0 where
  pub alike : (earlier : ℕ) (relation : Sides) → earlier < index
      → slice_get relations earlier ≡ Some relation
      → OfAutomata acceptor multipliers (λ structure. ActAlike structure relation.0 relation.1)
  pub few : (earlier : ℕ) (relation : Sides) → earlier < index
      → slice_get relations earlier ≡ Some relation
      → ¬ CountedRelation acceptor multipliers relation limit

-- The relation at the index is the first that is broken. From the word its sides lead to these different words, and
-- from no lesser word do they lead apart; and neither it nor an earlier one is counted above the limit.
pub record IsFirstBroken (relations : List Sides) (acceptor : Automaton)
    (multipliers : List Automaton) (limit index : ℕ) (word left right : List ℕ) : Type 0 where
  pub earlier : ActAlikeBefore relations acceptor multipliers limit index
  pub few : (relation : Sides) → slice_get relations index ≡ Some relation
      → ¬ CountedRelation acceptor multipliers relation limit
  pub broken : (order : WordOrder) → RelationBroken
      (structure_of order relations acceptor multipliers) index word left right
  pub least : (order : WordOrder) (u a b : List ℕ) → RelationBroken
      (structure_of order relations acceptor multipliers) index u a b → ¬ Less u word

-- the relation at the index is the first that is counted above the limit, and no earlier one is broken
pub record IsFirstCounted (relations : List Sides) (acceptor : Automaton)
    (multipliers : List Automaton) (limit index : ℕ) : Type 0 where
  pub earlier : ActAlikeBefore relations acceptor multipliers limit index
  pub relation : Sides
  pub is_relation : slice_get relations index ≡ Some relation
  pub counted : CountedRelation acceptor multipliers relation limit

-- the fact holds of the index of a number, which counts from one
pub record AtNumber (Holds : ℕ → Type 0) (number : ℕ) : Type 0 where
  pub index : ℕ
  pub counts_from_one : number ≡ suc index
  pub holds : Holds index

-- what each answer says
abbrev pub IsActing : List Sides → Automaton → List Automaton → ℕ → Acting → Type 0
IsActing relations acceptor multipliers limit Alike =
    ActAlikeBefore relations acceptor multipliers limit (length relations)
IsActing relations acceptor multipliers limit (Broken number word left right) = AtNumber
    (λ index. IsFirstBroken relations acceptor multipliers limit index word left right) number
IsActing relations acceptor multipliers limit (TooManyStates number) =
    AtNumber (IsFirstCounted relations acceptor multipliers limit) number
