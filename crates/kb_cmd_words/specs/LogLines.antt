-- Whether the lines of a log may answer in place of the relations, and what stands against it.
use Rattle.std.specs.Prelude.{◌≡◌, ◌<◌, ◌+◌, ℕ, List, [], ◌∷◌, ◌++◌, Option, Some, None, codes, decimal, slice_get}
use Rattle.kb_io.specs.Bytes.{newline}
use Rattle.kb_word.specs.Words.{Pair, OneOf}
use Rattle.kb_word.specs.WordOrders.{Below}
use Rattle.kb_word.specs.Congruence.{Congruent}
use Rattle.kb_word.specs.Overlap.{IsConfluent, IsResolved, IsUnresolved}
use Rattle.kb_word.specs.Presentations.{PresentationParts}
use Rattle.kb_word.specs.Printed.{text_of_word}
use Rattle.kb_confluence.specs.FirstApart.{IsFirstApart, IsCounterexample}
use Rattle.kb_proof.specs.Verifying.{IsFirstFault}
use Rattle.kb_proof.specs.declared.log.Log.{Log}
use Rattle.kb_bylog.specs.LogLines.{AreJoined, IsJustifiedBy, lines_of}
use Rattle.kb_task.specs.Reasons.{unjustified_line}
use Rattle.kb_task.specs.declared.status.Cert.TheVariants.{NotConfluent, NotJustified, RelationApart}
use Rattle.kb_task.specs.declared.status.Status.{Status}
use Rattle.kb_task.specs.declared.status.Status.TheVariants.{No}
use Rattle.kb_cmd_words.specs.Confluence.{relations, no_line}
use Rattle.kb_cmd_words.specs.declared.objection.Objection.{Objection}
use Rattle.kb_cmd_words.specs.declared.objection.Objection.TheVariants as objections

-- ---- relations by rules

-- the sides of the relation of this number have different normal forms, u and v, and those of none before it have
pub record IsFirstRelationApart (rules relations : List Pair) (number : ℕ)
    (u v : List ℕ) : Type 0 where
  pub index : ℕ
  pub is_number : number ≡ index + 1
  pub pair : Pair
  pub is_pair : slice_get relations index ≡ Some pair
  pub apart : IsUnresolved rules pair u v
  pub earlier : (before : ℕ) (other : Pair) → before < index
      → slice_get relations before ≡ Some other → IsResolved rules other

-- ---- the lines of a log

-- The log is justified over the presentation, each relation follows from its lines, and these are confluent. So normal
-- forms by the lines are the least words of the presentation.
pub record Decides (parts : PresentationParts) (log : Log) : Type 0 where
  pub justified : IsJustifiedBy parts log
  pub joined : AreJoined (lines_of log) (relations parts)
  pub confluent : IsConfluent (lines_of log)

-- the log is justified, and by its lines this is the first relation whose sides are apart
pub record LeavesApart (parts : PresentationParts) (log : Log) (number : ℕ)
    (u v : List ℕ) : Type 0 where
  pub justified : IsJustifiedBy parts log
  pub first : IsFirstRelationApart (lines_of log) (relations parts) number u v

-- The log is justified, each relation follows from its lines, and these aren't confluent: the first overlap that is
-- apart leads to u and v, which are different, irreducible and congruent in the presentation.
pub record IsNotConfluent (parts : PresentationParts) (log : Log) (u v : List ℕ) : Type 0 where
  pub justified : IsJustifiedBy parts log
  pub joined : AreJoined (lines_of log) (relations parts)
  pub i : ℕ
  pub j : ℕ
  pub place : ℕ
  pub first : IsFirstApart (lines_of log) i j place u v
  pub counterexample : IsCounterexample (lines_of log) u v
  pub congruent : Congruent (OneOf (relations parts)) u v

-- ---- objections

-- what an objection says of the log
abbrev pub Objects : PresentationParts → Log → Objection → Type 0
Objects parts log (objections.Unjustified number why) =
    IsFirstFault (Below parts.order) (relations parts) log number why
Objects parts log (objections.RelationApart number u v) = LeavesApart parts log number u v
Objects parts log (objections.NotConfluent u v) = IsNotConfluent parts log u v

-- `no relation I U V`
abbrev pub apart_line : List (List ℕ) → ℕ → List ℕ → List ℕ → List ℕ
apart_line names number u v =
    codes "no relation "
    ++ (decimal number
    ++ 32 ∷ (text_of_word names u ++ 32 ∷ (text_of_word names v ++ newline ∷ [])))

-- the line that shows an objection
abbrev pub objection_line : List (List ℕ) → Objection → List ℕ
objection_line names (objections.Unjustified number why) = unjustified_line number why
objection_line names (objections.RelationApart number u v) = apart_line names number u v
objection_line names (objections.NotConfluent u v) = no_line names u v

-- the status of a run that an objection ends
abbrev pub objection_status : Objection → Status
objection_status (objections.Unjustified number why) = No (NotJustified number why)
objection_status (objections.RelationApart number u v) = No (RelationApart number u v)
objection_status (objections.NotConfluent u v) = No (NotConfluent u v)

-- ---- what is found of relations

-- of one relation: its sides have one normal form, or an objection names it
abbrev pub RelationSays : List Pair → ℕ → Pair → Option Objection → Type 0
RelationSays rules number pair None = IsResolved rules pair
RelationSays rules number pair (Some (objections.RelationApart found u v)) =
    (found ≡ number) × IsUnresolved rules pair u v
RelationSays rules number pair (Some _) = ⊥

-- of all relations: the sides of each have one normal form, or an objection names the first where they haven't
abbrev pub RelationsSay : List Pair → List Pair → Option Objection → Type 0
RelationsSay rules relations None = AreJoined rules relations
RelationsSay rules relations (Some (objections.RelationApart number u v)) =
    IsFirstRelationApart rules relations number u v
RelationsSay rules relations (Some _) = ⊥
