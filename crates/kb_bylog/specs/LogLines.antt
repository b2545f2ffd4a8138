-- The lines of a justified log as rules, and whether they settle the relations of the presentation.
use Rattle.std.specs.Prelude.{ℕ, List}
use Rattle.kb_word.specs.Words.{Pair, OneOf}
use Rattle.kb_word.specs.WordOrders.{Below}
use Rattle.kb_word.specs.Overlap.{IsConfluent, IsResolved}
use Rattle.kb_word.specs.Presentations.{PresentationParts}
use Rattle.kb_word.specs.Relations.{relations_of}
use Rattle.kb_machine.specs.Lines.{rules_of}
use Rattle.kb_proof.specs.Verifying.{IsFirstFault, IsVerified}
use Rattle.kb_proof.specs.declared.log.Log.{Log}
use Rattle.kb_proof.specs.declared.verified.Why.{Why}

-- the defining relations of the presentation
abbrev pub relations : PresentationParts → List Pair
relations parts = relations_of parts.inverses parts.equations

-- the rules of the log's lines
abbrev pub lines_of : Log → List Pair
lines_of log = rules_of log.lines.items

-- the log is justified over the presentation
abbrev pub IsJustifiedBy : PresentationParts → Log → Type 0
IsJustifiedBy parts log = IsVerified (Below parts.order) (relations parts) log

-- it isn't: the line of this number is the first for which there is a reason, and this is its first
abbrev pub IsUnjustifiedAt : PresentationParts → Log → ℕ → Why → Type 0
IsUnjustifiedAt parts log number why =
    IsFirstFault (Below parts.order) (relations parts) log number why

-- both sides of each pair have one normal form by the rules
abbrev pub AreJoined : List Pair → List Pair → Type 0
AreJoined rules pairs = (pair : Pair) → OneOf pairs pair → IsResolved rules pair

-- The rules settle the relations: both sides of each have one normal form, and the rules are confluent. So no relation
-- and no overlap is apart.
pub record Settles (rules relations : List Pair) : Type 0 where
  pub joined : AreJoined rules relations
  pub confluent : IsConfluent rules
