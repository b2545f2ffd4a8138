-- What a log is checked for. A reason to refuse it holds of one of its lines, or of that of the pair that waits, behind
-- the lines before. The first is that of the least line, by the order of the reasons.
use Rattle.std.specs.Prelude.{◌≡◌, ◌≢◌, ◌⊎◌, ℕ, suc, ◌<◌, List, [], length, take, slice_get, Option, Some, None}
use Rattle.kb_word.specs.Words.{Pair, OneOf, IsFactor}
use Rattle.kb_word.specs.Rewriting.{IsIrreducible}
use Rattle.kb_machine.specs.Derivations.{Any, Derives, DerivesBoth}
use Rattle.kb_machine.specs.Justified.{IsJustified, HasAnotherFactor}
use Rattle.kb_machine.specs.Lines.{rules_of, IsPairOf, replaced}
use Rattle.kb_machine.specs.declared.line.Line.{Line}
use Rattle.kb_machine.specs.declared.line.LogStep.{LogStep}
use Rattle.kb_machine.specs.declared.origin.Origin.{Origin as LineOrigin}
use Rattle.kb_machine.specs.declared.origin.Origin.TheVariants.{Relation, Killed}
use Rattle.kb_proof.specs.Completions.{all_lines}
use Rattle.kb_proof.specs.Printable.{IsShortening}
use Rattle.kb_proof.specs.declared.log.Log.{Log}
use Rattle.kb_proof.specs.declared.verified.Why.{Why}
use Rattle.kb_proof.specs.declared.verified.Why.TheVariants as reasons
use Rattle.kb_proof.specs.declared.verified.Verified.{Verified}
use Rattle.kb_proof.specs.declared.verified.Verified.TheVariants.{Yes, No}

-- ---- origins

-- the relation that an origin uses
abbrev pub relation_used : LineOrigin → Option ℕ
relation_used (Relation k) = Some k
relation_used _ = None

-- one of the lines has an origin that uses up this number: `used` says which one each uses
pub record IsUsed (used : LineOrigin → Option ℕ) (lines : List Line) (k : ℕ) : Type 0 where
  pub index : ℕ
  pub line : Line
  pub at : slice_get lines index ≡ Some line
  pub uses : used line.origin ≡ Some k

-- The origin names no pair of a relation or of earlier lines; or its relation, or the line that it replaces, for the
-- second time; or it kills a line, and no other earlier left side is a factor of that line's.
pub data HasOriginFault (relations : List Pair) (earlier : List Line)
    (origin : LineOrigin) : Type 0 where
  names_none : ((pair : Pair) → ¬ IsPairOf relations (rules_of earlier) origin pair)
      → HasOriginFault relations earlier origin
  used_again : (k : ℕ) → relation_used origin ≡ Some k → IsUsed relation_used earlier k
      → HasOriginFault relations earlier origin
  replaced_again : (k : ℕ) → replaced origin ≡ Some k → IsUsed replaced earlier k
      → HasOriginFault relations earlier origin
  killed_alone : (k : ℕ) → origin ≡ Killed k → ¬ HasAnotherFactor (rules_of earlier) k
      → HasOriginFault relations earlier origin

-- ---- derivations

-- The sides of the line come by its derivations from the words of the pair; those of a line that was shortened are the
-- pair's left word, and another word, to which the right one leads.
pub data ComesFrom (rules : List Pair) (pair : Pair) (line : Line) : Type 0 where
  from_both : ¬ IsShortening line.origin
      → DerivesBoth Any rules pair line.first_steps.items line.second_steps.items line.left
      line.right
      → ComesFrom rules pair line
  from_right : IsShortening line.origin → line.left ≡ pair.0
      → Derives Any rules pair.1 line.first_steps.items line.right → line.right ≢ pair.1
      → line.second_steps.items ≡ [] → ComesFrom rules pair line

-- the steps lead from the word to no word: one of them is by no rule, or the left side of its rule isn't at its place
abbrev pub LeadNowhere : List Pair → List ℕ → List LogStep → Type 0
LeadNowhere rules w steps = (v : List ℕ) → ¬ Derives Any rules w steps v

-- A derivation of the line leads nowhere from the word of the pair at which it begins; or the line was shortened, and
-- has a second derivation.
pub data HasFailingStep (rules : List Pair) (pair : Pair) (line : Line) : Type 0 where
  first_fails : ¬ IsShortening line.origin → LeadNowhere rules pair.0 line.first_steps.items
      → HasFailingStep rules pair line
  second_fails : ¬ IsShortening line.origin → LeadNowhere rules pair.1 line.second_steps.items
      → HasFailingStep rules pair line
  right_fails : IsShortening line.origin → LeadNowhere rules pair.1 line.first_steps.items
      → HasFailingStep rules pair line
  second_given : IsShortening line.origin → line.second_steps.items ≢ []
      → HasFailingStep rules pair line

-- ---- faults

-- the pair that the line's origin names, and what is said of it
pub record OfItsPair (relations rules : List Pair) (line : Line) (says : Pair → Type 0) : Type 0 where
  pub pair : Pair
  pub is_pair : IsPairOf relations rules line.origin pair
  pub said : says pair

-- a left side of the rules is a factor of the word
pub record HasLeftSide (rules : List Pair) (w : List ℕ) : Type 0 where
  pub rule : Pair
  pub is_rule : OneOf rules rule
  pub factor : IsFactor w rule.0

-- the line has the fault that the reason names, behind these lines
abbrev pub HasFault : (List ℕ → List ℕ → Type 0) → List Pair → List Line → Line → Why → Type 0
HasFault below relations earlier line reasons.Origin = HasOriginFault relations earlier line.origin
HasFault below relations earlier line reasons.Step =
    OfItsPair relations (rules_of earlier) line
    (λ pair. HasFailingStep (rules_of earlier) pair line)
HasFault below relations earlier line reasons.Result =
    OfItsPair relations (rules_of earlier) line (λ pair. ¬ ComesFrom (rules_of earlier) pair line)
HasFault below relations earlier line reasons.Order = ¬ below line.right line.left
HasFault below relations earlier line reasons.Earlier =
    (¬ IsShortening line.origin) × HasLeftSide (rules_of earlier) line.left

-- The line of the pair that waits has the same faults; but whatever its origin, it has an earlier fault where a left
-- side is a factor of either of its words. One that was shortened has that one at least: its left word is a left side.
abbrev pub HasWaitingFault : (List ℕ → List ℕ → Type 0) → List Pair → List Line → Line → Why
    → Type 0
HasWaitingFault below relations earlier line reasons.Origin =
    HasFault below relations earlier line reasons.Origin
HasWaitingFault below relations earlier line reasons.Step =
    HasFault below relations earlier line reasons.Step
HasWaitingFault below relations earlier line reasons.Result =
    HasFault below relations earlier line reasons.Result
HasWaitingFault below relations earlier line reasons.Order =
    HasFault below relations earlier line reasons.Order
HasWaitingFault below relations earlier line reasons.Earlier =
    HasLeftSide (rules_of earlier) line.left ⊎ HasLeftSide (rules_of earlier) line.right

-- the line at this index of the log has the fault; behind the last one comes that of the pair that waits
pub data HasFaultAt (below : List ℕ → List ℕ → Type 0) (relations : List Pair) (log : Log)
    (index : ℕ) (why : Why) : Type 0 where
  of_line : (line : Line) → slice_get log.lines.items index ≡ Some line
      → HasFault below relations (take index log.lines.items) line why
      → HasFaultAt below relations log index why
  of_waiting : (line : Line) → index ≡ length log.lines.items → log.waiting ≡ Some line
      → HasWaitingFault below relations log.lines.items line why
      → HasFaultAt below relations log index why

-- ---- the answer

-- the place of a reason in their order
abbrev pub rank : Why → ℕ
rank reasons.Origin = 0
rank reasons.Step = 1
rank reasons.Result = 2
rank reasons.Order = 3
rank reasons.Earlier = 4

-- the reason is the first of those that hold
pub record IsFirst (holds : Why → Type 0) (why : Why) : Type 0 where
  pub it_holds : holds why
  pub none_before : (other : Why) → rank other < rank why → ¬ holds other

-- the line of this number is the least with a fault, and this is its first
pub record IsFirstFault (below : List ℕ → List ℕ → Type 0) (relations : List Pair) (log : Log)
    (number : ℕ) (why : Why) : Type 0 where
  pub index : ℕ
  pub is_number : number ≡ suc index
  pub first : IsFirst (HasFaultAt below relations log index) why
  pub least : (before : ℕ) (other : Why) → before < index
      → ¬ HasFaultAt below relations log before other

-- Each line, that of the pair that waits too, follows from the relations and the lines before it; and of that pair no
-- line was shortened, and no line reduces either of its words.
pub record IsVerified (below : List ℕ → List ℕ → Type 0) (relations : List Pair)
    (log : Log) : Type 0 where
  pub justified : IsJustified below relations (all_lines log)
  pub not_shortened : (line : Line) → log.waiting ≡ Some line → ¬ IsShortening line.origin
  pub irreducible : (line : Line) → log.waiting ≡ Some line
      → IsIrreducible (OneOf (rules_of log.lines.items)) line.right

-- what the answer says of the log
abbrev pub VerifiedSays : (List ℕ → List ℕ → Type 0) → List Pair → Log → Verified → Type 0
VerifiedSays below relations log Yes = IsVerified below relations log
VerifiedSays below relations log (No number why) = IsFirstFault below relations log number why
