-- What the check of a log keeps, and what it finds of a line.
use Rattle.std.specs.Prelude.{◌≡◌, ◌≢◌, ◌↔◌, ℕ, suc, slice_get, Bool, false, IsTrue, List, get_or, Option, Some, None}
use Rattle.kb_word.specs.Words.{Pair, OneOf, IsFactor}
use Rattle.kb_word.specs.WordOrders.{Below}
use Rattle.kb_word.specs.Relations.{relations_of}
use Rattle.kb_word.specs.Rewriting.{IsIrreducible}
use Rattle.kb_word.specs.declared.presentation.Presentation.{Presentation}
use Rattle.kb_machine.specs.Justified.{HasAnotherFactor}
use Rattle.kb_machine.specs.Lines.{rules_of, IsPairOf, replaced}
use Rattle.kb_machine.specs.declared.line.Line.{Line}
use Rattle.kb_machine.specs.declared.origin.Origin.{Origin}
use Rattle.kb_machine.specs.declared.origin.Origin.TheVariants.{Killed}
use Rattle.kb_proof.specs.Printable.{IsShortening}
use Rattle.kb_proof.specs.Verifying.{relation_used, IsUsed, ComesFrom, HasFailingStep, HasFault, HasWaitingFault, IsFirst}
use Rattle.kb_proof.specs.declared.verified.Why.{Why}
use Rattle.kb_proof.specs.declared.verified.Why.TheVariants as reasons
use Rattle.kb_proof.specs.declared.verifying.checker.Checker.{Checker}
use Rattle.kb_proof.specs.declared.verifying.marks.Marks.{Marks}

-- no line uses the relation of the origin, or replaces the line that it replaces
pub record IsFresh (lines : List Line) (origin : Origin) : Type 0 where
  pub not_used : (k : ℕ) → relation_used origin ≡ Some k → ¬ IsUsed relation_used lines k
  pub not_replaced : (k : ℕ) → replaced origin ≡ Some k → ¬ IsUsed replaced lines k

-- a line that the origin kills has another left side as a factor
abbrev pub IsNotAlone : List Pair → Origin → Type 0
IsNotAlone rules origin = (k : ℕ) → origin ≡ Killed k → HasAnotherFactor rules k

-- the rule at the index has another number, and a left side that is a factor of the word
pub record IsAnotherAt (rules : List Pair) (k : ℕ) (w : List ℕ) (index : ℕ) : Type 0 where
  pub rule : Pair
  pub is_rule : slice_get rules index ≡ Some rule
  pub another : suc index ≢ k
  pub factor : IsFactor w rule.0

-- the origin has no fault, and names this pair
pub record MayName (relations : List Pair) (earlier : List Line) (origin : Origin)
    (pair : Pair) : Type 0 where
  pub is_pair : IsPairOf relations (rules_of earlier) origin pair
  pub fresh : IsFresh earlier origin
  pub not_alone : IsNotAlone (rules_of earlier) origin

-- the line has no fault, behind these lines
pub record MayStand (below : List ℕ → List ℕ → Type 0) (relations : List Pair)
    (earlier : List Line) (line : Line) : Type 0 where
  pub pair : Pair
  pub named : MayName relations earlier line.origin pair
  pub comes : ComesFrom (rules_of earlier) pair line
  pub decreases : below line.right line.left
  pub irreducible : ¬ IsShortening line.origin → IsIrreducible (OneOf (rules_of earlier)) line.left

-- nor has the line of the pair that waits
pub record MayWait (below : List ℕ → List ℕ → Type 0) (relations : List Pair)
    (earlier : List Line) (line : Line) : Type 0 where
  pub stands : MayStand below relations earlier line
  pub not_shortened : ¬ IsShortening line.origin
  pub irreducible : IsIrreducible (OneOf (rules_of earlier)) line.right

-- what is found of the derivations of a line
abbrev pub DerivationsSay : List Pair → Pair → Line → Option Why → Type 0
DerivationsSay rules pair line None = ComesFrom rules pair line
DerivationsSay rules pair line (Some reasons.Step) = HasFailingStep rules pair line
DerivationsSay rules pair line (Some reasons.Result) =
    (¬ HasFailingStep rules pair line) × ¬ ComesFrom rules pair line
DerivationsSay rules pair line (Some _) = ⊥

-- what is found of a line: its first fault, or none
abbrev pub FaultSays : Presentation → List Line → Line → Option Why → Type 0
FaultSays presentation earlier line None =
    MayStand (Below presentation.order) (relations_of presentation.inv presentation.eqs) earlier
    line
FaultSays presentation earlier line (Some why) =
    IsFirst (HasFault (Below presentation.order)
    (relations_of presentation.inv presentation.eqs) earlier line) why

-- what is found of the line of the pair that waits
abbrev pub WaitingSays : Presentation → List Line → Line → Option Why → Type 0
WaitingSays presentation earlier line None =
    MayWait (Below presentation.order) (relations_of presentation.inv presentation.eqs) earlier line
WaitingSays presentation earlier line (Some why) =
    IsFirst (HasWaitingFault (Below presentation.order)
    (relations_of presentation.inv presentation.eqs) earlier line) why

-- the marks are at the numbers that the lines use up
abbrev pub AreAt : (Origin → Option ℕ) → List Line → List Bool → Type 0
AreAt used lines marks = (k : ℕ) → IsTrue (get_or marks k false) ↔ IsUsed used lines k

-- the marks are those of these lines
pub record AreMarks (lines : List Line) (marks : Marks) : Type 0 where
  pub relations : AreAt relation_used lines marks.relations.items
  pub replaced_lines : AreAt replaced lines marks.lines.items

-- what is kept is that of these lines, over the relations and the order of the presentation
pub record Knows (presentation : Presentation) (lines : List Line)
    (checker : Checker) : Type 0 where
  pub order : checker.rules.order ≡ presentation.order
  pub relations : checker.relations.items ≡ relations_of presentation.inv presentation.eqs
  pub rules : checker.rules.rules ≡ rules_of lines
  pub marks : AreMarks lines checker.marks
