-- The first reason of a line, after what was found before.
use Rattle.std.proofs.Common.{◌≡◌, ◌∙◌, ℕ, zero, suc, ◌<◌, ◌≤◌, List, [], Some, inl, refl, sym, arith}
use Rattle.std.proofs.lemmas.List.{append-nil}
use Rattle.kb_word.specs.Words.{Pair, OneOf, IsFactor}
use Rattle.kb_word.specs.Rewriting.{IsIrreducible}
use Rattle.kb_machine.specs.Lines.{numbered, rules_of, IsPairOf}
use Rattle.kb_machine.specs.declared.line.Line.{Line}
use Rattle.kb_machine.specs.declared.origin.Origin.{Origin}
use Rattle.kb_machine.specs.declared.origin.Origin.TheVariants.{Relation, Overlap, Killed, Shortened}
use Rattle.kb_proof.specs.Printable.{IsShortening}
use Rattle.kb_proof.specs.Verifying.{ComesFrom, HasFault, HasLeftSide, HasWaitingFault, IsFirst, rank}
use Rattle.kb_proof.specs.Verifying.ComesFrom.{from_both, from_right}
use Rattle.kb_proof.specs.Checking.{MayName, MayStand}
use Rattle.kb_proof.specs.declared.verified.Why.{Why}
use Rattle.kb_proof.specs.declared.verified.Why.TheVariants as reasons
use Rattle.kb_proof.proofs.Standing.{no_fault}

-- ---- of a line

pub stands : {relations : List Pair} {earlier : List Line} {line : Line} {pair : Pair}
    (below : List ℕ → List ℕ → Type 0) → MayName relations earlier line.origin pair
    → ComesFrom (rules_of earlier) pair line → below line.right line.left
    → ((IsShortening line.origin → ⊥) → IsIrreducible (OneOf (rules_of earlier)) line.left)
    → MayStand below relations earlier line
stands {pair = pair} below may comes falls irreducible =
    record { pair = pair; named = may; comes = comes; decreases = falls; irreducible = irreducible }

-- ---- of the pair that waits

rank_most : (why : Why) → rank why ≤ 4
rank_most reasons.Origin = omega arith
rank_most reasons.Step = omega arith
rank_most reasons.Result = omega arith
rank_most reasons.Order = omega arith
rank_most reasons.Earlier = omega arith

to_waiting : (below : List ℕ → List ℕ → Type 0) (relations : List Pair) (earlier : List Line) (line : Line) (why : Why)
    → HasFault below relations earlier line why
    → HasWaitingFault below relations earlier line why
to_waiting below relations earlier line reasons.Origin fault = fault
to_waiting below relations earlier line reasons.Step fault = fault
to_waiting below relations earlier line reasons.Result fault = fault
to_waiting below relations earlier line reasons.Order fault = fault
to_waiting below relations earlier line reasons.Earlier fault = inl fault.1

from_waiting : (below : List ℕ → List ℕ → Type 0) (relations : List Pair) (earlier : List Line) (line : Line) (why : Why)
    → rank why < 4 → HasWaitingFault below relations earlier line why
    → HasFault below relations earlier line why
from_waiting below relations earlier line reasons.Origin less fault = fault
from_waiting below relations earlier line reasons.Step less fault = fault
from_waiting below relations earlier line reasons.Result less fault = fault
from_waiting below relations earlier line reasons.Order less fault = fault
from_waiting below relations earlier line reasons.Earlier less fault = absurd (omega arith)

-- the first reason of the line is that of the pair that waits
pub waiting_first : (below : List ℕ → List ℕ → Type 0) (relations : List Pair) (earlier : List Line) (line : Line)
    (why : Why)
    → IsFirst (HasFault below relations earlier line) why → IsFirst (HasWaitingFault below relations earlier line) why
waiting_first below relations earlier line why first =
    let most = rank_most why in
    record {
      it_holds = to_waiting below relations earlier line why first.it_holds;
      none_before = λ other less fault.
          first.none_before other less (from_waiting below relations earlier line other (omega arith) fault);
    }

-- where the line has none, a left side in either word is the first
pub earlier_first : (below : List ℕ → List ℕ → Type 0) (relations : List Pair) (earlier : List Line) (line : Line)
    → MayStand below relations earlier line → HasWaitingFault below relations earlier line reasons.Earlier
    → IsFirst (HasWaitingFault below relations earlier line) reasons.Earlier
earlier_first below relations earlier line may has = record {
  it_holds = has;
  none_before = λ other less fault. no_fault may other (from_waiting below relations earlier line other less fault);
}

-- ---- of a line that was shortened

one_numbered : (rules : List Pair) (k : ℕ) (pair : Pair) → numbered rules k ≡ Some pair → OneOf rules pair
one_numbered rules zero pair is = absurd (cc is)
one_numbered rules (suc index) pair is = (index, is)

shortened_rule : (relations rules : List Pair) (origin : Origin) (pair : Pair) → IsShortening origin
    → IsPairOf relations rules origin pair → OneOf rules pair
shortened_rule relations rules (Relation k) pair shortened is = absurd shortened
shortened_rule relations rules (Overlap i j place) pair shortened is = absurd shortened
shortened_rule relations rules (Killed k) pair shortened is = absurd shortened
shortened_rule relations rules (Shortened k) pair shortened is = one_numbered rules k pair is

shortened_left : {rules : List Pair} {pair : Pair} {line : Line} → IsShortening line.origin → ComesFrom rules pair line
    → line.left ≡ pair.0
shortened_left shortened (from_both unshortened both) = absurd (unshortened shortened)
shortened_left shortened (from_right other left right changed none) = left

-- its left word is that of the line that it shortens
pub shortened_again : {below : List ℕ → List ℕ → Type 0} {relations : List Pair} {earlier : List Line} {line : Line}
    → MayStand below relations earlier line → IsShortening line.origin
    → HasLeftSide (rules_of earlier) line.left
shortened_again {relations = relations} {earlier = earlier} {line = line} may shortened =
    let rule = may.pair in
    let whole = shortened_left shortened may.comes ∙ sym (append-nil rule.0) in
    let factor : IsFactor line.left rule.0 = (0, record { before = []; after = []; whole = whole; at = refl }) in
    record {
      rule = rule;
      is_rule = shortened_rule relations (rules_of earlier) line.origin rule shortened may.named.is_pair;
      factor = factor;
    }
