-- What the derivations of a line are found to be.
use Rattle.std.proofs.Common.{◌≡◌, ◌⊎◌, ℕ, List, [], sym, subst}
use Rattle.kb_word.specs.Words.{Pair}
use Rattle.kb_machine.specs.Derivations.{Any, Derives}
use Rattle.kb_machine.specs.declared.line.Line.{Line}
use Rattle.kb_proof.specs.Printable.{IsShortening}
use Rattle.kb_proof.specs.Verifying.{ComesFrom, HasFailingStep}
use Rattle.kb_proof.specs.Verifying.ComesFrom.{from_both, from_right}
use Rattle.kb_proof.specs.Verifying.HasFailingStep.{first_fails, second_fails, right_fails, second_given}
use Rattle.kb_proof.proofs.Replays.{derives_same}

-- both derivations of the line lead somewhere from the words of the pair
pub record LeadTo (rules : List Pair) (pair : Pair) (line : Line) (one other : List ℕ) : Type 0 where
  pub first : Derives Any rules pair.0 line.first_steps.items one
  pub second : Derives Any rules pair.1 line.second_steps.items other

-- the two words are the sides
abbrev pub AreSides : List ℕ → List ℕ → Line → Type 0
AreSides one other line =
    ((one ≡ line.left) × (other ≡ line.right)) ⊎ ((one ≡ line.right) × (other ≡ line.left))

no_steps_fail : {rules : List Pair} {pair : Pair} {line : Line} {one other : List ℕ} → (IsShortening line.origin → ⊥)
    → LeadTo rules pair line one other → HasFailingStep rules pair line
    → ⊥
no_steps_fail {one = one} unshortened lead (first_fails is nowhere) = nowhere one lead.first
no_steps_fail {other = other} unshortened lead (second_fails is nowhere) = nowhere other lead.second
no_steps_fail unshortened lead (right_fails shortened nowhere) = unshortened shortened
no_steps_fail unshortened lead (second_given shortened some) = unshortened shortened

comes_not : {rules : List Pair} {pair : Pair} {line : Line} {one other : List ℕ} → (IsShortening line.origin → ⊥)
    → LeadTo rules pair line one other → (AreSides one other line → ⊥) → ComesFrom rules pair line
    → ⊥
comes_not {rules = rules} {pair = pair} {line = line} {one = one} {other = other} unshortened lead apart (from_both is both) =
    let first : both.one ≡ one = derives_same rules line.first_steps.items pair.0 both.one one both.first lead.first in
    let second : both.other ≡ other = derives_same rules line.second_steps.items pair.1 both.other other both.second lead.second in
    let P : List ℕ → Type 0 = λ u. AreSides u both.other line in
    let Q : List ℕ → Type 0 = λ u. AreSides one u line in
    apart (subst Q second (subst P first both.ends))
comes_not unshortened lead apart (from_right shortened left right changed none) = unshortened shortened

-- where the words reached aren't the sides
pub pair_elsewhere : {rules : List Pair} {pair : Pair} {line : Line} {one other : List ℕ} → (IsShortening line.origin → ⊥)
    → LeadTo rules pair line one other → (AreSides one other line → ⊥)
    → (HasFailingStep rules pair line → ⊥) × (ComesFrom rules pair line → ⊥)
pair_elsewhere unshortened lead apart = (no_steps_fail unshortened lead, comes_not unshortened lead apart)

-- ---- lines that were shortened

no_right_fails : {rules : List Pair} {pair : Pair} {line : Line} (reached : List ℕ) → IsShortening line.origin
    → Derives Any rules pair.1 line.first_steps.items reached → line.second_steps.items ≡ [] → HasFailingStep rules pair line
    → ⊥
no_right_fails reached is led none (first_fails unshortened nowhere) = unshortened is
no_right_fails reached is led none (second_fails unshortened nowhere) = unshortened is
no_right_fails reached is led none (right_fails shortened nowhere) = nowhere reached led
no_right_fails reached is led none (second_given shortened some) = some none

right_not : {rules : List Pair} {pair : Pair} {line : Line} (reached : List ℕ) → IsShortening line.origin
    → Derives Any rules pair.1 line.first_steps.items reached → ((pair.0 ≡ line.left) × (reached ≡ line.right) → ⊥)
    → ComesFrom rules pair line
    → ⊥
right_not reached is led apart (from_both unshortened both) = unshortened is
right_not {rules = rules} {pair = pair} {line = line} reached is led apart (from_right shortened left right changed none) =
    apart (sym left, derives_same rules line.first_steps.items pair.1 reached line.right led right)

pub right_elsewhere : {rules : List Pair} {pair : Pair} {line : Line} (reached : List ℕ) → IsShortening line.origin
    → Derives Any rules pair.1 line.first_steps.items reached → line.second_steps.items ≡ []
    → ((pair.0 ≡ line.left) × (reached ≡ line.right) → ⊥)
    → (HasFailingStep rules pair line → ⊥) × (ComesFrom rules pair line → ⊥)
right_elsewhere reached is led none apart = (no_right_fails reached is led none, right_not reached is led apart)
