-- Critical pairs by the numbers of their lines, and lines killed without another left side.
use Rattle.std.proofs.Common.{◌≡◌, ℕ, Bool, true, false, not, IsTrue, Some, None, subst, List}
use Rattle.kb_word.specs.Words.{Pair}
use Rattle.kb_word.specs.Overlap.{Overlaps}
use Rattle.kb_machine.specs.Lines.{numbered, rules_of, IsCriticalPair}
use Rattle.kb_machine.specs.Justified.{HasAnotherFactor}
use Rattle.kb_machine.specs.declared.line.Line.{Line}
use Rattle.kb_machine.specs.declared.origin.Origin.{Origin}
use Rattle.kb_machine.specs.declared.origin.Origin.TheVariants.{Killed}
use Rattle.kb_machine.proofs.Numbers.{numbered_same}
use Rattle.kb_proof.specs.Verifying.{HasOriginFault}
use Rattle.kb_proof.specs.Verifying.HasOriginFault.{killed_alone}

pub no_first : (rules : List Pair) (i j place : ℕ) (pair : Pair) → numbered rules i ≡ None
    → IsCriticalPair rules i j place pair
    → ⊥
no_first rules i j place pair none is = absurd (cc (none, is.overlap.is_first))

pub no_second : (rules : List Pair) (i j place : ℕ) (pair : Pair) → numbered rules j ≡ None
    → IsCriticalPair rules i j place pair
    → ⊥
no_second rules i j place pair none is = absurd (cc (none, is.overlap.is_second))

pub no_overlap : (rules : List Pair) (i j place : ℕ) (first second pair : Pair) → numbered rules i ≡ Some first
    → numbered rules j ≡ Some second → (Overlaps first.0 second.0 place → ⊥)
    → IsCriticalPair rules i j place pair
    → ⊥
no_overlap rules i j place first second pair one other none is =
    let P : Pair → Type 0 = λ left. Overlaps left.0 is.second.0 place in
    let Q : Pair → Type 0 = λ right. Overlaps first.0 right.0 place in
    let left = subst P (numbered_same rules i is.first first is.overlap.is_first one) is.overlap.overlaps in
    none (subst Q (numbered_same rules j is.second second is.overlap.is_second other) left)

not_both : (b : Bool) → IsTrue (not b) → IsTrue b → ⊥
not_both true one other = absurd (cc one)
not_both false one other = absurd (cc other)

-- where no other left side is found
pub alone_fault : {origin : Origin} (found : Bool) (relations : List Pair) (lines : List Line) (k : ℕ) → origin ≡ Killed k
    → (HasAnotherFactor (rules_of lines) k → IsTrue found) → IsTrue (not found)
    → HasOriginFault relations lines origin
alone_fault found relations lines k is has alone = killed_alone k is (λ other. not_both found alone (has other))
