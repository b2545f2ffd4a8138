-- Other left sides in that of a line.
use Rattle.std.proofs.Common.{◌≡◌, ◌≢◌, ◌↔◌, ℕ, zero, suc, ◌<◌, ◌≤◌, Bool, IsTrue, List, length, get_or, Option, Some, None, refl, sym, subst, arith}
use Rattle.std.specs.Prelude.{slice_get, IfSome, IfNone}
use Rattle.std.specs.Option.{is_some}
use Rattle.std.proofs.lemmas.Option.{slice_get-get_or}
use Rattle.kb_word.specs.Words.{Pair, IsFactor, StandsAt}
use Rattle.kb_machine.specs.Lines.{numbered, rule_of, rules_of}
use Rattle.kb_machine.specs.declared.line.Line.{Line}
use Rattle.kb_machine.specs.Justified.{HasAnotherFactor}
use Rattle.kb_machine.proofs.Numbers.{numbered_same}
use Rattle.kb_proof.specs.Checking.{IsAnotherAt}
use Rattle.kb_proof.proofs.Listed.{rule_at}

-- none of the rules from this index on
abbrev pub NoneFrom : List Pair → ℕ → List ℕ → ℕ → Type 0
NoneFrom rules k w start = (index : ℕ) → start ≤ index → ¬ IsAnotherAt rules k w index

at_number : (rules : List Pair) (k : ℕ) (w : List ℕ) (other : ℕ) (rule : Pair) → NoneFrom rules k w 0
    → numbered rules other ≡ Some rule → other ≢ k → IsFactor w rule.0
    → ⊥
at_number rules k w zero rule none is another factor = absurd (cc is)
at_number rules k w (suc index) rule none is another factor =
    none index (omega arith) (record { rule = rule; is_rule = is; another = another; factor = factor })

pub none_another : (rules : List Pair) (k : ℕ) (own : Pair) → numbered rules k ≡ Some own → NoneFrom rules k own.0 0
    → HasAnotherFactor rules k
    → ⊥
none_another rules k own is none has =
    let P : Pair → Type 0 = λ pair. IsFactor pair.0 has.rule.0 in
    let factor = subst P (numbered_same rules k has.own own has.is_own is) has.factor in
    at_number rules k own.0 has.other has.rule none has.is_rule has.another factor

-- ---- what the search in one left side answers

factor_answer : (rules : List Pair) (k index : ℕ) (w : List ℕ) (rule : Pair) (found : Option ℕ)
    → slice_get rules index ≡ Some rule → suc index ≢ k → IfSome found (λ place. StandsAt w rule.0 place)
    → IfNone found (¬ IsFactor w rule.0)
    → IsTrue (is_some found) ↔ IsAnotherAt rules k w index
factor_answer rules k index w rule (Some place) is another at none =
    (λ found. record { rule = rule; is_rule = is; another = another; factor = (place, at) }, λ it. refl)
factor_answer rules k index w rule None is another at none = (
  λ found. absurd (cc found),
  λ it.
      let P : Pair → Type 0 = λ other. IsFactor w other.0 in
      let same : it.rule ≡ rule = cc (it.is_rule, is) in
      absurd (none (subst P same it.factor)),
)

pub another_at : (lines : List Line) (k index : ℕ) (w : List ℕ) (line : Line) (found : Option ℕ) (answer : Bool)
    → index < length lines → line ≡ get_or lines index line → (suc index ≡ k → ⊥)
    → IfSome found (λ place. StandsAt w (get_or lines index line).left place)
    → IfNone found (¬ IsFactor w (get_or lines index line).left)
    → answer ≡ is_some found
    → IsTrue answer ↔ IsAnotherAt (rules_of lines) k w index
another_at lines k index w line found answer within is another at none e =
    let there = rule_at lines index (get_or lines index line) (slice_get-get_or lines index line within) in
    let P : Bool → Type 0 = λ b. IsTrue b ↔ IsAnotherAt (rules_of lines) k w index in
    subst P (sym e) (factor_answer (rules_of lines) k index w (rule_of (get_or lines index line)) found there another at none)
