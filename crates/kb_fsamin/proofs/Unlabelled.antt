-- Labels that tell nothing apart: states of one right language are alike.
use Rattle.std.proofs.Common.{◌≡◌, ℕ, zero, suc, List, Some, replicate, refl, sym, ap, ◌∙◌, inl, inr}
use Rattle.std.proofs.lemmas.Bool.{cases_Bool, false≢true}
use Rattle.kb_fsa.specs.Table.{Table, after, is_accepting, AreEquivalent}
use Rattle.kb_fsa.proofs.LinkLemmas.{zeros}
use Rattle.kb_labelled.specs.Labels.{AreAlike, listed_for}
use Rattle.kb_labelled.proofs.Likeness.{label_accepting, label_rejecting}

-- every state is listed with 0
abbrev pub AreZeros : List ℕ → Type 0
AreZeros labels = (state : ℕ) → listed_for labels state ≡ 0

pub zeros_listed : (count : ℕ) → AreZeros (replicate count 0)
zeros_listed count zero = refl
zeros_listed count (suc place) = zeros count place

pub alike_from_equivalent : (table : Table) (labels : List ℕ) → AreZeros labels → (p q : ℕ) → AreEquivalent table p q → AreAlike table labels p q
alike_from_equivalent table labels none p q same text =
    let s = after table p text in
    let t = after table q text in
    elim (cases_Bool (is_accepting table s)) [
      | inl accepts ↦
          label_accepting table labels s accepts ∙ ap (λ (l : ℕ). Some l) (none s ∙ sym (none t))
          ∙ sym (label_accepting table labels t ((same text).0 accepts))
      | inr rejects ↦ elim (cases_Bool (is_accepting table t)) [
        | inl accepts ↦ absurd (false≢true (sym rejects ∙ (same text).1 accepts))
        | inr also ↦ label_rejecting table labels s rejects ∙ sym (label_rejecting table labels t also)
      ]
    ]
