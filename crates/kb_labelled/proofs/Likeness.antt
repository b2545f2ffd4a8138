-- States from which each text leads to one label.
use Rattle.std.proofs.Common.{◌≡◌, ℕ, Bool, true, false, List, Some, None, if◌then◌else◌, refl, sym, ap, ◌∙◌}
use Rattle.std.proofs.lemmas.Option.{none-some, same_Some}
use Rattle.kb_fsa.specs.Table.{Table, after, is_accepting, AcceptsFrom, AreEquivalent}
use Rattle.kb_labelled.specs.Labels.{listed_for, label_of, label_from, AreAlike}

-- a state that accepts has its label, and another none
pub label_accepting : (table : Table) (labels : List ℕ) (state : ℕ) → is_accepting table state ≡ true
    → label_of table labels state ≡ Some (listed_for labels state)
label_accepting table labels state is = ap (λ (b : Bool). if b then Some (listed_for labels state) else None) is

pub label_rejecting : (table : Table) (labels : List ℕ) (state : ℕ) → is_accepting table state ≡ false → label_of table labels state ≡ None
label_rejecting table labels state is = ap (λ (b : Bool). if b then Some (listed_for labels state) else None) is

-- what has a label accepts
accepting_by : (accepts : Bool) (label other : ℕ) → (if accepts then Some label else None) ≡ Some other → (accepts ≡ true) × (label ≡ other)
accepting_by false label other is = absurd (none-some other is)
accepting_by true label other is = (refl, same_Some label other is)

pub accepting_from_label : (table : Table) (labels : List ℕ) (state label : ℕ) → label_of table labels state ≡ Some label
    → (is_accepting table state ≡ true) × (listed_for labels state ≡ label)
accepting_from_label table labels state label is = accepting_by (is_accepting table state) (listed_for labels state) label is

-- alike states have one right language
pub accepts_alike : (table : Table) (labels : List ℕ) (p q : ℕ) (text : List ℕ) → label_from table labels p text ≡ label_from table labels q text
    → AcceptsFrom table p text → AcceptsFrom table q text
accepts_alike table labels p q text same accepts =
    let here = label_accepting table labels (after table p text) accepts in
    (accepting_from_label table labels (after table q text) (listed_for labels (after table p text)) (sym same ∙ here)).0

pub equivalent_from_alike : (table : Table) (labels : List ℕ) (p q : ℕ) → AreAlike table labels p q → AreEquivalent table p q
equivalent_from_alike table labels p q same text =
    (accepts_alike table labels p q text (same text), accepts_alike table labels q p text (sym (same text)))
