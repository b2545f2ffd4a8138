-- A state has one label.
use Rattle.std.proofs.Common.{◌≡◌, ℕ, List, [], ◌∷◌, ◌++◌, sym, ◌∙◌, subst}
use Rattle.std.proofs.lemmas.Option.{same_Some}
use Rattle.kb_word.specs.Rewriting.{NormalForm}
use Rattle.kb_rules.specs.Steps.{Leads}
use Rattle.kb_rules.proofs.Unique.{normal_form_unique}
use Rattle.kb_fsa.specs.Table.{Table}
use Rattle.kb_fsa.specs.Padding.{letters_of}
use Rattle.kb_fsa.specs.PairSymbols.{second_letter}
use Rattle.kb_explore.proofs.ExplorationLemmas.{one_least_text}
use Rattle.kb_diff.specs.Groups.{Group}
use Rattle.kb_labels.specs.Labels.{Turns, IsLabel}

-- a symbol turns a label to one word
pub turns_to_one : (group : Group) (d : List ℕ) (symbol : ℕ) (e f : List ℕ) → Turns group d symbol e → Turns group d symbol f → e ≡ f
turns_to_one group d symbol e f first second =
    let back : List ℕ = letters_of group.n (second_letter group.n symbol) in
    let inverses : first.inverse ≡ second.inverse = same_Some first.inverse second.inverse (sym first.inverts ∙ second.inverts) in
    let P : List ℕ → Type 0 = λ w. NormalForm group.rules (w ++ d ++ back) e in
    normal_form_unique (subst P inverses first.normal) second.normal

-- so does a text
turned_to_one : (group : Group) (d text e f : List ℕ) → Leads (Turns group) d text e → Leads (Turns group) d text f → e ≡ f
turned_to_one group d [] e f first second = sym first ∙ second
turned_to_one group d (symbol ∷ text) e f first second =
    let same : first.0 ≡ second.0 = turns_to_one group d symbol first.0 second.0 first.1 second.1 in
    let P : List ℕ → Type 0 = λ w. Leads (Turns group) w text e in
    turned_to_one group second.0 text e f (subst P same first.2) second.2

pub one_label : (group : Group) (table : Table) (state : ℕ) (label other : List ℕ) → IsLabel group table state label
    → IsLabel group table state other → label ≡ other
one_label group table state label other one two =
    let same : one.text ≡ two.text = one_least_text table state one.text two.text one.least two.least in
    let P : List ℕ → Type 0 = λ text. Leads (Turns group) [] text label in
    turned_to_one group [] two.text label other (subst P same one.turned) two.turned
