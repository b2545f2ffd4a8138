-- The explored quotient of an automaton gives each text the same label, and has no more states.
use Rattle.std.proofs.Common.{◌≡◌, ℕ, zero, suc, ◌≤◌, Bool, List, [], length, get_or, map, Some, None, if◌then◌else◌, sym, ap, ◌∙◌, inl, inr, arith}
use Rattle.std.proofs.lemmas.Bool.{cases_Bool, cases_eq, cases_lt}
use Rattle.std.proofs.lemmas.List.{get_or-map, length-map}
use Rattle.std.proofs.lemmas.Option.{get_or_from_slice_get, none-some, slice_get_within}
use Rattle.kb_fsa.specs.Table.{Table, is_accepting, state_after}
use Rattle.kb_labelled.specs.Labels.{LabelledAutomaton, SameLabels, label_from, label_of, listed_for}
use Rattle.kb_labelled.proofs.Likeness.{label_rejecting}
use Rattle.kb_explore.specs.Exploration.{numbered}
use Rattle.kb_explore.proofs.ExplorationLemmas.{leads_nowhere, more_than_fewer}
use Rattle.kb_fsamin.specs.Classes.{representative}
use Rattle.kb_fsamin.specs.Quotient.{some_state}
use Rattle.kb_fsamin.proofs.Reduced.{IsReduction}
use Rattle.kb_fsamin.proofs.Represented.{dead_state, leads_quotient, no_more_classes, some_state_is, state_within}

module _ {given table : Table} {labels listed states : List ℕ} {origins : List (ℕ × ℕ)}
    (r : IsReduction given table labels listed states origins) where
  -- the labels of the quotient's states
  abbrev pub own : List ℕ
  own = map (listed_for labels) states

  -- the state of a representative has its label
  label_there : (state class : ℕ) → numbered states state ≡ Some class → label_of table own state ≡ label_of given labels class
  label_there zero class at = absurd (none-some class at)
  label_there (suc place) class at =
      let within = slice_get_within states place class at in
      let accepts : is_accepting table (suc place) ≡ is_accepting given class = r.explored.accepts place class at in
      let label : get_or own place 0 ≡ listed_for labels class =
      get_or-map (listed_for labels) states place 0 0 within ∙ ap (listed_for labels) (get_or_from_slice_get states place class 0 at) in
      ap (λ (l : ℕ). if is_accepting table (suc place) then Some l else None) label
      ∙ ap (λ (b : Bool). if b then Some (listed_for labels class) else None) accepts

  no_label : (text : List ℕ) → representative listed (state_after given text) ≡ 0 → label_of given labels (state_after given text) ≡ None
  no_label text none = elim (cases_Bool (is_accepting given (state_after given text))) [
    | inl accepts ↦
        absurd (dead_state given labels listed r.is_given r.represented (state_after given text)
        (state_within given labels listed r.is_given r.represented text) none ([], accepts))
    | inr rejects ↦ label_rejecting given labels (state_after given text) rejects
  ]

  pub labels_kept : (text : List ℕ) → label_from given labels given.initial text ≡ label_from table own table.initial text
  labels_kept text =
      let state = state_after given text in
      let class = representative listed state in
      let leads_there = leads_quotient given labels listed r.is_given r.represented text in
      elim (cases_eq class 0) [
        | inl none ↦
            let nowhere = (leads_nowhere r.explored text).1 (leads_there ∙ ap some_state none) in
            no_label text none ∙ sym (ap (label_of table own) nowhere)
        | inr some ↦
            let at = r.explored.leads_there text ∙ leads_there ∙ some_state_is class some in
            r.represented.alike state some [] ∙ sym (label_there (state_after table text) class at)
      ]

  pub same_labels : (labelled made : LabelledAutomaton) → labelled.automaton.table ≡ given → labelled.labels ≡ labels
      → made.automaton.table ≡ table → made.labels ≡ own → SameLabels labelled made
  same_labels labelled made one two three four text =
      ap (λ (t : Table). label_from t labelled.labels t.initial text) one ∙ ap (λ l. label_from given l given.initial text) two
      ∙ labels_kept text ∙ sym (ap (λ l. label_from table l table.initial text) four)
      ∙ sym (ap (λ (t : Table). label_from t made.labels t.initial text) three)

  pub no_more_rows : length table.rows ≤ length given.rows
  no_more_rows = elim (cases_lt (length given.rows) (length table.rows)) [
    | inl more ↦
        absurd (no_more_classes given labels listed r.is_given r.represented (more_than_fewer r.explored (length given.rows) more))
    | inr few ↦ omega arith
  ]

  pub labels_each : length own ≡ length table.rows
  labels_each = length-map states (listed_for labels) ∙ r.explored.one_state_each
