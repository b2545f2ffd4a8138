-- The texts of one label.
use Rattle.std.proofs.Common.{◌≡◌, ◌↔◌, ◌<◌, ◌&&◌, ℕ, zero, suc, ◌+◌, ◌++◌, Bool, false, nat_eq, IsTrue, List, [], ◌∷◌, length, get_or, Some, refl, sym, ap, ◌∙◌, subst, inl, inr, arith}
use Rattle.std.proofs.lemmas.Bool.{and_from, and_parts, cases_eq, cases_lt, eq-eqb, eqb-true, false≢true}
use Rattle.std.proofs.lemmas.List.{get_or_append_left, get_or_past, get_or_push, length_push}
use Rattle.kb_fsa.specs.Table.{Moves, Table, IsTable, after, is_accepting, step, state_after}
use Rattle.kb_fsa.specs.Language.{AcceptsText, Automaton, IsAutomaton}
use Rattle.kb_fsa.specs.declared.alphabet.Alphabet.{Alphabet}
use Rattle.kb_labelled.specs.Labels.{LabelledAutomaton, label_after, label_of}
use Rattle.kb_labelled.proofs.Likeness.{accepting_from_label, label_accepting}

-- the table with other answers
abbrev pub answering : Table → List Bool → Table
answering table answers = record { initial = table.initial; rows = table.rows; accepting = answers }

module _ (table : Table) (answers : List Bool) where
  step_same : (state symbol : ℕ) → step (answering table answers) state symbol ≡ step table state symbol
  step_same zero symbol = refl
  step_same (suc place) symbol = refl

  pub after_same : (state : ℕ) (text : List ℕ) → after (answering table answers) state text ≡ after table state text
  after_same state [] = refl
  after_same state (symbol ∷ text) =
      ap (λ s. after (answering table answers) s text) (step_same state symbol) ∙ after_same (step table state symbol) text

-- the first answers for one label, so many
pub record AreAnswersTo (accepting : List Bool) (labels : List ℕ) (label done : ℕ) (answers : List Bool) : Type 0 where
  pub count : length answers ≡ done
  pub are : (place : ℕ) → place < done → get_or answers place false ≡ (get_or accepting place false && nat_eq (get_or labels place 0) label)

pub no_answers : (accepting : List Bool) (labels : List ℕ) (label : ℕ) → AreAnswersTo accepting labels label 0 []
no_answers accepting labels label = record { count = refl; are = λ place h. absurd (let no : ⊥ = omega arith in no) }

pub answers_more : (accepting : List Bool) (labels : List ℕ) (label done : ℕ) (answers : List Bool) (answer : Bool)
    → answer ≡ (get_or accepting done false && nat_eq (get_or labels done 0) label) → AreAnswersTo accepting labels label done answers
    → AreAnswersTo accepting labels label (done + 1) (answers ++ answer ∷ [])
answers_more accepting labels label done answers answer is are = record {
  count = length_push answers answer ∙ ap (λ n. n + 1) are.count;
  are = λ place h. elim (cases_eq place done) [
    | inl here ↦
        let newest = get_or_push answers answer false done are.count in
        let P : ℕ → Type 0 = λ p. get_or (answers ++ answer ∷ []) p false ≡ (get_or accepting p false && nat_eq (get_or labels p 0) label) in
        subst P (sym here) (newest ∙ is)
    | inr before ↦ get_or_append_left answers (answer ∷ []) false place (omega (arith, are.count)) ∙ are.are place (omega arith)
  ];
}

-- what is known of the answers for one label
pub record AreAnswersFor (automaton : Automaton) (labels : List ℕ) (label : ℕ) (answers : List Bool) : Type 0 where
  pub is_automaton : IsAutomaton automaton
  pub labels_each : length labels ≡ length automaton.table.rows
  pub one_each : length answers ≡ length automaton.table.accepting
  pub each : (place : ℕ) → place < length automaton.table.accepting → get_or answers place false
      ≡ (get_or automaton.table.accepting place false && nat_eq (get_or labels place 0) label)

-- the same of copies of the lists
pub answers_from : (automaton : Automaton) (labels others : List ℕ) (label : ℕ) (answers accepting : List Bool) → IsAutomaton automaton
    → length labels ≡ length automaton.table.rows → accepting ≡ automaton.table.accepting → others ≡ labels → length answers ≡ length accepting
    → ((place : ℕ) → place < length accepting → get_or answers place false ≡ (get_or accepting place false && nat_eq (get_or others place 0) label))
    → AreAnswersFor automaton labels label answers
answers_from automaton labels others label answers accepting is labels_each same also one_each each =
    let P : List Bool → Type 0 = λ list. length answers ≡ length list in
    let Q : List Bool → Type 0 = λ list. (place : ℕ) → place < length list
    → get_or answers place false ≡ (get_or list place false && nat_eq (get_or others place 0) label) in
    let R : List ℕ → Type 0 = λ list. (place : ℕ) → place < length automaton.table.accepting
    → get_or answers place false ≡ (get_or automaton.table.accepting place false && nat_eq (get_or list place 0) label) in
    record { is_automaton = is; labels_each = labels_each; one_each = subst P same one_each; each = subst R also (subst Q same each) }

pub same_table : (table : Table) (answers : List Bool) (initial : ℕ) (rows : List Moves) → initial ≡ table.initial → rows ≡ table.rows
    → record { initial = initial; rows = rows; accepting = answers } ≡ answering table answers
same_table table answers initial rows one two =
    ap (λ i. record { initial = i; rows = rows; accepting = answers }) one
    ∙ ap (λ r. record { initial = table.initial; rows = r; accepting = answers }) two

module _ {automaton : Automaton} {labels : List ℕ} {label : ℕ} {answers : List Bool} (are : AreAnswersFor automaton labels label answers) where
  abbrev pub made : Table
  made = answering automaton.table answers

  pub made_table : IsTable made
  made_table =
      let is = are.is_automaton.table in record {
        one_answer_each = are.one_each ∙ is.one_answer_each;
        size = is.size;
        initial = is.initial;
        rows = is.rows;
        targets = is.targets;
      }

  pub made_automaton : IsAutomaton (record { alphabet = automaton.alphabet; table = made })
  made_automaton =
      let is = are.is_automaton in record {
        generators = is.generators;
        table = made_table;
        symbols = is.symbols;
        texts = λ text some. is.texts text (λ none. some (after_same automaton.table answers automaton.table.initial text ∙ none));
      }

  -- a state accepts by the label where it has the label
  pub accepts_by : (state : ℕ) → IsTrue (is_accepting made state) ↔ (label_of automaton.table labels state ≡ Some label)
  accepts_by zero = (λ accepts. absurd (false≢true accepts), λ is. absurd (let at = accepting_from_label automaton.table labels 0 label is in false≢true at.0))
  accepts_by (suc place) = elim (cases_lt place (length automaton.table.accepting)) [
    | inl within ↦
        let is = are.each place within in
        let accepts = get_or automaton.table.accepting place false in
        let same = nat_eq (get_or labels place 0) label in (
          λ yes.
              let parts = and_parts accepts same (sym is ∙ yes) in
              label_accepting automaton.table labels (suc place) parts.0 ∙ ap (λ (l : ℕ). Some l) (eqb-true (get_or labels place 0) label parts.1),
          λ has.
              let parts = accepting_from_label automaton.table labels (suc place) label has in
              is ∙ and_from accepts same parts.0 (eq-eqb (get_or labels place 0) label parts.1),
        )
    | inr past ↦
        let none = get_or_past answers place false (omega (arith, are.one_each)) in
        let also = get_or_past automaton.table.accepting place false past in (
          λ yes. absurd (false≢true (sym none ∙ yes)),
          λ has. absurd (false≢true (sym also ∙ (accepting_from_label automaton.table labels (suc place) label has).0)),
        )
  ]

  pub texts_by : (text : List ℕ) → AcceptsText (record { alphabet = automaton.alphabet; table = made }) text
      ↔ (label_after (record { automaton = automaton; labels = labels }) text ≡ Some label)
  texts_by text =
      let same = after_same automaton.table answers automaton.table.initial text in
      let P : ℕ → Type 0 = λ s. IsTrue (is_accepting made s) in
      let means = accepts_by (state_after automaton.table text) in
      (λ accepts. means.0 (subst P same accepts), λ has. subst P (sym same) (means.1 has))

  -- the same of a copy of the table and of the labelled automaton
  pub automaton_from : (alphabet : Alphabet) (own : Table) → alphabet ≡ automaton.alphabet → own ≡ made
      → IsAutomaton (record { alphabet = alphabet; table = own })
  automaton_from alphabet own same also =
      let P : Alphabet → Type 0 = λ a. IsAutomaton (record { alphabet = a; table = own }) in
      let Q : Table → Type 0 = λ t. IsAutomaton (record { alphabet = automaton.alphabet; table = t }) in
      subst P (sym same) (subst Q (sym also) made_automaton)

  pub texts_from : (labelled : LabelledAutomaton) (own : Table) (fsa : Automaton) → labelled ≡ record { automaton = automaton; labels = labels }
      → own ≡ made → fsa.table ≡ own → (text : List ℕ) → AcceptsText fsa text ↔ (label_after labelled text ≡ Some label)
  texts_from labelled own fsa is same also text =
      let P : LabelledAutomaton → Type 0 = λ it. AcceptsText fsa text ↔ (label_after it text ≡ Some label) in
      let Q : Table → Type 0 = λ t.
      IsTrue (is_accepting t (after t t.initial text)) ↔ (label_after (record { automaton = automaton; labels = labels }) text ≡ Some label) in
      subst P (sym is) (subst Q (sym (also ∙ same)) (texts_by text))
