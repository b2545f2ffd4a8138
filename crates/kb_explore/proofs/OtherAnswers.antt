-- Machines that differ at most in which states accept: one exploration serves both.
use Rattle.std.proofs.Common.{◌≡◌, ℕ, zero, suc, Bool, false, List, [], ◌∷◌, length, map, Option, Some, None, refl, sym, ap, ◌∙◌}
use Rattle.std.proofs.lemmas.List.{get_or-map, length-map}
use Rattle.std.proofs.lemmas.Option.{get_or_from_slice_get, slice_get_within}
use Rattle.kb_fsa.specs.Table.{Table, IsTable, Moves, after, step}
use Rattle.kb_fsa.specs.Canonical.{IsLeastText}
use Rattle.kb_explore.specs.Machine.{Machine, AreAlike, lead}
use Rattle.kb_explore.specs.Exploration.{IsExploration, numbered}

-- ---- tables that differ in which states accept

-- the table with these answers
abbrev pub answering : Table → List Bool → Table
answering table answers = record { initial = table.initial; rows = table.rows; accepting = answers }

answering_table : (table : Table) (answers : List Bool) → IsTable table → length answers ≡ length table.rows → IsTable (answering table answers)
answering_table table answers is one_each = record {
  one_answer_each = one_each;
  size = is.size;
  initial = is.initial;
  rows = is.rows;
  targets = is.targets;
}

pub answering_same : (table : Table) (answers accepting : List Bool) (initial : ℕ) (rows : List Moves) → initial ≡ table.initial → rows ≡ table.rows
    → accepting ≡ answers → record { initial = initial; rows = rows; accepting = accepting } ≡ answering table answers
answering_same table answers accepting initial rows one two three =
    ap (λ z. record { initial = z; rows = rows; accepting = accepting }) one
    ∙ ap (λ z. record { initial = table.initial; rows = z; accepting = accepting }) two ∙ ap (λ z. answering table z) three

module _ (table : Table) (answers : List Bool) where
  step_same : (state symbol : ℕ) → step (answering table answers) state symbol ≡ step table state symbol
  step_same zero symbol = refl
  step_same (suc place) symbol = refl

  after_same : (state : ℕ) (text : List ℕ) → after (answering table answers) state text ≡ after table state text
  after_same state [] = refl
  after_same state (symbol ∷ text) =
      ap (λ s. after (answering table answers) s text) (step_same state symbol) ∙ after_same (step table state symbol) text

  least_same : (state : ℕ) (text : List ℕ) → IsLeastText table state text → IsLeastText (answering table answers) state text
  least_same state text is = record {
    leads = after_same table.initial text ∙ is.leads;
    least = λ other there. is.least other (sym (after_same table.initial other) ∙ there);
  }

-- ---- machines that are alike

module _ {S : Type 0} {machine other : Machine S} (alike : AreAlike machine other) where
  lead_same : (from : Option S) (text : List ℕ) → lead other from text ≡ lead machine from text
  lead_same None [] = refl
  lead_same None (symbol ∷ text) = refl
  lead_same (Some state) [] = refl
  lead_same (Some state) (symbol ∷ text) =
      sym (ap (λ next. lead other next text) (alike.follow state symbol)) ∙ lead_same (machine.follow state symbol) text

  module _ {table : Table} {states : List S} {origins : List (ℕ × ℕ)} (explored : IsExploration other table states origins) where
    pub answered_table : IsTable (answering table (map machine.accepts states))
    answered_table =
        answering_table table (map machine.accepts states) explored.is_table (length-map states machine.accepts ∙ explored.one_state_each)

    pub answered : IsExploration machine (answering table (map machine.accepts states)) states origins
    answered = record {
      is_table = answered_table;
      one_state_each = explored.one_state_each;
      leads_there = λ text.
          ap (numbered states) (after_same table (map machine.accepts states) table.initial text) ∙ explored.leads_there text
          ∙ sym (ap (λ from. lead other from text) alike.start) ∙ lead_same machine.start text;
      accepts = λ place state at.
          get_or-map machine.accepts states place state false (slice_get_within states place state at)
          ∙ ap machine.accepts (get_or_from_slice_get states place state state at);
      distinct = explored.distinct;
      words = explored.words;
      one_word_each = explored.one_word_each;
      least = λ state word at. least_same table (map machine.accepts states) state word (explored.least state word at);
      traced = explored.traced;
      from_earlier = explored.from_earlier;
      ascending = explored.ascending;
    }
