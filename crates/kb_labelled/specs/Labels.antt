-- Automata that give labels to what they accept.
-- Moore, Gedanken-experiments on sequential machines, 1956, for states with outputs.
use Rattle.std.specs.Prelude.{◌≡◌, ℕ, zero, suc, List, get_or, Option, Some, None, if◌then◌else◌}
use Rattle.kb_fsa.specs.Table.{Table, after, is_accepting}
use Rattle.kb_fsa.specs.Language.{Automaton}

-- what the list has for a state, where it says something of states 1, 2, and so on; 0 for what is no state
abbrev pub listed_for : List ℕ → ℕ → ℕ
listed_for labels zero = 0
listed_for labels (suc place) = get_or labels place 0

-- the label of a state that accepts; another has none
abbrev pub label_of : Table → List ℕ → ℕ → Option ℕ
label_of table labels state =
    if is_accepting table state then Some (listed_for labels state) else None

-- the label to which the text leads from a state, if it leads to a state that accepts
abbrev pub label_from : Table → List ℕ → ℕ → List ℕ → Option ℕ
label_from table labels state text = label_of table labels (after table state text)

-- each text leads from both states to one label, or from both to none
abbrev pub AreAlike : Table → List ℕ → ℕ → ℕ → Type 0
AreAlike table labels p q =
    (text : List ℕ) → label_from table labels p text ≡ label_from table labels q text

-- An automaton with a label for each state. Those of states that don't accept count for nothing.
pub record LabelledAutomaton : Type 0 where
  pub automaton : Automaton
  pub labels : List ℕ

-- the label of an accepted text; another has none
abbrev pub label_after : LabelledAutomaton → List ℕ → Option ℕ
label_after labelled text =
    label_from labelled.automaton.table labelled.labels labelled.automaton.table.initial text

-- both give each text one label, or both none
abbrev pub SameLabels : LabelledAutomaton → LabelledAutomaton → Type 0
SameLabels one other = (text : List ℕ) → label_after one text ≡ label_after other text
