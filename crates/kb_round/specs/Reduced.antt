-- Canonical automata of the texts that have labels.
use Rattle.std.specs.Prelude.{◌≡◌, ◌↔◌, ℕ, List, length, get_or, slice_get, Some}
use Rattle.kb_fsa.specs.Canonical.{IsCanonical}
use Rattle.kb_fsa.specs.Language.{AcceptsText, Automaton}
use Rattle.kb_labelled.specs.Labels.{LabelledAutomaton, label_after}

-- the canonical automaton of the texts that have the label
pub record IsCanonicalForm (labelled : LabelledAutomaton) (label : ℕ)
    (form : Automaton) : Type 0 where
  pub alphabet : form.alphabet ≡ labelled.automaton.alphabet
  pub language : (text : List ℕ) → AcceptsText form text ↔ (label_after labelled text ≡ Some label)
  pub canonical : IsCanonical form.table

-- the automata are those of the first labels of the list, so many
pub record AreCanonicalForms (labelled : LabelledAutomaton) (labels : List ℕ) (done : ℕ)
    (forms : List Automaton) : Type 0 where
  pub count : length forms ≡ done
  pub each : (index : ℕ) (form : Automaton) → slice_get forms index ≡ Some form
      → IsCanonicalForm labelled (get_or labels index 0) form
