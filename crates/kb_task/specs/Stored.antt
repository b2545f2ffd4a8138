-- Automata that are stored.
use Rattle.std.specs.Prelude.{◌≡◌, ℕ, List}
use Rattle.kb_io.specs.Outside.{Outside, IsUnchanged}
use Rattle.kb_fsa.specs.Language.{Automaton, IsAutomaton, SameLanguage}
use Rattle.kb_fsa.specs.Canonical.{IsCanonical}
use Rattle.kb_fsaprint.specs.Printed.{text_of_automaton}
use Rattle.kb_task.specs.Effects.{Stores, LeavesUnknown}
use Rattle.kb_task.specs.declared.status.Status.{Status}
use Rattle.kb_task.specs.declared.status.Status.TheVariants.{Yes, Memory, Fault}
use Rattle.kb_task.specs.declared.status.Which.TheVariants.{Store}

-- the bytes are the text of the canonical automaton of the language of `made`
pub record IsCanonicalText (names : List (List ℕ)) (made : Automaton)
    (bytes : List ℕ) : Type 0 where
  pub stored : Automaton
  pub automaton : IsAutomaton stored
  pub alphabet : stored.alphabet ≡ made.alphabet
  pub language : SameLanguage made stored
  pub canonical : IsCanonical stored.table
  pub text : bytes ≡ text_of_automaton names stored

-- what each status of the store of a canonical automaton means
abbrev pub StoreMeans : List (List ℕ) → Automaton → List ℕ → Outside → Outside → Status → Type 0
StoreMeans names made out before after Yes =
    (bytes : List ℕ) × IsCanonicalText names made bytes × Stores out bytes before after
StoreMeans names made out before after (Fault (Store name)) =
    (name ≡ out) × LeavesUnknown out before after
StoreMeans names made out before after Memory = IsUnchanged before after
StoreMeans names made out before after _ = ⊥
