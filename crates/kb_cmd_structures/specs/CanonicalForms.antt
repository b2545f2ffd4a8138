-- Canonical forms of automata.
use Rattle.std.specs.Prelude.{◌≡◌, List, [], ◌∷◌}
use Rattle.kb_fsa.specs.Canonical.{IsCanonical}
use Rattle.kb_fsa.specs.Language.{Automaton, IsAutomaton, SameLanguage}

-- the second is the canonical automaton of the first one's language, over the same alphabet
pub record IsCanonicalForm (automaton form : Automaton) : Type 0 where
  pub form_is : IsAutomaton form
  pub canonical : IsCanonical form.table
  pub language : SameLanguage automaton form
  pub alphabet : form.alphabet ≡ automaton.alphabet

-- so it is with each of as many
abbrev pub AreCanonicalForms : List Automaton → List Automaton → Type 0
AreCanonicalForms [] [] = Unit {0}
AreCanonicalForms (automaton ∷ automata) (form ∷ forms) =
    IsCanonicalForm automaton form × AreCanonicalForms automata forms
AreCanonicalForms _ _ = ⊥
