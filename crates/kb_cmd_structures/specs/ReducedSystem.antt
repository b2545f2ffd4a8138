-- The reduced complete system of a group as two automata, and the files of these.
use Rattle.std.specs.Prelude.{◌≡◌, ◌↔◌, ℕ, List, [], ◌∷◌}
use Rattle.kb_word.specs.Words.{Pair as Sides}
use Rattle.kb_word.specs.WordOrders.{Below}
use Rattle.kb_word.specs.Relations.{IsOver, relations_of}
use Rattle.kb_word.specs.declared.presentation.Presentation.{Presentation}
use Rattle.kb_word.specs.declared.word_order.WordOrder.TheVariants.{ShortLex}
use Rattle.kb_fsa.specs.Canonical.{IsCanonical}
use Rattle.kb_fsa.specs.Language.{Automaton, Accepts, AcceptsPair, IsAutomaton}
use Rattle.kb_fsa.specs.declared.alphabet.Alphabet.TheVariants.{Plain, Pair}
use Rattle.kb_fsaprint.specs.Printed.{text_of_automaton}
use Rattle.kb_reduced.specs.Reduced.{IsReducedRule}
use Rattle.kb_task.specs.Stores.{Text}
use Rattle.kb_evidence.specs.Files.{minred_file, minkb_file}

-- The first automaton accepts exactly the left sides of the reduced complete system, by shortlex, of the congruence
-- that the relations generate over n generators; the second exactly the pairs that are its rules. Both are canonical.
-- There may be infinitely many rules.
pub record IsReducedSystem (n : ℕ) (relations : List Sides) (minred minkb : Automaton) : Type 0 where
  pub left_sides : (w : List ℕ) → Accepts minred w
      ↔ ((right : List ℕ) × IsReducedRule (Below ShortLex) relations (w, right))
  pub rules : (left right : List ℕ) → IsOver n left → IsOver n right
      → AcceptsPair minkb left right ↔ IsReducedRule (Below ShortLex) relations (left, right)
  pub minred_is_canonical : IsCanonical minred.table
  pub minkb_is_canonical : IsCanonical minkb.table
  pub words : minred.alphabet ≡ Plain n
  pub pairs : minkb.alphabet ≡ Pair n
  pub minred_is : IsAutomaton minred
  pub minkb_is : IsAutomaton minkb

-- the automata are the reduced complete system of the group that is presented
abbrev pub IsSystemOf : Presentation → Automaton → Automaton → Type 0
IsSystemOf presentation =
    IsReducedSystem presentation.n (relations_of presentation.inv presentation.eqs)

-- the files of the automata
abbrev pub system_texts : List ℕ → List (List ℕ) → Automaton → Automaton → List Text
system_texts file names minred minkb =
    record { name = minred_file file; bytes = text_of_automaton names minred }
    ∷ record { name = minkb_file file; bytes = text_of_automaton names minkb } ∷ []
