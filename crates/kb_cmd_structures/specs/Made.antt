-- The files of a group's automatic structure.
use Rattle.std.specs.Prelude.{◌≡◌, ℕ, suc, All, List, [], ◌∷◌}
use Rattle.kb_word.specs.Presentations.{PresentationParts, parts_of}
use Rattle.kb_word.specs.declared.presentation.Presentation.{Presentation}
use Rattle.kb_fsa.specs.Language.{Automaton, IsAutomaton}
use Rattle.kb_fsaprint.specs.Printed.{text_of_automaton}
use Rattle.kb_round.specs.Rounds.{IsOwnStructure}
use Rattle.kb_task.specs.Stores.{Text}
use Rattle.kb_evidence.specs.Files.{acceptor_file, multiplier_file}

-- the files of multipliers, from that of the generator of this number on
abbrev pub multiplier_texts : List ℕ → List (List ℕ) → ℕ → List Automaton → List Text
multiplier_texts file names x [] = []
multiplier_texts file names x (multiplier ∷ multipliers) =
    record { name = multiplier_file file x; bytes = text_of_automaton names multiplier }
    ∷ multiplier_texts file names (suc x) multipliers

-- the files of a word acceptor and of multipliers
abbrev pub structure_texts : List ℕ → List (List ℕ) → Automaton → List Automaton → List Text
structure_texts file names acceptor multipliers =
    record { name = acceptor_file file; bytes = text_of_automaton names acceptor }
    ∷ multiplier_texts file names 1 multipliers

-- these are the files of the automatic structure of the group that is presented
pub record AreMade (file : List ℕ) (parts : PresentationParts) (texts : List Text) : Type 0 where
  pub presentation : Presentation
  pub presented : parts_of presentation ≡ parts
  pub limit : ℕ
  pub acceptor : Automaton
  pub multipliers : List Automaton
  pub own : IsOwnStructure presentation limit acceptor multipliers
  pub acceptor_is : IsAutomaton acceptor
  pub multipliers_are : All IsAutomaton multipliers
  pub are : texts ≡ structure_texts file parts.names acceptor multipliers
