-- The files of a completed presentation.
use Rattle.std.specs.Prelude.{◌≡◌, ℕ, List, [], ◌∷◌, true}
use Rattle.kb_word.specs.Words.{Pair}
use Rattle.kb_word.specs.Presentations.{PresentationParts}
use Rattle.kb_fsa.specs.Language.{Automaton}
use Rattle.kb_fsaprint.specs.Printed.{text_of_automaton}
use Rattle.kb_presprint.specs.Printed.{text_of_presentation}
use Rattle.kb_system.specs.Ended.{IsCompletionWithin}
use Rattle.kb_system.specs.Evidence.{Limits}
use Rattle.kb_task.specs.Stores.{Text}
use Rattle.kb_evidence.specs.Files.{rules_file, acceptor_file}

-- the files of a completed presentation
abbrev pub completed_texts : List ℕ → PresentationParts → List Pair → Automaton → List Text
completed_texts file parts rules acceptor =
    record { name = rules_file file; bytes = text_of_presentation parts rules true }
    ∷ record { name = acceptor_file file; bytes = text_of_automaton parts.names acceptor } ∷ []

-- these are the files of the presentation, which was completed within the limits
pub record AreCompleted (limits : Limits) (file : List ℕ) (parts : PresentationParts)
    (texts : List Text) : Type 0 where
  pub rules : List Pair
  pub acceptor : Automaton
  pub completion : IsCompletionWithin limits parts rules acceptor
  pub are : texts ≡ completed_texts file parts rules acceptor
