-- The files of a completed presentation with the log that certifies it.
use Rattle.std.specs.Prelude.{◌≡◌, ℕ, List, [], ◌∷◌, ◌++◌, true, None}
use Rattle.kb_word.specs.Words.{Pair}
use Rattle.kb_word.specs.Presentations.{PresentationParts}
use Rattle.kb_fsa.specs.Language.{Automaton}
use Rattle.kb_fsaprint.specs.Printed.{text_of_automaton}
use Rattle.kb_machine.specs.declared.line.Line.{Line}
use Rattle.kb_system.specs.Ended.{IsCompletionWithin}
use Rattle.kb_system.specs.Evidence.{Limits}
use Rattle.kb_system.specs.Logged.{IsCertificate}
use Rattle.kb_task.specs.Stores.{Text}
use Rattle.kb_evidence.specs.Files.{acceptor_file, evidence_texts, log_text}

-- the word acceptor as a file
abbrev pub acceptor_text : List ℕ → PresentationParts → Automaton → Text
acceptor_text file parts acceptor =
    record { name = acceptor_file file; bytes = text_of_automaton parts.names acceptor }

-- the log, with derivations and nothing open, the rules, and one file more
abbrev pub certified_texts : List ℕ → PresentationParts → List Line → List Pair → Text → List Text
certified_texts file parts lines rules last =
    evidence_texts file parts (log_text parts.names lines None) rules true ++ last ∷ []

-- These are the files of the presentation, which was completed within the limits: its log, whose lines certify the
-- congruence, its reduced complete system and its word acceptor.
pub record AreCertified (limits : Limits) (file : List ℕ) (parts : PresentationParts)
    (texts : List Text) : Type 0 where
  pub lines : List Line
  pub rules : List Pair
  pub acceptor : Automaton
  pub certificate : IsCertificate parts lines
  pub completion : IsCompletionWithin limits parts rules acceptor
  pub are : texts ≡ certified_texts file parts lines rules (acceptor_text file parts acceptor)
