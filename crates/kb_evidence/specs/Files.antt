-- The files that belong to a presentation's file, and those that show a limit of its completion.
use Rattle.std.specs.Prelude.{ℕ, List, [], ◌∷◌, ◌++◌, codes, decimal, Bool, true, false, Option, Some, None}
use Rattle.kb_word.specs.Words.{Pair}
use Rattle.kb_word.specs.Presentations.{PresentationParts}
use Rattle.kb_machine.specs.declared.line.Line.{Line}
use Rattle.kb_presprint.specs.Printed.{text_of_presentation}
use Rattle.kb_proof.specs.Printed.{header, text_of_body}
use Rattle.kb_proof.specs.declared.log.Version.TheVariants.{Two}
use Rattle.kb_system.specs.declared.ending.Reached.{Reached}
use Rattle.kb_system.specs.declared.ending.Reached.TheVariants.{Lines, Letters}
use Rattle.kb_task.specs.Stores.{Text}
use Rattle.kb_task.specs.declared.status.Limit.{Limit}
use Rattle.kb_task.specs.declared.status.Limit.TheVariants.{Rules, Length}

-- the files of rules, of the word acceptor and of the log
abbrev pub rules_file : List ℕ → List ℕ
rules_file file = file ++ codes ".kbprog"

abbrev pub acceptor_file : List ℕ → List ℕ
acceptor_file file = file ++ codes ".wa"

abbrev pub log_file : List ℕ → List ℕ
log_file file = file ++ codes ".kblog"

-- the file of the word differences
abbrev pub difference_file : List ℕ → List ℕ
difference_file file = file ++ codes ".diff"

-- the file of the multiplier of a generator, by its number
abbrev pub multiplier_file : List ℕ → ℕ → List ℕ
multiplier_file file generator = file ++ (codes ".m" ++ decimal generator)

-- the files of the left sides and of the rules of the reduced complete system, as automata
abbrev pub minred_file : List ℕ → List ℕ
minred_file file = file ++ codes ".minred"

abbrev pub minkb_file : List ℕ → List ℕ
minkb_file file = file ++ codes ".minkb"

-- a log of version 2 with these lines and the one that waits, as it is printed
abbrev pub log_text : List (List ℕ) → List Line → Option Line → List ℕ
log_text names lines waiting = header Two ++ text_of_body Two names lines waiting

-- the text of a log, and rules, as files
abbrev pub evidence_texts : List ℕ → PresentationParts → List ℕ → List Pair → Bool → List Text
evidence_texts file parts log rules confluent =
    record { name = log_file file; bytes = log }
    ∷ record { name = rules_file file; bytes = text_of_presentation parts rules confluent } ∷ []

-- the files of a completion that halted
abbrev pub halted_texts : List ℕ → PresentationParts → List Line → Line → List Pair → List Text
halted_texts file parts lines waiting rules =
    evidence_texts file parts (log_text parts.names lines (Some waiting)) rules false

-- the files of a completion whose word acceptor would be too large
abbrev pub too_large_texts : List ℕ → PresentationParts → List Line → List Pair → List Text
too_large_texts file parts lines rules =
    evidence_texts file parts (log_text parts.names lines None) rules true

-- what the limit of a log is called
abbrev pub limit_of : Reached → Limit
limit_of Lines = Rules
limit_of Letters = Length
