-- The files and the line that show a limit at which the search for a group's automatic structure ended.
use Rattle.std.specs.Prelude.{◌≡◌, ℕ, Bool, true, false, List, [], ◌∷◌, ◌++◌, Option, Some, None, codes}
use Rattle.kb_io.specs.Bytes.{newline}
use Rattle.kb_word.specs.Words.{Pair}
use Rattle.kb_word.specs.Presentations.{PresentationParts, parts_of}
use Rattle.kb_word.specs.declared.presentation.Presentation.{Presentation}
use Rattle.kb_cmd_structures.specs.Printed.{text_of_differences, text_of_seen}
use Rattle.kb_kept.specs.declared.listing.Listing.{Listing}
use Rattle.kb_kept.specs.declared.equality.Equality.{Equality}
use Rattle.kb_kept.specs.declared.seen.Seen.{Seen}
use Rattle.kb_machine.specs.declared.line.Line.{Line}
use Rattle.kb_round.specs.declared.answers.Construction.{Construction as Counted}
use Rattle.kb_round.specs.declared.answers.Construction.TheVariants as counted
use Rattle.kb_system.specs.Ended.{ShowsHalt}
use Rattle.kb_system.specs.declared.ending.Halted.{Halted}
use Rattle.kb_auto.specs.Autgroup.{AreRulesOfLog, IsShort, IsTooLarge, IsTriedAtHalt, tried_by}
use Rattle.kb_task.specs.Limits.{undecided_line, undecided_words_line}
use Rattle.kb_task.specs.Stores.{Text}
use Rattle.kb_task.specs.declared.status.Construction.{Construction}
use Rattle.kb_task.specs.declared.status.Construction.TheVariants.{Acceptor, Multiplier}
use Rattle.kb_task.specs.declared.status.Limit.{Limit}
use Rattle.kb_task.specs.declared.status.Limit.TheVariants.{Diffs, States}
use Rattle.kb_evidence.specs.Files.{difference_file, evidence_texts, halted_texts, limit_of, log_text}
use Rattle.kb_cmd_structures.specs.Given.{AutgroupGiven}
use Rattle.kb_cmd_structures.specs.Gpaxioms.{construction_of}

-- What is called after the count that was above the limit. All multipliers count alike, so the first is named.
abbrev pub counted_of : Counted → Construction
counted_of counted.Acceptor = Acceptor
counted_of counted.Multipliers = Multiplier 1
counted_of (counted.Check which) = construction_of which

-- the file of differences
abbrev pub difference_text : List ℕ → List (List ℕ) → Listing → Bool → Text
difference_text file names listing with_needed = record {
  name = difference_file file;
  bytes = text_of_differences names listing with_needed;
}

-- a difference where it was first seen, if there is one
abbrev pub needed_text : List (List ℕ) → List Equality → Option Seen → List ℕ
needed_text names equalities None = []
needed_text names equalities (Some needed) = text_of_seen names equalities needed

-- the line of a difference for which there was no room
abbrev pub needed_line : List (List ℕ) → Listing → List ℕ
needed_line names listing =
    codes "undecided diffs "
    ++ (needed_text names listing.equalities.items listing.needed ++ newline ∷ [])

-- a log that didn't halt, rules, and differences, as files
abbrev pub tried_texts : List ℕ → PresentationParts → List Line → List Pair → Bool → Text
    → List Text
tried_texts file parts lines rules confluent differences =
    evidence_texts file parts (log_text parts.names lines None) rules confluent
    ++ differences ∷ []

-- The files that show that the search reached the limit, and the line that says so. The completion reached a limit of
-- its log; or as many word differences are kept as may be, and another one is needed; or automata by the reduced
-- complete system count too many states.
pub data ShowsLimit (given : AutgroupGiven) (parts : PresentationParts) : Limit → List Text
    → List ℕ → Type 0 where
  halted : {presentation : Presentation} (halted : Halted) {listing : Listing}
      → parts_of presentation ≡ parts → ShowsHalt given.limits parts halted
      → IsTriedAtHalt (tried_by given.limits given.most presentation halted.rules.rules) listing
      → ShowsLimit given parts (limit_of halted.reached)
      (halted_texts given.file parts halted.lines.items halted.waiting halted.rules.rules
      ++ difference_text given.file parts.names listing false ∷ [])
      (undecided_words_line parts.names (limit_of halted.reached) halted.waiting.left
      halted.waiting.right)
  differences : {presentation : Presentation} {lines : List Line} {rules : List Pair}
      {confluent : Bool} {listing : Listing}
      → parts_of presentation ≡ parts → AreRulesOfLog parts lines rules confluent
      → IsShort (tried_by given.limits given.most presentation rules) listing
      → ShowsLimit given parts Diffs
      (tried_texts given.file parts lines rules confluent
      (difference_text given.file parts.names listing true))
      (needed_line parts.names listing)
  states : {presentation : Presentation} {lines : List Line} {rules : List Pair}
      {listing : Listing} {which : Counted}
      → parts_of presentation ≡ parts → AreRulesOfLog parts lines rules true
      → IsTooLarge (tried_by given.limits given.most presentation rules) listing which
      → ShowsLimit given parts (States (counted_of which))
      (tried_texts given.file parts lines rules true
      (difference_text given.file parts.names listing false))
      (undecided_line parts.names (States (counted_of which)))
