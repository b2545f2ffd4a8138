-- What the statuses of a run mean that stores the rules of marked cosets and answers word lines with least words of
-- cosets.
use Rattle.std.specs.Prelude.{◌≡◌, ℕ, ◌⊎◌, List, [], ◌∷◌, ◌++◌, length, codes, true}
use Rattle.kb_io.specs.Outside.{Outside, IsUnchanged}
use Rattle.kb_word.specs.Words.{Pair}
use Rattle.kb_word.specs.Presentations.{PresentationParts}
use Rattle.kb_coset.specs.Marked.{marked_parts}
use Rattle.kb_coset.specs.CosetWords.{Cosets, IsLeastOf}
use Rattle.kb_lines.specs.Answered.{AllAnswered, Stops}
use Rattle.kb_lines.specs.declared.stop.Stop.{Stop}
use Rattle.kb_lines.specs.declared.stop.Stop.TheVariants as stops
use Rattle.kb_presprint.specs.Printed.{text_of_presentation}
use Rattle.kb_system.specs.Completed.{IsReducedSystem}
use Rattle.kb_evidence.specs.Files.{rules_file}
use Rattle.kb_answering.specs.Answers.{streams_of}
use Rattle.kb_task.specs.Stores.{Text, HoldsTexts, StoresFirst, StopsAtText}
use Rattle.kb_task.specs.declared.status.Refusal.TheVariants.{Line as RefusedLine, InputTooLong}
use Rattle.kb_task.specs.declared.status.Status.{Status}
use Rattle.kb_task.specs.declared.status.Status.TheVariants.{Yes, Refused, Memory, Fault}
use Rattle.kb_task.specs.declared.status.Which.TheVariants.{Store, Input, Output}

-- the file of a subgroup's generators stands beside that of the presentation
abbrev pub subgroup_file : List ℕ → List ℕ
subgroup_file file = file ++ codes ".sub"

-- the presentation that marks the cosets
abbrev pub marked_of : Cosets → PresentationParts
marked_of cosets = marked_parts (length cosets.parts.names) cosets.generators cosets.parts

-- the file of a presentation's confluent rules
abbrev pub texts_of_rules : List ℕ → PresentationParts → List Pair → List Text
texts_of_rules file parts rules =
    record { name = rules_file file; bytes = text_of_presentation parts rules true } ∷ []

-- that of the marked presentation's
abbrev pub coset_texts : List ℕ → Cosets → List Pair → List Text
coset_texts file cosets rules = texts_of_rules (subgroup_file file) (marked_of cosets) rules

-- this is the file of the reduced complete system of the marked presentation
pub record AreCosetTexts (file : List ℕ) (cosets : Cosets) (texts : List Text) : Type 0 where
  pub rules : List Pair
  pub reduced : IsReducedSystem (marked_of cosets) rules
  pub are : texts ≡ coset_texts file cosets rules

-- the rules were stored, whole
abbrev pub HasStoredRules : List ℕ → Cosets → Outside → Outside → Type 0
HasStoredRules file cosets before after =
    (texts : List Text) × AreCosetTexts file cosets texts
    × HoldsTexts texts before.shelf after.shelf

-- the same, and the answers to the word lines stopped so
abbrev pub CosetLinesStop : List ℕ → Cosets → Outside → Outside → Stop → Type 0
CosetLinesStop file cosets before after stop =
    HasStoredRules file cosets before after
    × Stops cosets.parts (IsLeastOf cosets) (streams_of before) (streams_of after) stop

-- what each status of a run that answers the word lines means
abbrev pub CosetLinesMean : Cosets → Outside → Outside → Status → Type 0
CosetLinesMean cosets before after Yes =
    AllAnswered cosets.parts (IsLeastOf cosets) (streams_of before) (streams_of after)
CosetLinesMean cosets before after (Refused (RefusedLine number fault)) =
    Stops cosets.parts (IsLeastOf cosets) (streams_of before) (streams_of after)
    (stops.Refused number fault)
CosetLinesMean cosets before after (Refused InputTooLong) =
    Stops cosets.parts (IsLeastOf cosets) (streams_of before) (streams_of after) stops.TooLong
CosetLinesMean cosets before after (Fault Input) =
    Stops cosets.parts (IsLeastOf cosets) (streams_of before) (streams_of after) stops.Input
CosetLinesMean cosets before after (Fault Output) =
    Stops cosets.parts (IsLeastOf cosets) (streams_of before) (streams_of after) stops.Output
CosetLinesMean cosets before after Memory =
    Stops cosets.parts (IsLeastOf cosets) (streams_of before) (streams_of after) stops.Memory
CosetLinesMean cosets before after _ = ⊥

-- What each status means where the marked presentation was completed: the rules were stored, and each word line was
-- answered with the least word of its right coset.
abbrev pub CosetsMean : List ℕ → Cosets → Outside → Outside → Status → Type 0
CosetsMean file cosets before after Yes =
    HasStoredRules file cosets before after
    × AllAnswered cosets.parts (IsLeastOf cosets) (streams_of before) (streams_of after)
CosetsMean file cosets before after (Refused (RefusedLine number fault)) =
    CosetLinesStop file cosets before after (stops.Refused number fault)
CosetsMean file cosets before after (Refused InputTooLong) =
    CosetLinesStop file cosets before after stops.TooLong
CosetsMean file cosets before after (Fault Input) =
    CosetLinesStop file cosets before after stops.Input
CosetsMean file cosets before after (Fault Output) =
    CosetLinesStop file cosets before after stops.Output
CosetsMean file cosets before after (Fault (Store name)) =
    (texts : List Text) × AreCosetTexts file cosets texts × StopsAtText texts name before after
CosetsMean file cosets before after Memory =
    IsUnchanged before after
    ⊎ (((texts : List Text) × AreCosetTexts file cosets texts × StoresFirst texts before after)
    ⊎ CosetLinesStop file cosets before after stops.Memory)
CosetsMean file cosets before after _ = ⊥
