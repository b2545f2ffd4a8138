-- What a run of `kbcos` means by its status.
use Rattle.std.specs.Prelude.{◌≡◌, ◌≢◌, ℕ, ◌≤◌, ◌⊎◌, List, length}
use Rattle.kb_io.specs.Outside.{Outside, IsUnchanged}
use Rattle.kb_word.specs.Presentations.{PresentationParts}
use Rattle.kb_coset.specs.CosetWords.{Cosets, IsLeastOf}
use Rattle.kb_record.specs.declared.error.WordError.{WordError}
use Rattle.kb_lines.specs.WordLines.{most_input, IsFirstRefused}
use Rattle.kb_system.specs.Evidence.{Limits}
use Rattle.kb_evidence.specs.Files.{rules_file, log_file}
use Rattle.kb_evidence.specs.Shown.{ShowsLimit}
use Rattle.kb_answering.specs.Answers.{Shows, AnswersMean}
use Rattle.kb_task.specs.Automata.{IsUnrefused}
use Rattle.kb_task.specs.Loads.{EndsAtLoad}
use Rattle.kb_task.specs.Presentations.{HoldsPresentation}
use Rattle.kb_task.specs.Promises.{Promise}
use Rattle.kb_task.specs.Refusals.{IsRefusedOfTwo}
use Rattle.kb_task.specs.Statuses.{AnswersYesOrLimit, IsYes}
use Rattle.kb_task.specs.Subgroups.{HoldsMarkable, HoldsSubgroup, IsMarkableFault, IsSubgroupFault}
use Rattle.kb_task.specs.declared.status.Construction.TheVariants.{Acceptor}
use Rattle.kb_task.specs.declared.status.Limit.TheVariants.{States}
use Rattle.kb_task.specs.declared.status.FileFault.{FileFault}
use Rattle.kb_task.specs.declared.status.Status.{Status}
use Rattle.kb_cmd_elements.specs.Ball.{no_files}
use Rattle.kb_cmd_elements.specs.CosetAnswers.{CosetsMean, marked_of, subgroup_file}
use Rattle.kb_cmd_elements.specs.CosetsTold.{TellCosets}
use Rattle.kb_cmd_elements.specs.Given.{KbcosGiven}

-- No word acceptor is made, so that the limit of its states is never reached.
abbrev pub kbcos_limits : KbcosGiven → Limits
kbcos_limits given = record { lines = given.lines; letters = given.letters; states = 1 }

-- what shows that the completion of the marked presentation reached a limit, of its lines or of their letters
abbrev pub kbcos_shows : KbcosGiven → Shows
kbcos_shows given = λ parts limit texts line.
    ShowsLimit (kbcos_limits given) (subgroup_file given.file) parts limit texts line
    × (limit ≢ States Acceptor)

-- what each status means once both files have been read: cosets were answered, or a limit was shown
abbrev pub AnswersCosets : KbcosGiven → Cosets → Outside → Outside → Status → Type 0
AnswersCosets given cosets before after status =
    CosetsMean given.file cosets before after status
    ⊎ AnswersMean no_files (kbcos_shows given) (marked_of cosets) before after status

-- What each status means once the group has been read: the run ended at the load of the words; or they were read, and
-- the answers tell the right cosets of the subgroup apart that they generate.
abbrev pub GroupMeans : KbcosGiven → PresentationParts → Outside → Outside → Status → Type 0
GroupMeans given parts before after status =
    (EndsAtLoad (IsSubgroupFault parts before.shelf.holds (subgroup_file given.file))
    (subgroup_file given.file) status × IsUnchanged before after)
    ⊎ ((generators : List (List ℕ))
    × HoldsSubgroup parts before.shelf.holds (subgroup_file given.file) generators
    × TellCosets (record { parts = parts; generators = generators })
    × AnswersCosets given (record { parts = parts; generators = generators }) before after status)

-- What each status means: the run ended at the load of the group, or it was read.
abbrev pub KbcosMeans : KbcosGiven → Outside → Outside → Status → Type 0
KbcosMeans given before after status =
    (EndsAtLoad (IsMarkableFault before.shelf.holds given.file) given.file status
    × IsUnchanged before after)
    ⊎ ((parts : PresentationParts) × HoldsMarkable before.shelf.holds given.file parts
    × GroupMeans given parts before after status)

abbrev pub kbcos_may_store : KbcosGiven → List ℕ → Type 0
kbcos_may_store given name =
    (name ≡ rules_file (subgroup_file given.file)) ⊎ (name ≡ log_file (subgroup_file given.file))

-- the file of the group has a fault; or, where it holds a group to which the marker can be added, that of the words has
abbrev pub KbcosRefuses : KbcosGiven → Outside → List ℕ → FileFault → Type 0
KbcosRefuses given before =
    IsRefusedOfTwo (IsMarkableFault before.shelf.holds given.file) given.file
    (HoldsMarkable before.shelf.holds given.file)
    (λ parts. IsSubgroupFault parts before.shelf.holds (subgroup_file given.file))
    (subgroup_file given.file)

-- Neither file is refused, nor a line of the input by the presentation that the first holds, and the input isn't too
-- long.
pub record IsKbcosUnrefused (given : KbcosGiven) (before : Outside) : Type 0 where
  pub file : IsUnrefused (IsMarkableFault before.shelf.holds given.file)
  pub generators : (parts : PresentationParts)
      → HoldsPresentation before.shelf.holds given.file parts
      → IsUnrefused (IsSubgroupFault parts before.shelf.holds (subgroup_file given.file))
  pub lines : (cosets : Cosets) (number : ℕ) (fault : WordError)
      → HoldsPresentation before.shelf.holds given.file cosets.parts
      → HoldsSubgroup cosets.parts before.shelf.holds (subgroup_file given.file) cosets.generators
      → ¬ IsFirstRefused cosets.parts (IsLeastOf cosets) before.input.left number fault
  pub short : length before.input.left ≤ most_input

-- Which limit is reached may depend on the course of the completion. Another on the same file is the same but for its
-- workers and its limits.
abbrev pub kbcos_promise : KbcosGiven → Promise KbcosGiven
kbcos_promise given = record {
  means = KbcosMeans given;
  may_store = kbcos_may_store given;
  settled_stores = kbcos_may_store given;
  reads = λ name. (name ≡ given.file) ⊎ (name ≡ subgroup_file given.file);
  refuses = KbcosRefuses given;
  is_unrefused = IsKbcosUnrefused given;
  answers = AnswersYesOrLimit;
  settles = IsYes;
  differs_in_options = λ other. given.file ≡ other.file;
}
