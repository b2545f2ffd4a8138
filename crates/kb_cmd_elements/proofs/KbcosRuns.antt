-- What a run of `kbcos` means, from what it means after the loads of its two files.
use Rattle.std.proofs.Common.{◌≡◌, ◌⊎◌, inl, inr, ℕ, ◌<◌, List, length, refl, sym, subst, arith}
use Rattle.std.specs.Prelude.{IsTrue}
use Rattle.std.specs.List.{Contains}
use Rattle.kb_io.specs.Outside.{Outside, outside}
use Rattle.kb_io.specs.States.{ShelfState, SourceState, SinkState}
use Rattle.kb_word.specs.Presentations.{PresentationParts, parts_of}
use Rattle.kb_word.specs.declared.presentation.Presentation.{Presentation}
use Rattle.kb_word.specs.declared.word_order.WordOrder.TheVariants.{ShortLex}
use Rattle.kb_diff.specs.Groups.{EachInverts}
use Rattle.kb_fields.specs.Generators.{most_generators}
use Rattle.kb_coset.specs.CosetWords.{Cosets}
use Rattle.kb_evidence.specs.Files.{rules_file, log_file}
use Rattle.kb_evidence.proofs.ShownLemmas.{shows_named}
use Rattle.kb_answering.specs.Answers.{AnswersMean}
use Rattle.kb_answering.specs.AnswerLaws.{answers-later}
use Rattle.kb_task.specs.Loads.{Files, EndsAtLoad, OnlyLoads}
use Rattle.kb_task.specs.Presentations.{HoldsPresentation}
use Rattle.kb_task.specs.Runs.{FaultIsCounted, IsRun}
use Rattle.kb_task.specs.Stores.{Text, names_of}
use Rattle.kb_task.specs.Subgroups.{HoldsMarkable, HoldsSubgroup, IsSubgroupFault, marker_name}
use Rattle.kb_task.specs.declared.loading.LoadStop.TheVariants as load_stops
use Rattle.kb_task.specs.declared.status.Limit.{Limit}
use Rattle.kb_task.specs.declared.status.Status.{Status}
use Rattle.kb_task.specs.declared.status.Status.TheVariants.{Memory}
use Rattle.kb_task.proofs.EffectLemmas.{unchanged-later, unchanged-printed}
use Rattle.kb_task.proofs.LoadEnds.{same_files}
use Rattle.kb_task.proofs.LoadLemmas.{holds_group}
use Rattle.kb_task.proofs.RunLemmas.{run-prints, run-after_loads, run-ends, unchanged-loads}
use Rattle.kb_cmd_elements.specs.Ball.{no_files}
use Rattle.kb_cmd_elements.specs.CosetAnswers.{CosetsMean, marked_of, subgroup_file}
use Rattle.kb_cmd_elements.specs.CosetsTold.{TellCosets}
use Rattle.kb_cmd_elements.specs.Given.{KbcosGiven}
use Rattle.kb_cmd_elements.specs.Kbcos.{AnswersCosets, GroupMeans, KbcosMeans, kbcos_limits, kbcos_may_store, kbcos_shows}
use Rattle.kb_cmd_elements.proofs.CosetRuns.{cosets-later}

-- what was loaded is a group to which the marker can be added
pub held_markable : (files : Files) (name : List ℕ) (presentation : Presentation) → HoldsPresentation files name (parts_of presentation)
    → presentation.order ≡ ShortLex → EachInverts presentation.n presentation.inv → length presentation.names < most_generators
    → (¬ Contains presentation.names marker_name) → HoldsMarkable files name (parts_of presentation)
held_markable files name presentation holds shortlex inverses room free = record {
  group = holds_group files name presentation holds shortlex inverses;
  room = room;
  free = free;
}

module _ (given : KbcosGiven) where
  -- memory ran out before the group was loaded
  pub run-unloaded : (shelf : ShelfState) (input : SourceState) (output : SinkState)
      → IsRun (KbcosMeans given) (kbcos_may_store given) (outside shelf input output) (outside shelf input output) Memory
  run-unloaded shelf input output =
      run-prints shelf input output output Memory (record { told = refl; faults = omega arith }) tt
      (λ told. inl (record { stop = load_stops.Memory; is = refl; cause = tt }, unchanged-printed shelf input output output refl))

  module _ (parts : PresentationParts) where
    -- memory ran out before the words were loaded
    pub group-unloaded : (shelf : ShelfState) (input : SourceState) (output : SinkState)
        → IsRun (GroupMeans given parts) (kbcos_may_store given) (outside shelf input output) (outside shelf input output) Memory
    group-unloaded shelf input output =
        run-prints shelf input output output Memory (record { told = refl; faults = omega arith }) tt
        (λ told. inl (record { stop = load_stops.Memory; is = refl; cause = tt }, unchanged-printed shelf input output output refl))

    -- memory ran out before anything was printed or stored
    pub cosets-nothing : (generators : List (List ℕ)) (shelf : ShelfState) (input : SourceState) (output : SinkState)
        → IsRun (AnswersCosets given (record { parts = parts; generators = generators })) (kbcos_may_store given) (outside shelf input output)
        (outside shelf input output) Memory
    cosets-nothing generators shelf input output =
        run-prints shelf input output output Memory (record { told = refl; faults = omega arith }) tt
        (λ told. inl (inl (unchanged-printed shelf input output output refl)))

    module _ (shelf loaded : ShelfState) (input : SourceState) (output : SinkState) (loads : OnlyLoads shelf loaded) where
      -- what is meant from the moment after the load is meant from the one before it
      answers-before : (cosets : Cosets) (after : Outside) (status : Status) → AnswersCosets given cosets (outside loaded input output) after status
          → AnswersCosets given cosets (outside shelf input output) after status
      answers-before cosets after status (inl means) =
          inl (cosets-later given.file cosets shelf loaded input output (unchanged-loads shelf loaded input output loads) after status means)
      answers-before cosets after status (inr limit) =
          inr (answers-later no_files (kbcos_shows given) (marked_of cosets) shelf loaded input output
          (unchanged-loads shelf loaded input output loads) after status limit)

      -- the words were loaded
      pub group-held : (generators : List (List ℕ)) (after : Outside) (status : Status)
          → (IsTrue shelf.told → HoldsSubgroup parts shelf.holds (subgroup_file given.file) generators)
          → TellCosets (record { parts = parts; generators = generators })
          → IsRun (AnswersCosets given (record { parts = parts; generators = generators })) (kbcos_may_store given) (outside loaded input output)
          after status
          → IsRun (GroupMeans given parts) (kbcos_may_store given) (outside shelf input output) after status
      group-held generators after status holds tell run =
          let cosets : Cosets = record { parts = parts; generators = generators } in
          run-after_loads shelf loaded input output loads {Then = AnswersCosets given cosets} after status run (λ name stored. stored)
          (λ told later. inr (generators, holds told.shelf, tell, answers-before cosets after status later))

      -- the run ended at the load of the words
      pub group-ended : (status : Status) → FaultIsCounted (outside shelf input output) (outside loaded input output) status
          → (IsTrue shelf.told → EndsAtLoad (IsSubgroupFault parts shelf.holds (subgroup_file given.file)) (subgroup_file given.file) status)
          → IsRun (GroupMeans given parts) (kbcos_may_store given) (outside shelf input output) (outside loaded input output) status
      group-ended status fault ends =
          run-ends shelf loaded input output loads status fault
          (λ told. inl (ends told.shelf, unchanged-loads shelf loaded input output loads))

      group-before : (after : Outside) (status : Status) → GroupMeans given parts (outside loaded input output) after status
          → GroupMeans given parts (outside shelf input output) after status
      group-before after status (inl means) =
          let Ends : Files → Type 0 =
          λ files. EndsAtLoad (IsSubgroupFault parts files (subgroup_file given.file)) (subgroup_file given.file) status in
          inl (subst Ends (same_files loads) means.0, unchanged-later (unchanged-loads shelf loaded input output loads) means.1)
      group-before after status (inr (generators, words, tell, answers)) =
          let Held : Files → Type 0 = λ files. HoldsSubgroup parts files (subgroup_file given.file) generators in
          inr (
            generators,
            subst Held (same_files loads) words,
            tell,
            answers-before (record { parts = parts; generators = generators }) after status answers,
          )

      -- the group was loaded
      pub run-held : (after : Outside) (status : Status) → (IsTrue shelf.told → HoldsMarkable shelf.holds given.file parts)
          → IsRun (GroupMeans given parts) (kbcos_may_store given) (outside loaded input output) after status
          → IsRun (KbcosMeans given) (kbcos_may_store given) (outside shelf input output) after status
      run-held after status holds run =
          run-after_loads shelf loaded input output loads {Then = GroupMeans given parts} after status run (λ name stored. stored)
          (λ told later. inr (parts, holds told.shelf, group-before after status later))

  -- ---- what was answered or shown

  module _ (cosets : Cosets) (before after : Outside) (status : Status) where
    pub run-told : IsRun (CosetsMean given.file cosets) (kbcos_may_store given) before after status
        → IsRun (AnswersCosets given cosets) (kbcos_may_store given) before after status
    run-told run = record {
      means = λ told. inl (run.means told);
      fault = run.fault;
      goes_on = run.goes_on;
      files = run.files;
    }

    pub run-shown : IsRun (AnswersMean no_files (kbcos_shows given) (marked_of cosets)) (kbcos_may_store given) before after status
        → IsRun (AnswersCosets given cosets) (kbcos_may_store given) before after status
    run-shown run = record {
      means = λ told. inr (run.means told);
      fault = run.fault;
      goes_on = run.goes_on;
      files = run.files;
    }

  named_may : (name : List ℕ) → (log_file (subgroup_file given.file) ≡ name) ⊎ (rules_file (subgroup_file given.file) ≡ name)
      → kbcos_may_store given name
  named_may name (inl is) = inr (sym is)
  named_may name (inr is) = inl (sym is)

  -- the command may store the files that show a limit
  pub shows_may : (parts : PresentationParts) (limit : Limit) (texts : List Text) (line : List ℕ) → kbcos_shows given parts limit texts line
      → (name : List ℕ) → Contains (names_of texts) name → kbcos_may_store given name
  shows_may parts limit texts line shows name here =
      named_may name (shows_named (kbcos_limits given) (subgroup_file given.file) parts limit texts line shows.0 name here)
