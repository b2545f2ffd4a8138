-- The laws of what the statuses of `kbcos` mean.
use Rattle.std.proofs.Common.{◌≡◌, ◌∙◌, inl, inr, ℕ, ◌≤◌, List, [], ◌++◌, length, length-append, refl, sym, ap, subst, arith}
use Rattle.kb_io.specs.Outside.{Outside}
use Rattle.kb_word.specs.Presentations.{PresentationParts}
use Rattle.kb_word.specs.WordOrderLaws.{word_orders}
use Rattle.kb_coset.specs.Cosets.{SameCoset}
use Rattle.kb_coset.specs.Marked.{relations}
use Rattle.kb_coset.proofs.LeastWords.{told_by_least}
use Rattle.kb_coset.specs.CosetWords.{Cosets, IsLeastOf}
use Rattle.kb_record.specs.Tree.{TextTree}
use Rattle.kb_record.specs.declared.error.WordError.{WordError}
use Rattle.kb_lines.specs.WordLines.{most_input, IsFirstRefused}
use Rattle.kb_lines.proofs.UniqueLemmas.{one-answered}
use Rattle.kb_subfile.specs.Holds.{GeneratorsOf, HoldsGenerators}
use Rattle.kb_subfile.proofs.OneFault.{one_list}
use Rattle.kb_system.specs.OneCompletion.{one_system}
use Rattle.kb_task.specs.Loads.{Files}
use Rattle.kb_task.specs.Presentations.{HoldsPresentation}
use Rattle.kb_task.specs.PromiseLaws.{one_yes, yes-conclusive}
use Rattle.kb_task.specs.Promises.{IsLawful}
use Rattle.kb_task.specs.Refusals.{RefusesNone}
use Rattle.kb_task.specs.Runs.{HasSameEffect, LeavesSame, ReadsSame}
use Rattle.kb_task.specs.Statuses.{AnswersYesOrLimit, IsFaultless, IsYes}
use Rattle.kb_task.specs.Stores.{Text, HoldsTexts}
use Rattle.kb_task.specs.Subgroups.{HoldsMarkable, HoldsSubgroup, IsMarkableFault, IsSubgroupFault}
use Rattle.kb_task.specs.declared.status.Refusal.TheVariants.{File, Line as RefusedLine, InputTooLong}
use Rattle.kb_task.specs.declared.status.Status.{Status}
use Rattle.kb_task.specs.declared.status.Status.TheVariants.{Yes, Refused, Undecided, No, Memory, Fault, Usage}
use Rattle.kb_task.proofs.LoadEnds.{memory_at_load, load_inconclusive, one_presentation_held, one_tree, same_bytes}
use Rattle.kb_task.proofs.RefusalLemmas.{ReadsTwo, ends_first, ends_next, reads_both, exact_of_two, refused_of_two}
use Rattle.kb_answering.specs.Answers.{AnswersMean, streams_of}
use Rattle.kb_answering.specs.AnswerLaws.{answers-refuse_none, texts_same}
use Rattle.kb_cmd_elements.specs.Ball.{no_files}
use Rattle.kb_cmd_elements.specs.CosetAnswers.{AreCosetTexts, CosetsMean, HasStoredRules, coset_texts, marked_of, subgroup_file}
use Rattle.kb_cmd_elements.specs.Given.{KbcosGiven}
use Rattle.kb_cmd_elements.specs.Kbcos.{AnswersCosets, IsKbcosUnrefused, KbcosMeans, kbcos_may_store, kbcos_promise, kbcos_shows}

-- ---- what is unique

-- a word's coset has one least word
one_least_of : (cosets : Cosets) (w m k : List ℕ) → IsLeastOf cosets w m → IsLeastOf cosets w k → m ≡ k
one_least_of cosets w m k one other =
    let stays : SameCoset (relations cosets.parts) cosets.generators w w = record { steps = []; linked = refl } in
    (told_by_least (word_orders cosets.parts.order) (relations cosets.parts) cosets.generators
    w w m k one other).0 stays

-- cosets are told by one list of files
one_texts : {file other_file : List ℕ} → file ≡ other_file → (cosets : Cosets) (texts others : List Text)
    → AreCosetTexts file cosets texts → AreCosetTexts other_file cosets others → texts ≡ others
one_texts {other_file = other_file} same cosets texts others one other =
    let Texts : List ℕ → Type 0 = λ name. texts ≡ coset_texts name cosets one.rules in
    let rules = one_system (marked_of cosets) one.rules other.rules one.reduced other.reduced in
    subst Texts same one.are ∙ (ap (coset_texts other_file cosets) rules ∙ sym other.are)

-- a file holds one list of generators
one_subgroup_held : {files others : Files} {name : List ℕ} (parts : PresentationParts) (one other : List (List ℕ))
    → files name ≡ others name → HoldsSubgroup parts files name one → HoldsSubgroup parts others name other
    → one ≡ other
one_subgroup_held parts one other same first second =
    let read : GeneratorsOf second.bytes parts one =
    subst (λ b. GeneratorsOf b parts one) (same_bytes same first.held second.held) first.says in
    let tree = one_tree second.bytes read.text second.says.text read.formed second.says.formed in
    let P : TextTree → Type 0 = λ text. HoldsGenerators text.fields parts one in
    one_list parts second.says.text.fields one other (subst P tree read.holds) second.says.holds

-- ---- complete

module _ (given : KbcosGiven) (cosets : Cosets) (before after : Outside) where
  limit_answers : (status : Status) → IsFaultless status
      → AnswersMean no_files (kbcos_shows given) (marked_of cosets) before after status
      → AnswersYesOrLimit status
  limit_answers Yes faultless means = tt
  limit_answers (Undecided limit) faultless means = tt
  limit_answers Memory faultless means = tt
  limit_answers (Refused (RefusedLine number fault)) faultless means = absurd means.0.1
  limit_answers (Refused InputTooLong) faultless means = absurd means.0.1
  limit_answers (Refused (File name fault)) faultless means = absurd means
  limit_answers (Fault which) faultless means = cc
  limit_answers (No cert) faultless means = absurd means
  limit_answers (Usage kind) faultless means = absurd means

  cosets_answer : ((number : ℕ) (fault : WordError)
      → ¬ IsFirstRefused cosets.parts (IsLeastOf cosets) before.input.left number fault)
      → length before.input.left ≤ most_input → (status : Status) → IsFaultless status
      → CosetsMean given.file cosets before after status → AnswersYesOrLimit status
  cosets_answer lines short Yes faultless means = tt
  cosets_answer lines short (Undecided limit) faultless means = absurd means
  cosets_answer lines short Memory faultless means = tt
  cosets_answer lines short (Refused (RefusedLine number fault)) faultless means =
      absurd (lines number fault means.1.means.refused)
  cosets_answer lines short (Refused InputTooLong) faultless means =
      let more = means.1.means.0 in
      omega (
        arith,
        more,
        short,
        ap length means.1.takes,
        length-append means.1.taken after.input.left,
      )
  cosets_answer lines short (Refused (File name fault)) faultless means = absurd means
  cosets_answer lines short (Fault which) faultless means = cc
  cosets_answer lines short (No cert) faultless means = absurd means
  cosets_answer lines short (Usage kind) faultless means = absurd means

memory_answers : (status : Status) → status ≡ Memory → AnswersYesOrLimit status
memory_answers status is = subst AnswersYesOrLimit (sym is) tt

complete : (given : KbcosGiven) (before after : Outside) (status : Status)
    → KbcosMeans given before after status → IsKbcosUnrefused given before → IsFaultless status
    → AnswersYesOrLimit status
complete given before after status (inl means) unrefused faultless =
    memory_answers status (memory_at_load (IsMarkableFault before.shelf.holds given.file) given.file
    status unrefused.file faultless means.0)
complete given before after status (inr (parts, group, inl means)) unrefused faultless =
    memory_answers status (memory_at_load
    (IsSubgroupFault parts before.shelf.holds (subgroup_file given.file)) (subgroup_file given.file)
    status (unrefused.generators parts group.group.holds) faultless means.0)
complete given before after status (inr (parts, group, inr (generators, words, tell, inl means)))
    unrefused faultless =
    let cosets : Cosets = record { parts = parts; generators = generators } in
    cosets_answer given cosets before after
    (λ number fault. unrefused.lines cosets number fault group.group.holds words) unrefused.short status
    faultless means
complete given before after status (inr (parts, group, inr (generators, words, tell, inr means)))
    unrefused faultless =
    limit_answers given (record { parts = parts; generators = generators }) before after status
    faultless means

-- ---- refused files

cosets_refuse_none : (given : KbcosGiven) (cosets : Cosets) (before after : Outside)
    (status : Status) → CosetsMean given.file cosets before after status → RefusesNone status
cosets_refuse_none given cosets before after (Refused (File name fault)) means = absurd means
cosets_refuse_none given cosets before after _ means = tt

-- how far a run came with its files
reads : (given : KbcosGiven) (before after : Outside) (status : Status)
    → KbcosMeans given before after status
    → ReadsTwo (IsMarkableFault before.shelf.holds given.file) given.file
    (HoldsMarkable before.shelf.holds given.file)
    (λ parts. IsSubgroupFault parts before.shelf.holds (subgroup_file given.file))
    (subgroup_file given.file)
    (λ parts. (generators : List (List ℕ))
    × HoldsSubgroup parts before.shelf.holds (subgroup_file given.file) generators) status
reads given before after status (inl means) = ends_first means.0
reads given before after status (inr (parts, group, inl means)) = ends_next parts group means.0
reads given before after status (inr (parts, group, inr (generators, words, tell, inl means))) =
    let cosets : Cosets = record { parts = parts; generators = generators } in
    reads_both parts group (generators, words)
    (cosets_refuse_none given cosets before after status means)
reads given before after status (inr (parts, group, inr (generators, words, tell, inr means))) =
    let cosets : Cosets = record { parts = parts; generators = generators } in
    reads_both parts group (generators, words)
    (answers-refuse_none no_files (kbcos_shows given) (marked_of cosets) before after status means)

-- ---- one function

-- what a yes did: it stored the rules and answered the lines
module _ (given : KbcosGiven) (cosets : Cosets) (before after : Outside) where
  yes_told : (status : Status) → IsYes status → AnswersCosets given cosets before after status
      → CosetsMean given.file cosets before after Yes
  yes_told Yes is_yes (inl means) = means
  yes_told Yes is_yes (inr limit) = absurd limit.0.1
  yes_told _ is_yes answers = absurd is_yes

-- what a run with status yes read, and what it did
record YesRun (given : KbcosGiven) (before after : Outside) : Type 0 where
  parts : PresentationParts
  generators : List (List ℕ)
  held : HoldsPresentation before.shelf.holds given.file parts
  words : HoldsSubgroup parts before.shelf.holds (subgroup_file given.file) generators
  told : CosetsMean given.file (record { parts = parts; generators = generators }) before after Yes

yes_run : (given : KbcosGiven) (before after : Outside) (status : Status) → IsYes status
    → KbcosMeans given before after status → YesRun given before after
yes_run given before after status is_yes (inl means) =
    absurd (load_inconclusive (IsMarkableFault before.shelf.holds given.file) given.file status
    means.0 (yes-conclusive status is_yes))
yes_run given before after status is_yes (inr (parts, group, inl means)) =
    absurd (load_inconclusive
    (IsSubgroupFault parts before.shelf.holds (subgroup_file given.file)) (subgroup_file given.file)
    status means.0 (yes-conclusive status is_yes))
yes_run given before after status is_yes (inr (parts, group, inr (generators, words, tell, answers))) =
    record {
      parts = parts;
      generators = generators;
      held = group.group.holds;
      words = words;
      told = yes_told given (record { parts = parts; generators = generators }) before after status
          is_yes answers;
    }

module _ (cosets : Cosets) {file other_file : List ℕ} (same_file : file ≡ other_file)
    (before after other_before other_after : Outside) where
  stored_same : HasStoredRules file cosets before after
      → HasStoredRules other_file cosets other_before other_after
      → (name : List ℕ) → LeavesSame before after other_before other_after name
  stored_same (texts, is, holds) (others, also, other_holds) =
      let Holds : List Text → Type 0 = λ t. HoldsTexts t other_before.shelf other_after.shelf in
      texts_same texts before after other_before other_after holds
      (subst Holds (sym (one_texts same_file cosets texts others is also)) other_holds)

  same_effect : (MayStore : List ℕ → Type 0) → CosetsMean file cosets before after Yes
      → CosetsMean other_file cosets other_before other_after Yes
      → before.input.left ≡ other_before.input.left
      → HasSameEffect MayStore before after other_before other_after
  same_effect MayStore means others same =
      let one = means.1 in
      let other = others.1 in
      let text = one-answered (streams_of before) (streams_of after) (streams_of other_before)
      (streams_of other_after) (one_least_of cosets) one other same in
      record {
        bytes = one.given;
        written = one.sent;
        other_written = other.sent ∙ ap (λ g. other_before.output.written ++ g) (sym text);
        stored = λ name may. stored_same means.0 others.0 name;
      }

one_function : (given other_given : KbcosGiven)
    (before after other_before other_after : Outside) (status other : Status)
    → KbcosMeans given before after status → KbcosMeans other_given other_before other_after other
    → IsYes status → IsYes other → given.file ≡ other_given.file
    → ReadsSame (kbcos_promise given).reads before other_before
    → before.input.left ≡ other_before.input.left
    → HasSameEffect (kbcos_may_store given) before after other_before other_after
one_function given other_given before after other_before other_after status other means others
    is_yes also file same input =
    let one = yes_run given before after status is_yes means in
    let two = yes_run other_given other_before other_after other also others in
    let Held : List ℕ → Type 0 = λ name. HoldsPresentation other_before.shelf.holds name two.parts in
    let parts : one.parts ≡ two.parts =
    one_presentation_held (same given.file (inl refl)) one.held (subst Held (sym file) two.held) in
    let Words : List ℕ → Type 0 =
    λ name. HoldsSubgroup two.parts other_before.shelf.holds (subgroup_file name) two.generators in
    let Mine : PresentationParts → Type 0 =
    λ p. HoldsSubgroup p before.shelf.holds (subgroup_file given.file) one.generators in
    let generators : one.generators ≡ two.generators =
    one_subgroup_held two.parts one.generators two.generators
    (same (subgroup_file given.file) (inr refl)) (subst Mine parts one.words)
    (subst Words (sym file) two.words) in
    let cosets : Cosets = record { parts = two.parts; generators = two.generators } in
    let Parts : PresentationParts → Type 0 =
    λ p. CosetsMean given.file (record { parts = p; generators = one.generators }) before after Yes in
    let Told : List (List ℕ) → Type 0 =
    λ g. CosetsMean given.file (record { parts = two.parts; generators = g }) before after Yes in
    same_effect cosets file before after other_before other_after (kbcos_may_store given)
    (subst Told generators (subst Parts parts one.told)) two.told input

pub kbcos_lawful : (given : KbcosGiven) → IsLawful kbcos_promise (kbcos_promise given)
kbcos_lawful given = record {
  complete = complete given;
  memory = tt;
  refused = λ before after name fault means at_load.
      refused_of_two name fault (reads given before after (Refused (File name fault)) means) at_load;
  exact = λ have before after status name fault means refuses faultless.
      exact_of_two name fault status (reads given before after status means)
      (have.markable before.shelf.holds given.file)
      (λ one other held again. one_presentation_held refl held.group.holds again.group.holds)
      (λ parts held. have.subgroup parts before.shelf.holds (subgroup_file given.file)) refuses faultless;
  settled = λ before after other_before other_after status other means others same one also.
      one_yes status other one also;
  conclusive = yes-conclusive;
  one_function = one_function given;
}
