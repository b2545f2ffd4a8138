-- The laws of what the statuses of `kbprog` mean.
use Rattle.std.proofs.Common.{◌≡◌, ◌∙◌, inl, inr, ℕ, List, refl, sym, ap₂, subst}
use Rattle.kb_io.specs.Outside.{Outside}
use Rattle.kb_word.specs.Presentations.{PresentationParts}
use Rattle.kb_task.specs.Presentations.{HoldsPresentation, IsPresentationFault}
use Rattle.kb_task.specs.PromiseLaws.{yes-conclusive}
use Rattle.kb_task.specs.Promises.{IsLawful}
use Rattle.kb_task.specs.Runs.{HasSameEffect, ReadsSame}
use Rattle.kb_task.specs.Statuses.{AnswersYesOrLimit, IsFaultless, IsYes}
use Rattle.kb_task.specs.Stores.{Text}
use Rattle.kb_task.specs.declared.status.Refusal.TheVariants.{File}
use Rattle.kb_task.specs.declared.status.Status.{Status}
use Rattle.kb_task.specs.declared.status.Status.TheVariants.{Yes, Refused, Undecided}
use Rattle.kb_task.proofs.LoadEnds.{memory_at_load, load_inconclusive, one_presentation_held}
use Rattle.kb_task.proofs.RefusalLemmas.{ReadsOne, ends_there, reads_it, exact_of_one, refused_of_one}
use Rattle.kb_answering.specs.Answers.{AnswersMean}
use Rattle.kb_answering.specs.AnswerLaws.{answers-complete, answers-refuse_none, answers-same}
use Rattle.kb_evidence.specs.Settled.{IsYesOrStates, CompletesAs, within_limits}
use Rattle.kb_evidence.specs.SettledLaws.{one_end, states-completes, states-conclusive}
use Rattle.kb_system.specs.Evidence.{Limits}
use Rattle.kb_system.specs.OneCompletion.{one_rules, one_acceptor}
use Rattle.kb_cmd_completion.specs.Files.{completed_texts, AreCompleted}
use Rattle.kb_cmd_completion.specs.Given.{KbprogGiven}
use Rattle.kb_cmd_completion.specs.Kbprog.{KbprogMeans, kbprog_may_store, kbprog_own, kbprog_promise, kbprog_shows, IsKbprogUnrefused}

-- ---- what is unique

-- a presentation is completed by one pair of files
one_completed : {limits other_limits : Limits} {file other_file : List ℕ} → file ≡ other_file
    → (parts : PresentationParts) (texts others : List Text)
    → AreCompleted limits file parts texts → AreCompleted other_limits other_file parts others
    → texts ≡ others
one_completed {other_file = other_file} same parts texts others one other =
    let rules = one_rules parts one.completion.completion other.completion.completion in
    let acceptor = one_acceptor parts one.completion.completion other.completion.completion in
    let Texts : List ℕ → Type 0 =
    λ name. texts ≡ completed_texts name parts one.rules one.acceptor in
    subst Texts same one.are
    ∙ (ap₂ (λ r a. completed_texts other_file parts r a) rules acceptor ∙ sym other.are)

-- ---- complete

complete : (given : KbprogGiven) (before after : Outside) (status : Status)
    → KbprogMeans given before after status
    → IsKbprogUnrefused given before → IsFaultless status → AnswersYesOrLimit status
complete given before after status (inl means) unrefused faultless =
    subst AnswersYesOrLimit
    (sym (memory_at_load (IsPresentationFault before.shelf.holds given.file) given.file
    status unrefused.file
    faultless means.0)) tt
complete given before after status (inr means) unrefused faultless =
    answers-complete (kbprog_own given) (kbprog_shows given) means.0 before after status
    (λ number fault. unrefused.lines means.0 number fault means.1) unrefused.short faultless
    means.2

-- ---- refused files

reads : (given : KbprogGiven) (before after : Outside) (status : Status)
    → KbprogMeans given before after status
    → ReadsOne (IsPresentationFault before.shelf.holds given.file) given.file
    ((parts : PresentationParts) × HoldsPresentation before.shelf.holds given.file parts) status
reads given before after status (inl means) = ends_there means.0
reads given before after status (inr means) =
    reads_it (means.0, means.1)
    (answers-refuse_none (kbprog_own given) (kbprog_shows given) means.0 before after status means.2)

-- ---- settled

-- a status that the file settles is that of a completion that came to its end
completes : (given : KbprogGiven) (parts : PresentationParts) (before after : Outside)
    (status : Status) → IsYesOrStates status
    → AnswersMean (kbprog_own given) (kbprog_shows given) parts before after status
    → CompletesAs given.limits parts status
completes given parts before after Yes settled means = within_limits means.0.1.completion
completes given parts before after (Undecided limit) settled means =
    states-completes means.are_shown settled
completes given parts before after _ settled means = absurd settled

settled : (given : KbprogGiven) (before after other_before other_after : Outside)
    (status other : Status)
    → KbprogMeans given before after status → KbprogMeans given other_before other_after other
    → ReadsSame (kbprog_promise given).reads before other_before
    → IsYesOrStates status → IsYesOrStates other → status ≡ other
settled given before after other_before other_after status other (inl means) others same one also =
    absurd (load_inconclusive (IsPresentationFault before.shelf.holds given.file)
    given.file status means.0 (states-conclusive status one))
settled given before after other_before other_after status other (inr means) (inl others) same
    one also =
    absurd (load_inconclusive (IsPresentationFault other_before.shelf.holds given.file)
    given.file other others.0 (states-conclusive other also))
settled given before after other_before other_after status other (inr means) (inr others) same
    one also =
    let parts : means.0 ≡ others.0 =
    one_presentation_held (same given.file refl) means.1 others.1 in
    let Completes : PresentationParts → Type 0 = λ p. CompletesAs given.limits p status in
    one_end
    (subst Completes parts (completes given means.0 before after status one means.2))
    (completes given others.0 other_before other_after other also others.2)

-- ---- one function

one_function : (given other_given : KbprogGiven)
    (before after other_before other_after : Outside)
    (status other : Status)
    → KbprogMeans given before after status → KbprogMeans other_given other_before other_after other
    → IsYes status → IsYes other
    → given.file ≡ other_given.file → ReadsSame (kbprog_promise given).reads before other_before
    → before.input.left ≡ other_before.input.left
    → HasSameEffect (kbprog_may_store given) before after other_before other_after
one_function given other_given before after other_before other_after status other
    (inl means) others
    is_yes also file same input =
    absurd (load_inconclusive (IsPresentationFault before.shelf.holds given.file)
    given.file status means.0
    (yes-conclusive status is_yes))
one_function given other_given before after other_before other_after status other (inr means)
    (inl others) is_yes also file same input =
    absurd (load_inconclusive
    (IsPresentationFault other_before.shelf.holds other_given.file) other_given.file
    other others.0 (yes-conclusive other also))
one_function given other_given before after other_before other_after status other (inr means)
    (inr others) is_yes also file same input =
    let held = subst (λ name. HoldsPresentation other_before.shelf.holds name others.0)
    (sym file) others.1 in
    let parts = one_presentation_held (same given.file refl) means.1 held in
    answers-same (kbprog_own given) (kbprog_own other_given) (kbprog_shows given)
    (kbprog_shows other_given) others.0 (one_completed file others.0) (kbprog_may_store given)
    before after other_before other_after status other is_yes also
    (subst (λ p. AnswersMean (kbprog_own given) (kbprog_shows given) p before after status) parts
    means.2) others.2 input

pub kbprog_lawful : (given : KbprogGiven) → IsLawful kbprog_promise (kbprog_promise given)
kbprog_lawful given = record {
  complete = complete given;
  memory = tt;
  refused = λ before after name fault means at_load.
      refused_of_one name fault (reads given before after (Refused (File name fault)) means) at_load;
  exact = λ have before after status name fault means refuses faultless.
      exact_of_one name fault (have.presentation before.shelf.holds given.file) status
      (reads given before after status means) refuses faultless;
  settled = settled given;
  conclusive = states-conclusive;
  one_function = one_function given;
}
