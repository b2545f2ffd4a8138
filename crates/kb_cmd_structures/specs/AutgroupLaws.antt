-- The laws of what the statuses of `autgroup` mean.
use Rattle.std.proofs.Common.{◌≡◌, ℕ, List, refl, sym, subst}
use Rattle.kb_io.specs.Outside.{Outside}
use Rattle.kb_word.specs.Presentations.{PresentationParts}
use Rattle.kb_task.specs.Presentations.{HoldsGroup, HoldsPresentation, IsGroupFault}
use Rattle.kb_task.specs.PromiseLaws.{one_yes, yes-conclusive}
use Rattle.kb_task.specs.Promises.{IsLawful}
use Rattle.kb_task.specs.Runs.{HasSameEffect, ReadsSame}
use Rattle.kb_task.specs.Statuses.{AnswersYesOrLimit, IsFaultless, IsYes}
use Rattle.kb_task.specs.Stores.{Text}
use Rattle.kb_task.specs.declared.status.Refusal.TheVariants.{File}
use Rattle.kb_task.specs.declared.status.Status.{Status}
use Rattle.kb_task.specs.declared.status.Status.TheVariants.{Refused}
use Rattle.kb_task.proofs.LoadEnds.{memory_at_load, load_inconclusive, one_presentation_held}
use Rattle.kb_task.proofs.RefusalLemmas.{ReadsOne, ends_there, reads_it, exact_of_one, refused_of_one}
use Rattle.kb_answering.specs.Answers.{AnswersMean}
use Rattle.kb_answering.specs.AnswerLaws.{answers-complete, answers-refuse_none, answers-same}
use Rattle.kb_cmd_structures.specs.Autgroup.{AutgroupMeans, at_file, loaded, AutgroupMayStore, autgroup_own, autgroup_promise, autgroup_shows, IsAutgroupUnrefused}
use Rattle.kb_cmd_structures.specs.Given.{AutgroupGiven}
use Rattle.kb_cmd_structures.specs.Made.{AreMade}
use Rattle.kb_cmd_structures.specs.OneStructure.{one_made}

-- ---- complete

complete : (given : AutgroupGiven) (before after : Outside) (status : Status)
    → AutgroupMeans given before after status
    → IsAutgroupUnrefused given before → IsFaultless status → AnswersYesOrLimit status
complete given before after status (at_file ends unchanged) unrefused faultless =
    subst AnswersYesOrLimit
    (sym (memory_at_load (IsGroupFault before.shelf.holds given.file) given.file
    status unrefused.file faultless ends)) tt
complete given before after status (loaded {parts = parts} group means) unrefused faultless =
    answers-complete (autgroup_own given) (autgroup_shows given) parts before after status
    (λ number fault. unrefused.lines parts number fault group.holds) unrefused.short faultless means

-- ---- refused files

reads : (given : AutgroupGiven) (before after : Outside) (status : Status)
    → AutgroupMeans given before after status
    → ReadsOne (IsGroupFault before.shelf.holds given.file) given.file
    ((parts : PresentationParts) × HoldsGroup before.shelf.holds given.file parts) status
reads given before after status (at_file ends unchanged) = ends_there ends
reads given before after status (loaded {parts = parts} group means) =
    reads_it (parts, group)
    (answers-refuse_none (autgroup_own given) (autgroup_shows given) parts before after status means)

-- ---- one function

-- a group has one list of files of its automatic structure, by one file of the group
one_list : {file other_file : List ℕ} → file ≡ other_file → (parts : PresentationParts)
    (texts others : List Text) → AreMade file parts texts → AreMade other_file parts others
    → texts ≡ others
one_list same parts texts others one other =
    let Made : List ℕ → Type 0 = λ name. AreMade name parts others in
    one_made texts others one (subst Made (sym same) other)

one_function : (given other_given : AutgroupGiven)
    (before after other_before other_after : Outside) (status other : Status)
    → AutgroupMeans given before after status
    → AutgroupMeans other_given other_before other_after other
    → IsYes status → IsYes other
    → given.file ≡ other_given.file
    → ReadsSame (autgroup_promise given).reads before other_before
    → before.input.left ≡ other_before.input.left
    → HasSameEffect (AutgroupMayStore given) before after other_before other_after
one_function given other_given before after other_before other_after status other
    (at_file ends unchanged) others is_yes also file same input =
    absurd (load_inconclusive (IsGroupFault before.shelf.holds given.file) given.file status ends
    (yes-conclusive status is_yes))
one_function given other_given before after other_before other_after status other
    (loaded group means) (at_file ends unchanged) is_yes also file same input =
    absurd (load_inconclusive (IsGroupFault other_before.shelf.holds other_given.file)
    other_given.file other ends (yes-conclusive other also))
one_function given other_given before after other_before other_after status other
    (loaded group means) (loaded {parts = parts} again others) is_yes also file same input =
    let Held : List ℕ → Type 0 = λ name. HoldsPresentation other_before.shelf.holds name parts in
    let one = one_presentation_held (same given.file refl) group.holds
    (subst Held (sym file) again.holds) in
    let Mean : PresentationParts → Type 0 =
    λ p. AnswersMean (autgroup_own given) (autgroup_shows given) p before after status in
    answers-same (autgroup_own given) (autgroup_own other_given) (autgroup_shows given)
    (autgroup_shows other_given) parts (one_list file parts) (AutgroupMayStore given)
    before after other_before other_after status other is_yes also
    (subst Mean one means) others input

pub autgroup_lawful : (given : AutgroupGiven) → IsLawful autgroup_promise (autgroup_promise given)
autgroup_lawful given = record {
  complete = complete given;
  memory = tt;
  refused = λ before after name fault means at_load.
      refused_of_one name fault (reads given before after (Refused (File name fault)) means) at_load;
  exact = λ have before after status name fault means refuses faultless.
      exact_of_one name fault (have.group before.shelf.holds given.file) status
      (reads given before after status means) refuses faultless;
  settled = λ before after other_before other_after status other means others same one also.
      one_yes status other one also;
  conclusive = yes-conclusive;
  one_function = one_function given;
}
