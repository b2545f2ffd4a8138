-- The laws of what the statuses of `wordreduce` mean, by the relations or by the lines of the log.
use Rattle.std.proofs.Common.{◌≡◌, inl, inr, List, ℕ, refl, sym, subst}
use Rattle.std.specs.Prelude.{Bool, true, false}
use Rattle.kb_io.specs.Outside.{Outside}
use Rattle.kb_task.specs.OneReason.{HaveOneReason}
use Rattle.kb_task.specs.Promises.{IsLawful}
use Rattle.kb_task.specs.Refusals.{IsLoadFault, IsRefusalOrMemory}
use Rattle.kb_task.specs.Runs.{HasSameEffect, ReadsSame}
use Rattle.kb_task.specs.Statuses.{AnswersYesOrNo, IsConclusive, IsFaultless, IsYes}
use Rattle.kb_task.specs.declared.status.FileFault.{FileFault}
use Rattle.kb_task.specs.declared.status.Refusal.TheVariants.{File}
use Rattle.kb_task.specs.declared.status.Status.{Status}
use Rattle.kb_task.specs.declared.status.Status.TheVariants.{Refused}
use Rattle.kb_task.proofs.LoadEnds.{one_presentation_held}
use Rattle.kb_task.proofs.RefusalLemmas.{exact_of_one, exact_of_two, refused_of_one, refused_of_two}
use Rattle.kb_evidence.specs.Files.{log_file}
use Rattle.kb_cmd_words.specs.Answering.{HasAnswered, one_effect}
use Rattle.kb_cmd_words.specs.ByLogLaws.{log_answered, log_complete, log_read, log_settled}
use Rattle.kb_cmd_words.specs.ByRelations.{StoresNothing}
use Rattle.kb_cmd_words.specs.ByRelationsLaws.{relations_answered, relations_complete, relations_read, relations_settled}
use Rattle.kb_cmd_words.specs.Given.{Given}
use Rattle.kb_cmd_words.specs.WordReduce.{IsUnrefusedBy, MeansBy, ReadsBy, RefusesBy, wordreduce_promise}

complete : (by_log : Bool) (file : List ℕ) (before after : Outside) (status : Status)
    → MeansBy by_log file before after status → IsUnrefusedBy by_log file before
    → IsFaultless status
    → AnswersYesOrNo status
complete true file before after status means unrefused faultless =
    log_complete file before after status means unrefused faultless
complete false file before after status means unrefused faultless =
    relations_complete file before after status means unrefused faultless

refused : (by_log : Bool) (file : List ℕ) (before after : Outside) (name : List ℕ)
    (fault : FileFault)
    → MeansBy by_log file before after (Refused (File name fault)) → IsLoadFault fault
    → RefusesBy by_log file before name fault
refused true file before after name fault means at_load =
    refused_of_two name fault (log_read file before after (Refused (File name fault)) means) at_load
refused false file before after name fault means at_load =
    refused_of_one name fault (relations_read file before after (Refused (File name fault)) means)
    at_load

exact : (by_log : Bool) (file : List ℕ) → HaveOneReason → (before after : Outside)
    (status : Status) (name : List ℕ) (fault : FileFault)
    → MeansBy by_log file before after status → RefusesBy by_log file before name fault
    → IsFaultless status → IsRefusalOrMemory name fault status
exact true file have before after status name fault means refuses faultless =
    exact_of_two name fault status (log_read file before after status means)
    (have.presentation before.shelf.holds file)
    (λ one other held again. one_presentation_held refl held again)
    (λ parts held. have.derivations before.shelf.holds file (log_file file) parts held) refuses faultless
exact false file have before after status name fault means refuses faultless =
    exact_of_one name fault (have.presentation before.shelf.holds file) status
    (relations_read file before after status means) refuses faultless

settled : (by_log : Bool) (file : List ℕ) (before after other_before other_after : Outside)
    (status other : Status)
    → MeansBy by_log file before after status → MeansBy by_log file other_before other_after other
    → ReadsSame (ReadsBy by_log file) before other_before → IsConclusive status
    → IsConclusive other → status ≡ other
settled true file before after other_before other_after status other means others same
    conclusive also =
    log_settled file before after other_before other_after status other means others
    (same file (inl refl)) (same (log_file file) (inr (refl, refl))) conclusive also
settled false file before after other_before other_after status other means others same
    conclusive also =
    relations_settled file before after other_before other_after status other means others
    (same file (inl refl)) conclusive also

-- what a yes says, whatever answers
answered : (by_log : Bool) (file : List ℕ) (before after : Outside) (status : Status)
    → IsYes status → MeansBy by_log file before after status → HasAnswered file before after
answered true file before after status is_yes means =
    log_answered file before after status is_yes means
answered false file before after status is_yes means =
    relations_answered file before after status is_yes means

one_function : (given other_given : Given) (before after other_before other_after : Outside)
    (status other : Status)
    → MeansBy given.by_log given.file before after status
    → MeansBy other_given.by_log other_given.file other_before other_after other
    → IsYes status → IsYes other
    → given.file ≡ other_given.file
    → ReadsSame (ReadsBy given.by_log given.file) before other_before
    → before.input.left ≡ other_before.input.left
    → HasSameEffect StoresNothing before after other_before other_after
one_function given other_given before after other_before other_after status other means others
    is_yes also file same input =
    let one = answered given.by_log given.file before after status is_yes means in
    let another = answered other_given.by_log other_given.file other_before other_after other also
    others in
    one_effect given.file before after other_before other_after one
    (subst (λ (name : List ℕ). HasAnswered name other_before other_after) (sym file) another)
    (same given.file (inl refl)) input

pub wordreduce_lawful : (given : Given) → IsLawful wordreduce_promise (wordreduce_promise given)
wordreduce_lawful given = record {
  complete = complete given.by_log given.file;
  memory = tt;
  refused = refused given.by_log given.file;
  exact = exact given.by_log given.file;
  settled = settled given.by_log given.file;
  conclusive = λ status settles. settles;
  one_function = one_function given;
}
