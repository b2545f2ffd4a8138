-- The laws of `fsaenumerate`.
use Rattle.std.proofs.Common.{◌≡◌, ℕ, List, refl, sym, ◌∙◌, subst}
use Rattle.kb_fsa.specs.Language.{Automaton}
use Rattle.kb_task.specs.PromiseLaws.{yes-conclusive}
use Rattle.kb_task.specs.Promises.{IsLawful}
use Rattle.kb_task.specs.Refusals.{RefusesNone}
use Rattle.kb_task.specs.Runs.{HasSameEffect}
use Rattle.kb_task.specs.Statuses.{AnswersYes}
use Rattle.kb_task.specs.declared.loading.automata.Kind.TheVariants.{Words}
use Rattle.kb_task.specs.declared.status.Status.{Status}
use Rattle.kb_listing.specs.Asked.{WordsArePrinted, printed, failed, no_memory}
use Rattle.kb_listing.specs.AskedLaws.{words_answer, words_yes, wrote_all, one_text}
use Rattle.kb_cmd_automata.specs.Enumerate.{enumerate_promise}
use Rattle.kb_cmd_automata.specs.LoadedLaws.{one_answers, one_exact, one_refused, over_one}
use Rattle.kb_cmd_automata.specs.declared.enumerate.Enumerate.{Enumerate}

-- printing refuses no file
words_refuse_none : (names : List (List ℕ)) (automaton : Automaton) (least most : ℕ)
    (before after : List ℕ) (status : Status)
    → WordsArePrinted names automaton least most before after status → RefusesNone status
words_refuse_none names automaton least most before after status (printed all is) = tt
words_refuse_none names automaton least most before after status (failed front) = tt
words_refuse_none names automaton least most before after status (no_memory front) = tt

pub enumerate_lawful : (task : Enumerate) → IsLawful enumerate_promise (enumerate_promise task)
enumerate_lawful task = record {
  complete = λ before after status means unrefused faultless.
      one_answers AnswersYes tt before after status faultless Words task.file _
      (λ names automaton prints. words_answer names automaton task.min task.max
      before.output.written after.output.written status faultless prints.so)
      unrefused means;
  memory = tt;
  refused = λ before after name fault means at_load.
      one_refused Words task.file _
      (λ names automaton one other status prints. words_refuse_none names automaton task.min
      task.max one.output.written other.output.written status prints.so)
      before after name fault means at_load;
  exact = λ have before after status name fault means refuses faultless.
      one_exact Words task.file _
      (λ names automaton one other ends prints. words_refuse_none names automaton task.min
      task.max one.output.written other.output.written ends prints.so)
      have before after status name fault means refuses faultless;
  settled = λ before after other_before other_after status other means others alike conclusive also.
      over_one before after other_before other_after status other conclusive also (status ≡ other)
      Words task.file _ _
      (λ names automaton prints print.
      words_yes names automaton task.min task.max before.output.written after.output.written status
      conclusive prints.so
      ∙ sym (words_yes names automaton task.min task.max other_before.output.written
      other_after.output.written
      other also print.so))
      (alike task.file refl) means others;
  conclusive = λ status settles. settles;
  one_function = λ other_task before after other_before other_after status other means others
      is_yes also differs alike input.
      over_one before after other_before other_after status other (yes-conclusive status is_yes)
      (yes-conclusive other also)
      (HasSameEffect (λ name. ⊥) before after other_before other_after)
      Words task.file _ _
      (λ names automaton prints print.
      one_text names automaton task.min task.max before after other_before other_after
      (wrote_all names automaton task.min task.max before.output.written after.output.written status
      is_yes prints.so)
      (wrote_all names automaton task.min task.max other_before.output.written
      other_after.output.written other
      also print.so))
      (alike task.file refl) means
      (subst (λ t. (enumerate_promise t).means other_before other_after other) differs others);
}
