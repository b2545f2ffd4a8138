-- The laws of what the statuses of `gpaxioms` mean, by a completion or by the lines of a log.
use Rattle.std.proofs.Common.{◌≡◌, ℕ, List, [], codes, refl}
use Rattle.std.specs.Prelude.{Bool, true, false}
use Rattle.kb_io.specs.Outside.{Outside}
use Rattle.kb_word.specs.declared.presentation.Presentation.{Presentation}
use Rattle.kb_fsa.specs.Language.{Automaton}
use Rattle.kb_system.specs.declared.ending.Reached.{Reached}
use Rattle.kb_system.specs.declared.ending.Reached.TheVariants.{Lines, Letters}
use Rattle.kb_task.specs.OneReason.{HaveOneReason}
use Rattle.kb_task.specs.Promises.{IsLawful}
use Rattle.kb_task.specs.Refusals.{IsRefusalOrMemory}
use Rattle.kb_task.specs.Runs.{HasSameEffect, ReadsSame}
use Rattle.kb_task.specs.Statuses.{IsAnswer, IsConclusive, IsFaultless, IsYes}
use Rattle.kb_task.specs.Stores.{Text}
use Rattle.kb_task.specs.declared.status.FileFault.{FileFault}
use Rattle.kb_task.specs.declared.status.Refusal.TheVariants.{File}
use Rattle.kb_task.specs.declared.status.Status.{Status}
use Rattle.kb_task.specs.declared.status.Status.TheVariants.{Refused, Undecided}
use Rattle.kb_evidence.specs.Files.{limit_of}
use Rattle.kb_answering.specs.AnswerLaws.{texts_same}
use Rattle.kb_cmd_structures.specs.ByLogLaws.{SaidYes, by_log_complete, by_log_said, by_log_settled, said_yes}
use Rattle.kb_cmd_structures.specs.ByLogRefusals.{by_log_exact, by_log_refused}
use Rattle.kb_cmd_structures.specs.Given.{CheckGiven, GpaxiomsGiven}
use Rattle.kb_cmd_structures.specs.Gpaxioms.{Finds, own, refuted, too_many, unsettled, GpaxiomsSettles, checked_by}
use Rattle.kb_cmd_structures.specs.GpaxiomsPromise.{IsUnrefusedBy, MayStoreBy, MeansBy, ReadsBy, RefusesBy, SettlesBy, gpaxioms_promise}
use Rattle.kb_cmd_structures.specs.RefusalLaws.{structure_exact, structure_refused}
use Rattle.kb_cmd_structures.specs.Shown.{StructureMeans}
use Rattle.kb_cmd_structures.specs.ShownLaws.{Answered, answered_own, answered_no, answered_count, AreAnswers, AreSettled, complete, conclusive, loaded_yes, one_answer, settled}

-- that a completion halted isn't settled
halt_unsettled : (reached : Reached) → ¬ GpaxiomsSettles (Undecided (limit_of reached))
halt_unsettled Lines settles = settles
halt_unsettled Letters settles = settles

module _ {given : CheckGiven} {presentation : Presentation} {accepts : Automaton}
    {multipliers : List Automaton} where
  -- what is found is an answer
  pub found_answers : {status : Status} {texts : List Text} {line : List ℕ}
      → Finds given presentation accepts multipliers status texts line → IsAnswer status
  found_answers (own passes is_own) = tt
  found_answers (refuted first) = tt
  found_answers (too_many first) = tt
  found_answers (unsettled is) = tt

  -- the answers that the files settle say what they say of what is checked
  pub found_says : {status : Status} {texts : List Text} {line : List ℕ}
      → Finds given presentation accepts multipliers status texts line → GpaxiomsSettles status
      → Answered (checked_by given presentation accepts multipliers) status
  found_says (own passes is_own) settles = answered_own passes is_own
  found_says (refuted first) settles = answered_no first
  found_says (too_many first) settles = answered_count first
  found_says (unsettled {halted = halted} is) settles =
      absurd (halt_unsettled halted.reached settles)

  -- a yes stores nothing, and writes that alone
  found_yes : {status : Status} {texts : List Text} {line : List ℕ}
      → Finds given presentation accepts multipliers status texts line → IsYes status
      → (texts ≡ []) × (line ≡ codes "yes\n")
  found_yes (own passes is_own) is_yes = (refl, refl)
  found_yes (refuted first) is_yes = absurd is_yes
  found_yes (too_many first) is_yes = absurd is_yes
  found_yes (unsettled is) is_yes = absurd is_yes

are_answers : (given : CheckGiven) → AreAnswers (Finds given)
are_answers given = record {
  answers = λ presentation acceptor multipliers status texts line finds. found_answers finds;
}

are_settled : (given : CheckGiven) → AreSettled given (Finds given) Answered
are_settled given = record {
  say = λ presentation acceptor multipliers status texts line finds settles. found_says finds settles;
  one = one_answer;
}

completion_said : (given : CheckGiven) (before after : Outside) (status : Status)
    → StructureMeans (Finds given) given.file before after status → IsYes status
    → SaidYes before after
completion_said given before after status means is_yes =
    said_yes (loaded_yes (Finds given) given.file before after status means is_yes).wrote
    (λ ends texts line finds said. found_yes finds said)

-- ---- whatever decides

all_answer : (by_log : Bool) (check : CheckGiven) (before after : Outside) (status : Status)
    → MeansBy by_log check before after status → IsUnrefusedBy by_log check before
    → IsFaultless status → IsAnswer status
all_answer true check before after status means unrefused faultless =
    by_log_complete check before after status means unrefused faultless
all_answer false check before after status means unrefused faultless =
    complete (are_answers check) check before after status means unrefused faultless

all_refused : (by_log : Bool) (check : CheckGiven) (before after : Outside) (name : List ℕ)
    (fault : FileFault)
    → MeansBy by_log check before after (Refused (File name fault))
    → RefusesBy by_log check before name fault
all_refused true check before after name fault means =
    by_log_refused check before after name fault means
all_refused false check before after name fault means =
    structure_refused (are_answers check) check before after name fault means

all_exact : (by_log : Bool) (check : CheckGiven) → HaveOneReason → (before after : Outside)
    (status : Status) (name : List ℕ) (fault : FileFault)
    → MeansBy by_log check before after status → RefusesBy by_log check before name fault
    → IsFaultless status → IsRefusalOrMemory name fault status
all_exact true check have before after status name fault means refuses faultless =
    by_log_exact check have before after status name fault means refuses faultless
all_exact false check have before after status name fault means refuses faultless =
    structure_exact (are_answers check) check have before after status name fault means refuses faultless

all_settled : (by_log : Bool) (check : CheckGiven)
    (before after other_before other_after : Outside) (status other : Status)
    → MeansBy by_log check before after status → MeansBy by_log check other_before other_after other
    → ReadsSame (ReadsBy by_log check) before other_before
    → SettlesBy by_log status → SettlesBy by_log other → status ≡ other
all_settled true check before after other_before other_after status other means others same settles
    also =
    by_log_settled check before after other_before other_after status other means others same
    settles also
all_settled false check before after other_before other_after status other means others same
    settles also =
    settled (are_settled check) before after other_before other_after status other means others
    same settles also

all_conclusive : (by_log : Bool) (status : Status) → SettlesBy by_log status → IsConclusive status
all_conclusive true status settles = settles
all_conclusive false status settles = conclusive status settles

-- what a yes wrote, whatever decides
said : (by_log : Bool) (check : CheckGiven) (before after : Outside) (status : Status)
    → MeansBy by_log check before after status → IsYes status → SaidYes before after
said true check before after status means is_yes =
    by_log_said check before after status means is_yes
said false check before after status means is_yes =
    completion_said check before after status means is_yes

one_function : (given other_given : GpaxiomsGiven)
    (before after other_before other_after : Outside) (status other : Status)
    → MeansBy given.by_log given.check before after status
    → MeansBy other_given.by_log other_given.check other_before other_after other
    → IsYes status → IsYes other
    → HasSameEffect (MayStoreBy given.by_log given.check) before after other_before other_after
one_function given other_given before after other_before other_after status other means others
    is_yes also =
    let here = said given.by_log given.check before after status means is_yes in
    let there =
    said other_given.by_log other_given.check other_before other_after other others also in
    record {
      bytes = codes "yes\n";
      written = here.written;
      other_written = there.written;
      stored = λ name may. texts_same [] before after other_before other_after here.holds
          there.holds name;
    }

pub gpaxioms_lawful : (given : GpaxiomsGiven)
    → IsLawful gpaxioms_promise (gpaxioms_promise given)
gpaxioms_lawful given = record {
  complete = all_answer given.by_log given.check;
  memory = tt;
  refused = λ before after name fault means at_load.
      all_refused given.by_log given.check before after name fault means;
  exact = all_exact given.by_log given.check;
  settled = all_settled given.by_log given.check;
  conclusive = all_conclusive given.by_log;
  one_function = λ other_given before after other_before other_after status other means others
      is_yes also file same input.
      one_function given other_given before after other_before other_after status other means
      others is_yes also;
}
