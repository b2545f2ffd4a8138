-- The laws of the statuses that the file settles of a run that completes what the file presents.
use Rattle.std.proofs.Common.{◌≡◌, ℕ, List, refl}
use Rattle.kb_word.specs.Presentations.{PresentationParts}
use Rattle.kb_system.specs.Evidence.{Limits}
use Rattle.kb_system.specs.OneCompletion.{never_both}
use Rattle.kb_system.specs.declared.ending.Reached.{Reached}
use Rattle.kb_system.specs.declared.ending.Reached.TheVariants.{Lines, Letters}
use Rattle.kb_task.specs.Statuses.{IsConclusive}
use Rattle.kb_task.specs.Stores.{Text}
use Rattle.kb_task.specs.declared.status.Limit.{Limit}
use Rattle.kb_task.specs.declared.status.Limit.TheVariants.{States}
use Rattle.kb_task.specs.declared.status.Status.{Status}
use Rattle.kb_task.specs.declared.status.Status.TheVariants.{Yes, Undecided}
use Rattle.kb_evidence.specs.Files.{limit_of}
use Rattle.kb_evidence.specs.Settled.{IsYesOrStates, CompletesAs, within_limits, too_many_states}
use Rattle.kb_evidence.specs.Shown.{ShowsLimit, halted, too_large}

-- a run with such a status answered yes or reached a limit
pub states-conclusive : (status : Status) → IsYesOrStates status → IsConclusive status
states-conclusive Yes settled = tt
states-conclusive (Undecided limit) settled = tt
states-conclusive _ settled = absurd settled

-- a limit of the log is none of states
pub log-no_states : (reached : Reached) → ¬ IsYesOrStates (Undecided (limit_of reached))
log-no_states Lines settled = settled
log-no_states Letters settled = settled

module _ {limits : Limits} {parts : PresentationParts} where
  -- what shows a limit of states shows that the completion came to its end
  pub states-completes : {file : List ℕ} {limit : Limit} {texts : List Text} {line : List ℕ}
      → ShowsLimit limits file parts limit texts line → IsYesOrStates (Undecided limit)
      → CompletesAs limits parts (Undecided limit)
  states-completes (halted {reached = reached} halts) settled =
      absurd (log-no_states reached settled)
  states-completes (too_large large) settled = too_many_states large

  -- completions of one presentation within the same limits that came to their end have one status
  pub one_end : {status other : Status} → CompletesAs limits parts status
      → CompletesAs limits parts other → status ≡ other
  one_end (within_limits one) (within_limits other) = refl
  one_end (within_limits one) (too_many_states large) = absurd (never_both limits parts one large)
  one_end (too_many_states large) (within_limits one) = absurd (never_both limits parts one large)
  one_end (too_many_states one) (too_many_states other) = refl
