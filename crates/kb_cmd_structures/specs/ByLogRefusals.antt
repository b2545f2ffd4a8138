-- Of the files that `gpaxioms` reads by the lines of a log: what is refused is the first that has a fault, and where
-- one has, it is refused. That the lines leave open what the automata are is the last of the faults.
use Rattle.std.proofs.Common.{◌≡◌, inr, ℕ, List, refl, subst}
use Rattle.kb_io.specs.Outside.{Outside}
use Rattle.kb_word.specs.Presentations.{PresentationParts, parts_of}
use Rattle.kb_word.specs.declared.presentation.Presentation.{Presentation}
use Rattle.kb_fsa.specs.Language.{Automaton}
use Rattle.kb_proof.specs.declared.log.Log.{Log}
use Rattle.kb_bylog.specs.LogLines.{IsJustifiedBy}
use Rattle.kb_task.specs.Loads.{Files}
use Rattle.kb_task.specs.Logs.{HoldsDerivations, IsDerivationsFault}
use Rattle.kb_task.specs.OneReason.{HaveOneReason, HasOneReason}
use Rattle.kb_task.specs.Refusals.{IsRefusalOrMemory, IsRefusedFor}
use Rattle.kb_task.specs.Statuses.{IsFaultless}
use Rattle.kb_task.specs.Stores.{Text}
use Rattle.kb_task.specs.declared.status.FileFault.{FileFault}
use Rattle.kb_task.specs.declared.status.Refusal.TheVariants.{File}
use Rattle.kb_task.specs.declared.status.Status.{Status}
use Rattle.kb_task.specs.declared.status.Status.TheVariants.{Refused}
use Rattle.kb_task.proofs.RefusalLemmas.{exact_at_load, held_none, memory_or, refused_at_load}
use Rattle.kb_evidence.specs.Files.{log_file}
use Rattle.kb_cmd_structures.specs.ByLog.{ByLogMeans, at_logged, log_refuted, log_read, EndsAtLogged, at_logged_group, at_log, at_logged_automata, FindsByLog, own_by_log, refuted_by_log, too_many_by_log, unresolved_by_log, FindsUnjustified, HoldLogged, HoldsLogBeside, IsLogFaultBeside, IsLoggedRefused, IsLogUnresolved, IsUnresolvedFault, refused_log, refused_logged_automata, refused_logged_group, refused_unresolved}
use Rattle.kb_cmd_structures.specs.ByLogLaws.{is_refuted, not_justified, refuted_answers}
use Rattle.kb_cmd_structures.specs.UnresolvedLaws.{fault_moved, shown_exact}
use Rattle.kb_cmd_structures.specs.Given.{CheckGiven}
use Rattle.kb_cmd_structures.specs.Loaded.{HoldsGroup, IsAutomatonRefused}
use Rattle.kb_cmd_structures.specs.RefusalLaws.{answers_refuse_none, automata_exact, automata_held, automata_memory, automata_refused, group_held, group_parts, refused_moved, same_presentation, shown_refusal, structure_moved}
use Rattle.kb_cmd_structures.specs.Shown.{ShowMeans, shown, output_failed, store_failed, no_memory_stored, no_memory}

-- ---- what is refused

logged_refused : (given : CheckGiven) (files : Files) (name : List ℕ) (fault : FileFault)
    → EndsAtLogged files given.file (Refused (File name fault))
    → IsLoggedRefused given files name fault
logged_refused given files name fault (at_logged_group ends) =
    refused_logged_group (refused_at_load name fault ends)
logged_refused given files name fault (at_log group ends) =
    refused_log group (refused_at_load name fault ends)
logged_refused given files name fault
    (at_logged_automata {presentation = presentation} held justified ends) =
    refused_logged_automata held justified
    (automata_refused files given.file presentation name fault ends)

-- a file that is refused is this one, and has such a fault
abbrev RefusesFor : (FileFault → Type 0) → List ℕ → Status → Type 0
RefusesFor IsFault file (Refused (File name fault)) = IsRefusedFor IsFault file name fault
RefusesFor IsFault file _ = Unit {0}

-- the one refusal among what is found is that the lines leave open what the automata are
found_unresolved : {given : CheckGiven} {presentation : Presentation} {log : Log}
    {accepts : Automaton} {multipliers : List Automaton} (status : Status) (texts : List Text)
    (line : List ℕ)
    → FindsByLog given presentation log accepts multipliers status texts line
    → RefusesFor (IsUnresolvedFault given presentation log accepts multipliers)
    (log_file given.file) status
found_unresolved status texts line (own_by_log passes is_own agree) = tt
found_unresolved status texts line (refuted_by_log first settled) = tt
found_unresolved status texts line (too_many_by_log first) = tt
found_unresolved status texts line (unresolved_by_log is) = record { is = refl; has = is }

pub by_log_refused : (given : CheckGiven) (before after : Outside) (name : List ℕ)
    (fault : FileFault)
    → ByLogMeans given before after (Refused (File name fault))
    → IsLoggedRefused given before.shelf.holds name fault
by_log_refused given before after name fault (at_logged ends unchanged) =
    logged_refused given before.shelf.holds name fault ends
by_log_refused given before after name fault (log_refuted held means) =
    absurd (answers_refuse_none means (λ ends texts line finds. refuted_answers finds) refl)
by_log_refused given before after name fault
    (log_read {presentation = presentation} {acceptor = accepts} {multipliers = multipliers}
    {log = log} held log_is justified means) =
    shown_refusal means refl (IsLoggedRefused given before.shelf.holds name fault)
    (λ ends texts line finds refuses.
    let Refuses : Status → Type 0 = λ s.
    RefusesFor (IsUnresolvedFault given presentation log accepts multipliers)
    (log_file given.file) s in
    let refused : IsRefusedFor (IsUnresolvedFault given presentation log accepts multipliers)
    (log_file given.file) name fault =
    subst Refuses refuses (found_unresolved ends texts line finds) in
    refused_unresolved (record {
      is = refused.is;
      has = record {
        presentation = presentation;
        log = log;
        acceptor = accepts;
        multipliers = multipliers;
        held = held;
        log_is = log_is;
        justified = justified;
        unresolved = refused.has;
      };
    }))

-- ---- exactly

module _ (have : HaveOneReason) (given : CheckGiven) (files : Files) (name : List ℕ)
    (fault : FileFault) where
  abbrev file : List ℕ
  file = given.file

  -- the file of the log beside a group is refused for one reason, and for none where it holds a log
  log_reason : {presentation : Presentation} → HoldsGroup files file presentation
      → HasOneReason ((log : Log) × HoldsLogBeside files file presentation log)
      (IsLogFaultBeside files file presentation)
  log_reason {presentation = presentation} group =
      have.derivations files file (log_file file) (parts_of presentation) group.presents

  log_moved : (one other : Presentation) → parts_of one ≡ parts_of other
      → IsRefusedFor (IsLogFaultBeside files file one) (log_file file) name fault
      → IsRefusedFor (IsLogFaultBeside files file other) (log_file file) name fault
  log_moved one other same refused =
      let Refused_by : PresentationParts → Type 0 = λ p. IsRefusedFor
      (IsDerivationsFault p.names files (log_file file)) (log_file file) name fault in
      subst Refused_by same refused

  held_moved : (one other : Presentation) (log : Log) → parts_of one ≡ parts_of other
      → HoldsLogBeside files file one log → HoldsLogBeside files file other log
  held_moved one other log same held =
      let Held_by : PresentationParts → Type 0 =
      λ p. HoldsDerivations files (log_file file) p.names log in
      subst Held_by same held

  -- Where the files hold a group and a log, what is refused is a file of the automata; or the lines leave open what
  -- these are.
  both_held : {presentation : Presentation} {log : Log} → HoldLogged files file presentation log
      → IsLoggedRefused given files name fault → (P : Type 0)
      → ((other : Presentation) (also : Log) → HoldLogged files file other also
      → IsJustifiedBy (parts_of other) also → IsAutomatonRefused files file other name fault → P)
      → (IsRefusedFor (IsLogUnresolved given files) (log_file file) name fault → P)
      → P
  both_held held (refused_logged_group refused) P so open_so =
      absurd (group_held have files file name fault held.group refused)
  both_held {presentation = presentation} {log = log} held
      (refused_log {presentation = other} group refused) P so open_so =
      absurd (held_none (log_reason held.group) name fault (log, held.log_is)
      (log_moved other presentation (same_presentation group held.group) refused))
  both_held held
      (refused_logged_automata {presentation = other} {log = also} again justified refused) P so
      open_so =
      so other also again justified refused
  both_held held (refused_unresolved refused) P so open_so = open_so refused

  logged_exact : (status : Status) → EndsAtLogged files file status
      → IsLoggedRefused given files name fault → IsFaultless status
      → IsRefusalOrMemory name fault status
  logged_exact status (at_logged_group ends) (refused_logged_group refused) faultless =
      exact_at_load (have.group files file) status name fault ends refused faultless
  logged_exact status (at_logged_group ends) (refused_log group refused) faultless =
      memory_or (have.group files file) status name fault (group_parts group) ends faultless
  logged_exact status (at_logged_group ends) (refused_logged_automata held justified refused)
      faultless =
      memory_or (have.group files file) status name fault (group_parts held.group) ends faultless
  logged_exact status (at_logged_group ends) (refused_unresolved refused) faultless =
      memory_or (have.group files file) status name fault (group_parts refused.has.held.group) ends
      faultless
  logged_exact status (at_log group ends) (refused_logged_group refused) faultless =
      absurd (group_held have files file name fault group refused)
  logged_exact status (at_log {presentation = presentation} group ends)
      (refused_log {presentation = other} again refused) faultless =
      exact_at_load (log_reason group) status name fault ends
      (log_moved other presentation (same_presentation again group) refused) faultless
  logged_exact status (at_log {presentation = presentation} group ends)
      (refused_logged_automata {presentation = other} {log = log} held justified refused)
      faultless =
      memory_or (log_reason group) status name fault
      (log, held_moved other presentation log (same_presentation held.group group) held.log_is)
      ends faultless
  logged_exact status (at_log {presentation = presentation} group ends)
      (refused_unresolved refused) faultless =
      let all = refused.has in
      memory_or (log_reason group) status name fault (
        all.log,
        held_moved all.presentation presentation all.log
            (same_presentation all.held.group group) all.log_is,
      ) ends faultless
  logged_exact status (at_logged_automata {presentation = presentation} held justified ends)
      refuses faultless =
      both_held held refuses (IsRefusalOrMemory name fault status)
      (λ other log again also refused. automata_exact have files file presentation name fault
      status ends (refused_moved (same_presentation again.group held.group) refused) faultless)
      (λ refused. let all = structure_moved held.group refused.has.held in
      automata_memory have files file presentation name fault refused.has.acceptor
      refused.has.multipliers status all.accepts all.multiply all.one_each ends faultless)

  -- where a log is justified, that it isn't is shown only where memory runs out before
  refuted_memory : {presentation other : Presentation} {log also : Log} {before after : Outside}
      {status : Status} → HoldLogged files file presentation log
      → HoldLogged files file other also → IsJustifiedBy (parts_of other) also
      → ShowMeans (FindsUnjustified presentation log) before after status → IsFaultless status
      → IsRefusalOrMemory name fault status
  refuted_memory held again justified (shown finds holds unread written) faultless =
      absurd (not_justified held again refl refl (is_refuted finds) justified)
  refuted_memory held again justified (output_failed finds holds unread front) faultless = cc
  refuted_memory held again justified (store_failed finds stops) faultless = cc
  refuted_memory held again justified (no_memory_stored finds first) faultless = inr refl
  refuted_memory held again justified (no_memory unchanged) faultless = inr refl

pub by_log_exact : (given : CheckGiven) → HaveOneReason → (before after : Outside)
    (status : Status) (name : List ℕ) (fault : FileFault)
    → ByLogMeans given before after status
    → IsLoggedRefused given before.shelf.holds name fault → IsFaultless status
    → IsRefusalOrMemory name fault status
by_log_exact given have before after status name fault (at_logged ends unchanged) refuses
    faultless =
    logged_exact have given before.shelf.holds name fault status ends refuses faultless
by_log_exact given have before after status name fault (log_refuted held means) refuses
    faultless =
    let files = before.shelf.holds in
    both_held have given files name fault held refuses (IsRefusalOrMemory name fault status)
    (λ other log again justified refused. refuted_memory have given files name fault held again
    justified means faultless)
    (λ refused. let all = refused.has in
    let logged : HoldLogged files given.file all.presentation all.log =
    record { group = all.held.group; log_is = all.log_is } in
    refuted_memory have given files name fault held logged all.justified means faultless)
by_log_exact given have before after status name fault
    (log_read {presentation = presentation} {acceptor = accepts} {multipliers = multipliers}
    {log = log} held log_is justified means) refuses faultless =
    let files = before.shelf.holds in
    let logged : HoldLogged files given.file presentation log =
    record { group = held.group; log_is = log_is } in
    both_held have given files name fault logged refuses (IsRefusalOrMemory name fault status)
    (λ other more again also refused. absurd (automata_held have files given.file presentation name
    fault accepts multipliers held.accepts held.multiply held.one_each
    (refused_moved (same_presentation again.group held.group) refused)))
    (λ refused. let all = refused.has in
    let here : IsRefusedFor (IsUnresolvedFault given presentation log accepts multipliers)
    (log_file given.file) name fault = record {
      is = refused.is;
      has = fault_moved given all.held all.log_is held log_is all.unresolved;
    } in
    shown_exact given presentation log accepts multipliers means here faultless)
