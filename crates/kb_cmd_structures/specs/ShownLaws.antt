-- The laws of a run that shows what is found of a group's automata, from those of what is found.
use Rattle.std.proofs.Common.{◌≡◌, ◌∙◌, ℕ, suc, List, ◌++◌, length, refl, sym, ap, subst, arith}
use Rattle.kb_io.specs.Outside.{Outside}
use Rattle.kb_word.specs.Presentations.{parts_of}
use Rattle.kb_word.specs.declared.presentation.Presentation.{Presentation}
use Rattle.kb_fsa.specs.Language.{Automaton}
use Rattle.kb_structure.specs.Structure.{AreOverGenerators, IsAutomaticStructure}
use Rattle.kb_structure.specs.declared.cert.Cert.{Cert}
use Rattle.kb_axioms.specs.Answered.{IsFirstOfAll}
use Rattle.kb_axioms.specs.Checked.{Checked, IsFirstCount, PassesRelations, own_structure}
use Rattle.kb_axioms.specs.declared.answers.Construction.{Construction as Counted}
use Rattle.kb_task.specs.Presentations.{IsGroupFault}
use Rattle.kb_task.specs.PromiseLaws.{yes-conclusive}
use Rattle.kb_task.specs.Runs.{HasSameEffect, ReadsSame}
use Rattle.kb_task.specs.Statuses.{IsAnswer, IsConclusive, IsFaultless, IsYes}
use Rattle.kb_task.specs.Stores.{Text, HoldsTexts}
use Rattle.kb_task.specs.declared.status.Cert.TheVariants.{Structure}
use Rattle.kb_task.specs.declared.status.Status.{Status}
use Rattle.kb_task.specs.declared.status.Limit.TheVariants.{States}
use Rattle.kb_task.specs.declared.status.Status.TheVariants.{Yes, No, Undecided, Memory}
use Rattle.kb_task.proofs.LoadEnds.{memory_at_load, one_presentation_held}
use Rattle.kb_evidence.specs.Files.{acceptor_file, multiplier_file}
use Rattle.kb_answering.specs.AnswerLaws.{texts_same}
use Rattle.kb_cmd_structures.specs.FirstCertificates.{one_certificate, own_has_none}
use Rattle.kb_cmd_structures.specs.FirstCounts.{certified_not_counted, one_count, passed_not_counted}
use Rattle.kb_cmd_structures.specs.Given.{CheckGiven}
use Rattle.kb_cmd_structures.specs.Gpaxioms.{GpaxiomsReads, reads_group, reads_acceptor, reads_multiplier, GpaxiomsSettles, IsGpaxiomsUnrefused, checked_by, construction_of}
use Rattle.kb_cmd_structures.specs.Loaded.{EndsAtAutomata, EndsAtFile, HoldsGroup, HoldStructure, IsAcceptorFault, IsMultiplierFault, at_group, at_automata, at_acceptor, at_multiplier}
use Rattle.kb_cmd_structures.specs.LoadedLaws.{files_inconclusive, held_over, one_checked}
use Rattle.kb_cmd_structures.specs.Shown.{Found, FoundOf, ShowMeans, shown, output_failed, store_failed, no_memory_stored, no_memory, StructureMeans, at_file, loaded}

pub conclusive : (status : Status) → GpaxiomsSettles status → IsConclusive status
conclusive Yes settles = tt
conclusive (No cert) settles = tt
conclusive (Undecided (States which)) settles = tt
conclusive _ settles = absurd settles

-- what yes, no and a count of states say of what is checked
pub data Answered (checked : Checked) : Status → Type 0 where
  answered_own : PassesRelations checked → IsAutomaticStructure (own_structure checked)
      → Answered checked Yes
  answered_no : {cert : Cert} → IsFirstOfAll checked cert → Answered checked (No (Structure cert))
  answered_count : {which : Counted} → IsFirstCount checked which
      → Answered checked (Undecided (States (construction_of which)))

-- What is found of automata is an answer.
pub record AreAnswers (found : FoundOf) : Type 0 where
  pub answers : (presentation : Presentation) (acceptor : Automaton) (multipliers : List Automaton)
      (status : Status) (texts : List Text) (line : List ℕ)
      → found presentation acceptor multipliers status texts line → IsAnswer status

-- What the answers that the files settle say of what is checked, is said by one of them.
pub record AreSettled (given : CheckGiven) (found : FoundOf) (Says : Checked → Status → Type 0)
    : Type 0 where
  pub say : (presentation : Presentation) (acceptor : Automaton) (multipliers : List Automaton)
      (status : Status) (texts : List Text) (line : List ℕ)
      → found presentation acceptor multipliers status texts line → GpaxiomsSettles status
      → Says (checked_by given presentation acceptor multipliers) status
  pub one : (checked : Checked) → AreOverGenerators (own_structure checked)
      → (status other : Status) → Says checked status → Says checked other → status ≡ other

-- ---- complete

-- a run ends at the automata for want of memory only
automata_answer : (given : CheckGiven) (before : Outside) (presentation : Presentation)
    (status : Status) → IsGpaxiomsUnrefused given before
    → HoldsGroup before.shelf.holds given.file presentation
    → EndsAtAutomata before.shelf.holds given.file presentation status
    → IsFaultless status → status ≡ Memory
automata_answer given before presentation status unrefused held (at_acceptor ends) faultless =
    memory_at_load (IsAcceptorFault before.shelf.holds given.file presentation)
    (acceptor_file given.file) status (unrefused.acceptor presentation held) faultless ends
automata_answer given before presentation status unrefused held (at_multiplier accepts ends)
    faultless =
    let x = suc (length ends.earlier) in
    memory_at_load (IsMultiplierFault before.shelf.holds given.file presentation x)
    (multiplier_file given.file x) status
    (unrefused.multipliers presentation x held (omega arith) (omega (arith, ends.within)))
    faultless ends.ends

file_answers : (given : CheckGiven) (before : Outside) (status : Status)
    → EndsAtFile before.shelf.holds given.file status → IsGpaxiomsUnrefused given before
    → IsFaultless status → status ≡ Memory
file_answers given before status (at_group ends) unrefused faultless =
    memory_at_load (IsGroupFault before.shelf.holds given.file) given.file status unrefused.group
    faultless ends
file_answers given before status (at_automata {presentation = presentation} held ends) unrefused
    faultless =
    automata_answer given before presentation status unrefused held ends faultless

module _ {found : FoundOf} (are : AreAnswers found) (given : CheckGiven) where
  module _ {presentation : Presentation} {accepts : Automaton} {multipliers : List Automaton} where
    loaded_answers : {before after : Outside} {status : Status}
        → ShowMeans (found presentation accepts multipliers) before after status
        → IsFaultless status → IsAnswer status
    loaded_answers (shown {status = status} {texts = texts} {line = line} finds holds unread written)
        faultless = are.answers presentation accepts multipliers status texts line finds
    loaded_answers (output_failed finds holds unread front) faultless = cc
    loaded_answers (store_failed finds stops) faultless = cc
    loaded_answers (no_memory_stored finds first) faultless = tt
    loaded_answers (no_memory unchanged) faultless = tt

  pub complete : (before after : Outside) (status : Status)
      → StructureMeans found given.file before after status → IsGpaxiomsUnrefused given before
      → IsFaultless status → IsAnswer status
  complete before after status (at_file ends unchanged) unrefused faultless =
      subst IsAnswer (sym (file_answers given before status ends unrefused faultless)) tt
  complete before after status (loaded held means) unrefused faultless =
      loaded_answers means faultless

-- ---- settled

-- of what is checked there is one answer
pub one_answer : (checked : Checked) → AreOverGenerators (own_structure checked)
    → (status other : Status) → Answered checked status → Answered checked other → status ≡ other
one_answer checked over status other (answered_own passes own) (answered_own also also_own) = refl
one_answer checked over status other (answered_own passes own) (answered_no {cert = cert} first) =
    absurd (own_has_none checked passes own cert first)
one_answer checked over status other (answered_own passes own) (answered_count {which = which} first) =
    absurd (passed_not_counted checked passes which first)
one_answer checked over status other (answered_no {cert = cert} first) (answered_own passes own) =
    absurd (own_has_none checked passes own cert first)
one_answer checked over status other (answered_no {cert = cert} first)
    (answered_no {cert = second} also) =
    ap (λ c. No (Structure c)) (one_certificate checked over cert second first also)
one_answer checked over status other (answered_no {cert = cert} first)
    (answered_count {which = which} also) =
    absurd (certified_not_counted checked cert which first also)
one_answer checked over status other (answered_count {which = which} first) (answered_own passes own) =
    absurd (passed_not_counted checked passes which first)
one_answer checked over status other (answered_count {which = which} first)
    (answered_no {cert = cert} also) =
    absurd (certified_not_counted checked cert which also first)
one_answer checked over status other (answered_count {which = which} first)
    (answered_count {which = second} also) =
    ap (λ w. Undecided (States (construction_of w))) (one_count checked which second first also)

module _ {given : CheckGiven} {found : FoundOf} {Says : Checked → Status → Type 0}
    (are : AreSettled given found Says) where
  module _ {presentation : Presentation} {accepts : Automaton} {multipliers : List Automaton} where
    loaded_says : {before after : Outside} {status : Status}
        → ShowMeans (found presentation accepts multipliers) before after status
        → GpaxiomsSettles status
        → Says (checked_by given presentation accepts multipliers) status
    loaded_says (shown {status = status} {texts = texts} {line = line} finds holds unread written)
        settles = are.say presentation accepts multipliers status texts line finds settles
    loaded_says (output_failed finds holds unread front) settles = absurd settles
    loaded_says (store_failed finds stops) settles = absurd settles
    loaded_says (no_memory_stored finds first) settles = absurd settles
    loaded_says (no_memory unchanged) settles = absurd settles

  pub settled : (before after other_before other_after : Outside) (status other : Status)
      → StructureMeans found given.file before after status
      → StructureMeans found given.file other_before other_after other
      → ReadsSame (GpaxiomsReads given) before other_before
      → GpaxiomsSettles status → GpaxiomsSettles other → status ≡ other
  settled before after other_before other_after status other (at_file ends unchanged) others same
      settles also =
      absurd (files_inconclusive before.shelf.holds given.file status ends
      (conclusive status settles))
  settled before after other_before other_after status other (loaded held means)
      (at_file ends unchanged) same settles also =
      absurd (files_inconclusive other_before.shelf.holds given.file other ends
      (conclusive other also))
  settled before after other_before other_after status other (loaded held means)
      (loaded {presentation = presentation} {acceptor = accepts} {multipliers = multipliers} again
      others) same settles also =
      let most = given.limits.states in
      let checked = one_checked held again (same given.file (reads_group refl))
      (same (acceptor_file given.file) (reads_acceptor refl))
      (λ x. same (multiplier_file given.file x) (reads_multiplier x refl)) most in
      let SaysSo : Checked → Type 0 = λ c. Says c status in
      are.one (checked_by given presentation accepts multipliers) (held_over most again) status
      other (subst SaysSo checked (loaded_says means settles)) (loaded_says others also)

-- ---- one function

-- what a yes stored and wrote, as it was found
pub record WroteYes (found : Found) (before after : Outside) : Type 0 where
  pub status : Status
  pub is_yes : IsYes status
  pub texts : List Text
  pub line : List ℕ
  pub finds : found status texts line
  pub holds : HoldsTexts texts before.shelf after.shelf
  pub written : after.output.written ≡ before.output.written ++ line

pub wrote_yes : {found : Found} {before after : Outside} {status : Status}
    → ShowMeans found before after status → IsYes status → WroteYes found before after
wrote_yes (shown {status = status} {texts = texts} {line = line} finds holds unread written) is_yes =
    record {
      status = status;
      is_yes = is_yes;
      texts = texts;
      line = line;
      finds = finds;
      holds = holds;
      written = written;
    }
wrote_yes (output_failed finds holds unread front) is_yes = absurd is_yes
wrote_yes (store_failed finds stops) is_yes = absurd is_yes
wrote_yes (no_memory_stored finds first) is_yes = absurd is_yes
wrote_yes (no_memory unchanged) is_yes = absurd is_yes

-- what was loaded before a yes
pub record LoadedYes (found : FoundOf) (file : List ℕ) (before after : Outside) : Type 0 where
  pub presentation : Presentation
  pub acceptor : Automaton
  pub multipliers : List Automaton
  pub held : HoldStructure before.shelf.holds file presentation acceptor multipliers
  pub wrote : WroteYes (found presentation acceptor multipliers) before after

pub loaded_yes : (found : FoundOf) (file : List ℕ) (before after : Outside) (status : Status)
    → StructureMeans found file before after status → IsYes status
    → LoadedYes found file before after
loaded_yes found file before after status (at_file ends unchanged) is_yes =
    absurd (files_inconclusive before.shelf.holds file status ends
    (yes-conclusive status is_yes))
loaded_yes found file before after status
    (loaded {presentation = presentation} {acceptor = accepts} {multipliers = multipliers} held
    means) is_yes = record {
      presentation = presentation;
      acceptor = accepts;
      multipliers = multipliers;
      held = held;
      wrote = wrote_yes means is_yes;
    }

-- of the same group a yes stores the same files and writes the same line
abbrev pub FindsOne : FoundOf → FoundOf → Type 0
FindsOne found other_found = (one other : Presentation) (acceptor second : Automaton)
    (multipliers more : List Automaton) (status again : Status) (texts others : List Text)
    (line also : List ℕ)
    → parts_of one ≡ parts_of other
    → found one acceptor multipliers status texts line → IsYes status
    → other_found other second more again others also → IsYes again
    → (texts ≡ others) × (line ≡ also)

-- two runs that answered yes of the same group have the same effect
pub one_effect : (found other_found : FoundOf) (file : List ℕ) (MayStore : List ℕ → Type 0)
    (before after other_before other_after : Outside) (status other : Status)
    → FindsOne found other_found
    → before.shelf.holds file ≡ other_before.shelf.holds file
    → StructureMeans found file before after status
    → StructureMeans other_found file other_before other_after other
    → IsYes status → IsYes other
    → HasSameEffect MayStore before after other_before other_after
one_effect found other_found file MayStore before after other_before other_after status other
    finds_one same means others is_yes also =
    let one = loaded_yes found file before after status means is_yes in
    let again = loaded_yes other_found file other_before other_after other others also in
    let here = one.wrote in
    let there = again.wrote in
    let parts = one_presentation_held same one.held.group.presents again.held.group.presents in
    let alike = finds_one one.presentation again.presentation one.acceptor again.acceptor
    one.multipliers again.multipliers here.status there.status here.texts there.texts here.line
    there.line parts here.finds here.is_yes there.finds there.is_yes in
    let Holds : List Text → Type 0 = λ t. HoldsTexts t other_before.shelf other_after.shelf in
    record {
      bytes = here.line;
      written = here.written;
      other_written = there.written
          ∙ ap (λ (l : List ℕ). other_before.output.written ++ l) (sym alike.1);
      stored = λ name may. texts_same here.texts before after other_before other_after here.holds
          (subst Holds (sym alike.0) there.holds) name;
    }
