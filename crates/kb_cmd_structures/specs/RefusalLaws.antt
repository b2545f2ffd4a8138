-- Of the files of a group and of automata: what is refused is the first that has a fault, and where one has, it is
-- refused.
use Rattle.std.proofs.Common.{◌≡◌, ◌∙◌, inl, inr, ℕ, suc, ◌<◌, List, Some, length, get_or, refl, sym, ap, subst, arith}
use Rattle.std.proofs.lemmas.Bool.{cases_order}
use Rattle.std.proofs.lemmas.Option.{slice_get-get_or}
use Rattle.kb_io.specs.Outside.{Outside}
use Rattle.kb_word.specs.Presentations.{PresentationParts, parts_of}
use Rattle.kb_word.specs.declared.presentation.Presentation.{Presentation}
use Rattle.kb_fsa.specs.Language.{Automaton}
use Rattle.kb_fsa.specs.declared.alphabet.Alphabet.TheVariants.{Plain, Pair}
use Rattle.kb_structure.specs.StructureOf.{multiplier_of}
use Rattle.kb_task.specs.Automata.{HoldsAutomaton, IsSecondFault}
use Rattle.kb_task.specs.Loads.{Files}
use Rattle.kb_task.specs.OneReason.{HaveOneReason, HoldsOver}
use Rattle.kb_task.specs.Presentations.{HoldsGroup as HoldsGroupOf, IsGroupFault}
use Rattle.kb_task.specs.Refusals.{IsRefusalOrMemory, IsRefusedFor}
use Rattle.kb_task.specs.Statuses.{IsAnswer, IsFaultless}
use Rattle.kb_task.specs.Stores.{Text}
use Rattle.kb_task.specs.declared.loading.automata.Kind.TheVariants.{Words, Pairs}
use Rattle.kb_task.specs.declared.status.FileFault.{FileFault}
use Rattle.kb_task.specs.declared.status.Refusal.TheVariants.{File}
use Rattle.kb_task.specs.declared.status.Status.{Status}
use Rattle.kb_task.specs.declared.status.Status.TheVariants.{Refused}
use Rattle.kb_task.proofs.LoadEnds.{one_presentation_held}
use Rattle.kb_task.proofs.LoadLemmas.{holds_group}
use Rattle.kb_task.proofs.RefusalLemmas.{exact_at_load, held_none, memory_or, refused_at_load}
use Rattle.kb_evidence.specs.Files.{acceptor_file, multiplier_file}
use Rattle.kb_cmd_structures.specs.Given.{CheckGiven}
use Rattle.kb_cmd_structures.specs.Loaded.{EndsAtAutomata, EndsAtFile, HoldMultipliers, HoldsAcceptor, HoldsGroup, HoldsMultiplier, HoldStructure, IsAutomatonRefused, IsMultiplierFault, IsStructureRefused, at_acceptor, at_automata, at_group, at_multiplier, refused_acceptor, refused_automata, refused_group, refused_multiplier}
use Rattle.kb_cmd_structures.specs.Shown.{Found, FoundOf, ShowMeans, shown, output_failed, store_failed, no_memory_stored, no_memory, StructureMeans, at_file, loaded}
use Rattle.kb_cmd_structures.specs.ShownLaws.{AreAnswers}

-- ---- what is shown

-- what is shown refuses a file where it was found so
pub shown_refusal : {found : Found} {before after : Outside} {status : Status} {name : List ℕ}
    {fault : FileFault}
    → ShowMeans found before after status → status ≡ Refused (File name fault) → (P : Type 0)
    → ((ends : Status) (texts : List Text) (line : List ℕ) → found ends texts line
    → ends ≡ Refused (File name fault) → P)
    → P
shown_refusal (shown {status = status} {texts = texts} {line = line} finds holds unread written)
    refuses P so = so status texts line finds refuses
shown_refusal (output_failed finds holds unread front) refuses P so = cc
shown_refusal (store_failed finds stops) refuses P so = cc
shown_refusal (no_memory_stored finds first) refuses P so = cc
shown_refusal (no_memory unchanged) refuses P so = cc

-- and where all that may be found are answers it refuses none
pub answers_refuse_none : {found : Found} {before after : Outside} {status : Status}
    {name : List ℕ} {fault : FileFault}
    → ShowMeans found before after status
    → ((ends : Status) (texts : List Text) (line : List ℕ) → found ends texts line → IsAnswer ends)
    → ¬ (status ≡ Refused (File name fault))
answers_refuse_none means answers refuses =
    shown_refusal means refuses ⊥
    (λ ends texts line finds same. subst IsAnswer same (answers ends texts line finds))

-- ---- one presentation

-- what is so by the generators of one presentation is so by those of the same one
pub moved : (one other : Presentation) → parts_of one ≡ parts_of other
    → (IsSo : List (List ℕ) → ℕ → Type 0) → IsSo one.names one.n → IsSo other.names other.n
moved one other same IsSo so =
    let names : one.names ≡ other.names = ap (λ (p : PresentationParts). p.names) same in
    let n : one.n ≡ other.n =
    sym one.is_presentation.one_name_each ∙ (ap length names ∙ other.is_presentation.one_name_each) in
    let Named : List (List ℕ) → Type 0 = λ list. IsSo list one.n in
    let Many : ℕ → Type 0 = λ k. IsSo other.names k in
    subst Many n (subst Named names so)

pub same_presentation : {files : Files} {file : List ℕ} {one other : Presentation}
    → HoldsGroup files file one → HoldsGroup files file other → parts_of one ≡ parts_of other
same_presentation held again = one_presentation_held refl held.presents again.presents

-- a file of one of the automata that is refused by one presentation is refused by the same one
pub refused_moved : {files : Files} {file : List ℕ} {one other : Presentation} {name : List ℕ}
    {fault : FileFault} → parts_of one ≡ parts_of other
    → IsAutomatonRefused files file one name fault
    → IsAutomatonRefused files file other name fault
refused_moved {files = files} {file = file} {one = one} {other = other} {name = name}
    {fault = fault} same
    (refused_acceptor refused) =
    refused_acceptor (moved one other same
    (λ names n. IsRefusedFor (IsSecondFault Words names (Plain n) files (acceptor_file file))
    (acceptor_file file) name fault) refused)
refused_moved {files = files} {file = file} {one = one} {other = other} {name = name}
    {fault = fault} same
    (refused_multiplier {acceptor = accepts} held multiplier) =
    let earlier = multiplier.earlier in
    let next = multiplier_file file (suc (length earlier)) in
    refused_multiplier
    (moved one other same
    (λ names n. HoldsAutomaton files (acceptor_file file) names accepts
    × (accepts.alphabet ≡ Plain n)) held)
    (record {
      earlier = earlier;
      held = moved one other same
          (λ names n. (x : ℕ) (multiplies : Automaton)
          → multiplier_of earlier x ≡ Some multiplies
          → HoldsAutomaton files (multiplier_file file x) names multiplies
          × (multiplies.alphabet ≡ Pair n)) multiplier.held;
      within = moved one other same (λ names n. length earlier < n) multiplier.within;
      refused = moved one other same
          (λ names n. IsRefusedFor (IsSecondFault Pairs names (Pair n) files next) next name fault)
          multiplier.refused;
    })

-- the automata that files hold by one presentation they hold by the same one
pub structure_moved : {files : Files} {file : List ℕ} {one other : Presentation}
    {acceptor : Automaton} {multipliers : List Automaton} → HoldsGroup files file other
    → HoldStructure files file one acceptor multipliers
    → HoldStructure files file other acceptor multipliers
structure_moved {files = files} {file = file} {one = one} {other = other} {acceptor = accepts}
    {multipliers = multipliers} group held =
    let same = same_presentation held.group group in
    record {
      group = group;
      accepts = moved one other same
          (λ names n. HoldsAutomaton files (acceptor_file file) names accepts
          × (accepts.alphabet ≡ Plain n)) held.accepts;
      multiply = moved one other same
          (λ names n. (x : ℕ) (multiplies : Automaton)
          → multiplier_of multipliers x ≡ Some multiplies
          → HoldsAutomaton files (multiplier_file file x) names multiplies
          × (multiplies.alphabet ≡ Pair n)) held.multiply;
      one_each = moved one other same (λ names n. length multipliers ≡ n) held.one_each;
    }

-- ---- automata

module _ (have : HaveOneReason) (files : Files) (file : List ℕ) (presentation : Presentation)
    (name : List ℕ) (fault : FileFault) where
  -- what is held is over the generators
  acceptor_over : (accepts : Automaton) → HoldsAcceptor files file presentation accepts
      → HoldsOver Words presentation.names (Plain presentation.n) files (acceptor_file file) accepts
  acceptor_over accepts held = (held.0, held.1, (presentation.n, held.1))

  multiplier_over : (x : ℕ) (multiplies : Automaton)
      → HoldsMultiplier files file presentation x multiplies
      → HoldsOver Pairs presentation.names (Pair presentation.n) files (multiplier_file file x)
      multiplies
  multiplier_over x multiplies held = (held.0, held.1, (presentation.n, held.1))

  -- a multiplier among those that are held
  held_at : (multipliers : List Automaton) (default : Automaton) (place : ℕ)
      → HoldMultipliers files file presentation multipliers → place < length multipliers
      → (multiplies : Automaton) × HoldsOver Pairs presentation.names (Pair presentation.n) files
      (multiplier_file file (suc place)) multiplies
  held_at multipliers default place held within =
      let multiplies = get_or multipliers place default in (
        multiplies,
        multiplier_over (suc place) multiplies
            (held (suc place) multiplies (slice_get-get_or multipliers place default within)),
      )

  -- files that hold what they have to aren't refused
  pub automata_held : (accepts : Automaton) (multipliers : List Automaton)
      → HoldsAcceptor files file presentation accepts
      → HoldMultipliers files file presentation multipliers
      → length multipliers ≡ presentation.n
      → ¬ IsAutomatonRefused files file presentation name fault
  automata_held accepts multipliers held multiply one_each (refused_acceptor refused) =
      held_none
      (have.second Words presentation.names (Plain presentation.n) files (acceptor_file file))
      name fault (accepts, acceptor_over accepts held) refused
  automata_held accepts multipliers held multiply one_each
      (refused_multiplier {acceptor = also} again multiplier) =
      let place = length multiplier.earlier in
      let within = multiplier.within in
      held_none
      (have.second Pairs presentation.names (Pair presentation.n) files
      (multiplier_file file (suc place))) name fault
      (held_at multipliers accepts place multiply (omega (arith, within, one_each)))
      multiplier.refused

  -- where all of them are held, a run ends at one of them for want of memory
  pub automata_memory : (accepts : Automaton) (multipliers : List Automaton) (status : Status)
      → HoldsAcceptor files file presentation accepts
      → HoldMultipliers files file presentation multipliers
      → length multipliers ≡ presentation.n
      → EndsAtAutomata files file presentation status → IsFaultless status
      → IsRefusalOrMemory name fault status
  automata_memory accepts multipliers status held multiply one_each (at_acceptor ends) faultless =
      memory_or
      (have.second Words presentation.names (Plain presentation.n) files (acceptor_file file))
      status name fault (accepts, acceptor_over accepts held) ends faultless
  automata_memory accepts multipliers status held multiply one_each
      (at_multiplier {acceptor = also} again ends) faultless =
      let place = length ends.earlier in
      let within = ends.within in
      memory_or
      (have.second Pairs presentation.names (Pair presentation.n) files
      (multiplier_file file (suc place))) status name fault
      (held_at multipliers accepts place multiply (omega (arith, within, one_each))) ends.ends
      faultless

  -- where one has a fault, a run that ends at one of them refuses the first that has
  pub automata_exact : (status : Status) → EndsAtAutomata files file presentation status
      → IsAutomatonRefused files file presentation name fault → IsFaultless status
      → IsRefusalOrMemory name fault status
  automata_exact status (at_acceptor ends) (refused_acceptor refused) faultless =
      exact_at_load
      (have.second Words presentation.names (Plain presentation.n) files (acceptor_file file))
      status name fault ends refused faultless
  automata_exact status (at_acceptor ends) (refused_multiplier {acceptor = accepts} held multiplier)
      faultless =
      memory_or
      (have.second Words presentation.names (Plain presentation.n) files (acceptor_file file))
      status name fault (accepts, acceptor_over accepts held) ends faultless
  automata_exact status (at_multiplier {acceptor = accepts} held ends) (refused_acceptor refused)
      faultless =
      absurd (held_none
      (have.second Words presentation.names (Plain presentation.n) files (acceptor_file file))
      name fault (accepts, acceptor_over accepts held) refused)
  automata_exact status (at_multiplier {acceptor = accepts} held ends)
      (refused_multiplier again multiplier) faultless =
      let place = length ends.earlier in
      let other = length multiplier.earlier in
      let reason = λ (k : ℕ). have.second Pairs presentation.names (Pair presentation.n) files
      (multiplier_file file (suc k)) in
      let Refused_at : ℕ → Type 0 =
      λ k. IsRefusedFor (IsMultiplierFault files file presentation (suc k))
      (multiplier_file file (suc k)) name fault in
      elim (cases_order place other) [
        | inl same ↦ exact_at_load (reason place) status name fault ends.ends
            (subst Refused_at (sym same) multiplier.refused) faultless
        | inr (inl before) ↦ memory_or (reason place) status name fault
            (held_at multiplier.earlier accepts place multiplier.held before) ends.ends faultless
        | inr (inr after) ↦ absurd (held_none (reason other) name fault
            (held_at ends.earlier accepts other ends.held after) multiplier.refused)
      ]

-- what is refused at a load is the first file that has a fault
pub automata_refused : (files : Files) (file : List ℕ) (presentation : Presentation)
    (name : List ℕ) (fault : FileFault)
    → EndsAtAutomata files file presentation (Refused (File name fault))
    → IsAutomatonRefused files file presentation name fault
automata_refused files file presentation name fault (at_acceptor ends) =
    refused_acceptor (refused_at_load name fault ends)
automata_refused files file presentation name fault (at_multiplier held ends) =
    refused_multiplier held (record {
      earlier = ends.earlier;
      held = ends.held;
      within = ends.within;
      refused = refused_at_load name fault ends.ends;
    })

-- ---- the group and its automata

-- a group that is held is one by its parts
pub group_parts : {files : Files} {file : List ℕ} {presentation : Presentation}
    → HoldsGroup files file presentation
    → (parts : PresentationParts) × HoldsGroupOf files file parts
group_parts {files = files} {file = file} {presentation = presentation} held = (
  parts_of presentation,
  holds_group files file presentation held.presents held.group.shortlex
      held.group.inverses,
)

module _ (have : HaveOneReason) (files : Files) (file : List ℕ) (name : List ℕ) (fault : FileFault)
  where
    -- a group that is held isn't refused
    pub group_held : {presentation : Presentation} → HoldsGroup files file presentation
        → ¬ IsRefusedFor (IsGroupFault files file) file name fault
    group_held held refused = held_none (have.group files file) name fault (group_parts held) refused

    files_exact : (status : Status) → EndsAtFile files file status
        → IsStructureRefused files file name fault → IsFaultless status
        → IsRefusalOrMemory name fault status
    files_exact status (at_group ends) (refused_group refused) faultless =
        exact_at_load (have.group files file) status name fault ends refused faultless
    files_exact status (at_group ends) (refused_automata held refused) faultless =
        memory_or (have.group files file) status name fault (group_parts held) ends faultless
    files_exact status (at_automata held ends) (refused_group refused) faultless =
        absurd (group_held held refused)
    files_exact status (at_automata {presentation = presentation} held ends)
        (refused_automata again refused) faultless =
        automata_exact have files file presentation name fault status ends
        (refused_moved (same_presentation again held) refused) faultless

    structure_held : (presentation : Presentation) (accepts : Automaton)
        (multipliers : List Automaton)
        → HoldStructure files file presentation accepts multipliers
        → ¬ IsStructureRefused files file name fault
    structure_held presentation accepts multipliers held (refused_group refused) =
        group_held held.group refused
    structure_held presentation accepts multipliers held (refused_automata again refused) =
        automata_held have files file presentation name fault accepts multipliers held.accepts
        held.multiply held.one_each (refused_moved (same_presentation again held.group) refused)

files_refused : (files : Files) (file : List ℕ) (name : List ℕ) (fault : FileFault)
    → EndsAtFile files file (Refused (File name fault))
    → IsStructureRefused files file name fault
files_refused files file name fault (at_group ends) =
    refused_group (refused_at_load name fault ends)
files_refused files file name fault (at_automata {presentation = presentation} held ends) =
    refused_automata held (automata_refused files file presentation name fault ends)

-- ---- runs

module _ {found : FoundOf} (are : AreAnswers found) (given : CheckGiven) where
  -- a file that is refused is the first that has a fault
  pub structure_refused : (before after : Outside) (name : List ℕ) (fault : FileFault)
      → StructureMeans found given.file before after (Refused (File name fault))
      → IsStructureRefused before.shelf.holds given.file name fault
  structure_refused before after name fault (at_file ends unchanged) =
      files_refused before.shelf.holds given.file name fault ends
  structure_refused before after name fault
      (loaded {presentation = presentation} {acceptor = accepts} {multipliers = multipliers} held
      means) =
      absurd (answers_refuse_none means (are.answers presentation accepts multipliers) refl)

  -- and where one has a fault it is refused for that
  pub structure_exact : HaveOneReason → (before after : Outside) (status : Status)
      (name : List ℕ) (fault : FileFault)
      → StructureMeans found given.file before after status
      → IsStructureRefused before.shelf.holds given.file name fault → IsFaultless status
      → IsRefusalOrMemory name fault status
  structure_exact have before after status name fault (at_file ends unchanged) refuses faultless =
      files_exact have before.shelf.holds given.file name fault status ends refuses faultless
  structure_exact have before after status name fault
      (loaded {presentation = presentation} {acceptor = accepts} {multipliers = multipliers} held
      means) refuses faultless =
      absurd (structure_held have before.shelf.holds given.file name fault presentation accepts
      multipliers held refuses)
