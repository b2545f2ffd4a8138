-- A file that holds what is needed is refused for no reason.
use Rattle.std.proofs.Common.{◌≡◌, ◌≢◌, ◌∙◌, ℕ, zero, suc, ◌<◌, ◌≤◌, List, Contains, length, None, Some, refl, sym, ap, subst, arith}
use Rattle.std.proofs.lemmas.Option.{none-some, slice_get_within}
use Rattle.kb_word.specs.Names.{name_of}
use Rattle.kb_word.specs.Presentations.{PresentationParts}
use Rattle.kb_word.specs.Relations.{inverse_letter}
use Rattle.kb_word.specs.declared.word_order.WordOrder.TheVariants.{ShortLex}
use Rattle.kb_presfile.specs.Holds.{PresentationOf}
use Rattle.kb_presfile.specs.Faults.{HasPresFault}
use Rattle.kb_presfile.specs.declared.error.PresError.{PresError}
use Rattle.kb_presfile.specs.declared.error.PresError.TheVariants as pres_errors
use Rattle.kb_subfile.specs.Holds.{GeneratorsOf}
use Rattle.kb_subfile.specs.Faults.{HasSubFault}
use Rattle.kb_subfile.specs.declared.error.SubError.{SubError}
use Rattle.kb_subfile.specs.declared.error.SubError.TheVariants as sub_errors
use Rattle.kb_proof.specs.Faults.{HasLogFault}
use Rattle.kb_proof.specs.Printable.{AreReadableNames, IsPrintable}
use Rattle.kb_proof.specs.Printed.{text_of_log}
use Rattle.kb_proof.specs.declared.error.LogError.{LogError}
use Rattle.kb_proof.specs.declared.error.LogError.TheVariants as log_errors
use Rattle.kb_proof.specs.declared.log.Log.{Log}
use Rattle.kb_proof.specs.declared.log.Version.{Version}
use Rattle.kb_proof.specs.declared.log.Version.TheVariants.{One, Two}
use Rattle.kb_fsa.specs.declared.alphabet.Alphabet.{Alphabet}
use Rattle.kb_fsa.specs.Language.{Automaton}
use Rattle.kb_fsafile.specs.Holds.{AutomatonOf}
use Rattle.kb_fsafile.specs.Faults.{HasFsaFault}
use Rattle.kb_fsafile.specs.declared.error.FsaError.{FsaError}
use Rattle.kb_fsafile.specs.declared.error.FsaError.TheVariants as fsa_errors
use Rattle.kb_word.specs.Names.{AreApart}
use Rattle.kb_task.specs.Automata.{HasKind, HoldsAutomaton, IsAutomatonFault, IsSecondFault}
use Rattle.kb_task.specs.Loads.{Files, IsHeld}
use Rattle.kb_task.specs.Logs.{HoldsDerivations, HoldsLog, IsDerivationsFault, IsLogFault}
use Rattle.kb_task.specs.OneReason.{HoldsOfKind, HoldsOver}
use Rattle.kb_task.specs.Presentations.{HoldsGroup, HoldsOtherOrder, HoldsPresentation, IsFirstWithoutInverse, IsGroupFault, IsPresentationFault, IsShortlexFault}
use Rattle.kb_task.specs.Subgroups.{HasMarker, HasNoRoom, HoldsMarkable, HoldsSubgroup, IsMarkableFault, IsSubgroupFault, marker_name}
use Rattle.kb_task.specs.declared.loading.automata.Kind.{Kind}
use Rattle.kb_task.specs.declared.status.FileFault.{FileFault}
use Rattle.kb_task.specs.declared.status.FileFault.TheVariants.{Missing, TooLong, Presentation, Automaton as NoAutomaton, Log as NoLog, Subgroup as NoSubgroup, NoDerivations, NotPlain, NotPairs, AlphabetsDiffer, NeedsShortlex, NotGroup, NoRoom, MarkerTaken}
use Rattle.kb_task.proofs.HeldLogs.{one_log_held}
use Rattle.kb_task.proofs.LoadEnds.{one_held, one_presentation_held, same_bytes}
use Rattle.kb_task.proofs.OneReason.{IsReason, missing, too_long, refused, IsNoAutomaton, no_automaton, other_kind, IsNoPresentation, automaton_reason, long_held, none_there, one_reason, presentation_reason}

-- ---- files

-- bytes that aren't refused are those of a file that isn't
held_unrefused : (files : Files) (name bytes : List ℕ) (IsRefused : List ℕ → FileFault → Type 0) (fault : FileFault) → IsHeld files name bytes
    → ¬ IsRefused bytes fault → ¬ IsReason files name IsRefused fault
held_unrefused files name bytes IsRefused fault held right (missing is absent) = none_there files name bytes absent held.held
held_unrefused files name bytes IsRefused fault held right (too_long more is there long) = long_held files name bytes more there long held
held_unrefused files name bytes IsRefused fault held right (refused read found wrong) =
    right (subst (λ b. IsRefused b fault) (sym (same_bytes refl held found)) wrong)

-- ---- presentations

-- what has a name is one of the letters
named_within : (names : List (List ℕ)) (letter : ℕ) (generator : List ℕ) → name_of names letter ≡ Some generator → (0 < letter) × (letter ≤ length names)
named_within names zero generator named = absurd (none-some _ named)
named_within names (suc place) generator named =
    let within = slice_get_within names place generator named in (omega arith, omega (arith, within))

module _ (no_fault : (bytes : List ℕ) (parts : PresentationParts) (error : PresError) → PresentationOf bytes parts → HasPresFault bytes error → error ≡ pres_errors.Memory) where
  pub presentation_unrefused : (files : Files) (name : List ℕ) (parts : PresentationParts) (fault : FileFault) → HoldsPresentation files name parts
      → ¬ IsPresentationFault files name fault
  presentation_unrefused files name parts fault holds cause =
      held_unrefused files name holds.bytes IsNoPresentation fault holds.held
      (λ refusal. refusal.named (no_fault holds.bytes parts refusal.error holds.says refusal.has)) (presentation_reason files name fault cause)

  pub shortlex_unrefused : (files : Files) (name : List ℕ) (parts : PresentationParts) (fault : FileFault) → HoldsPresentation files name parts
      → parts.order ≡ ShortLex → ¬ IsShortlexFault files name fault
  shortlex_unrefused files name parts NeedsShortlex holds shortlex cause =
      cause.other (ap (λ (p : PresentationParts). p.order) (one_presentation_held refl cause.holds holds) ∙ shortlex)
  shortlex_unrefused files name parts fault holds shortlex cause = presentation_unrefused files name parts fault holds cause

  pub group_unrefused : (files : Files) (name : List ℕ) (parts : PresentationParts) (fault : FileFault) → HoldsGroup files name parts
      → ¬ IsGroupFault files name fault
  group_unrefused files name parts NeedsShortlex group cause = shortlex_unrefused files name parts NeedsShortlex group.holds group.shortlex cause
  group_unrefused files name parts (NotGroup generator) group cause =
      let P : PresentationParts → Type 0 = λ p. IsFirstWithoutInverse p.names p.inverses generator in
      let first = subst P (one_presentation_held refl cause.holds group.holds) cause.first in
      let within = named_within parts.names first.letter generator first.named in
      let inverse = group.inverses first.letter within.0 within.1 in
      none-some inverse.0 (sym first.lacks ∙ inverse.1)
  group_unrefused files name parts fault group cause = presentation_unrefused files name parts fault group.holds cause

  pub markable_unrefused : (files : Files) (name : List ℕ) (parts : PresentationParts) (fault : FileFault) → HoldsMarkable files name parts
      → ¬ IsMarkableFault files name fault
  markable_unrefused files name parts NoRoom held cause =
      let same : cause.parts ≡ parts = one_presentation_held refl cause.group.holds held.group.holds in
      let full = cause.full in
      let room = held.room in
      omega (arith, full, room, ap (λ (p : PresentationParts). length p.names) same)
  markable_unrefused files name parts MarkerTaken held cause =
      let same : parts ≡ cause.parts = one_presentation_held refl held.group.holds cause.group.holds in
      let P : PresentationParts → Type 0 = λ p. ¬ Contains p.names marker_name in
      subst P same held.free cause.taken
  markable_unrefused files name parts fault held cause = group_unrefused files name parts fault held.group cause

-- a file that is refused where presentations by shortlex are needed is refused where groups are
pub shortlex_group : (files : Files) (name : List ℕ) (fault : FileFault) → IsShortlexFault files name fault → IsGroupFault files name fault
shortlex_group files name NeedsShortlex cause = cause
shortlex_group files name (NotGroup generator) cause = absurd cause
shortlex_group files name fault cause = cause

-- ---- groups with room for a marker

-- why a file holds no group to which the marker can be added
data IsNoMarkable (files : Files) (name : List ℕ) (fault : FileFault) : Type 0 where
  no_group : IsGroupFault files name fault → IsNoMarkable files name fault
  no_room : fault ≡ NoRoom → HasNoRoom files name → IsNoMarkable files name fault
  marker_taken : fault ≡ MarkerTaken → HasMarker files name → IsNoMarkable files name fault

markable_reason : (files : Files) (name : List ℕ) (fault : FileFault) → IsMarkableFault files name fault → IsNoMarkable files name fault
markable_reason files name NoRoom cause = no_room refl cause
markable_reason files name MarkerTaken cause = marker_taken refl cause
markable_reason files name fault cause = no_group cause

-- there is room or there is none
room_or_full : (files : Files) (name : List ℕ) → HasNoRoom files name → HasMarker files name → ⊥
room_or_full files name none marked =
    let same : none.parts ≡ marked.parts = one_presentation_held refl none.group.holds marked.group.holds in
    let full = none.full in
    let room = marked.room in
    omega (arith, full, room, ap (λ (p : PresentationParts). length p.names) same)

module _ (files : Files) (name : List ℕ) (one_group : (one other : FileFault) → IsGroupFault files name one → IsGroupFault files name other → one ≡ other)
    (right : (parts : PresentationParts) (fault : FileFault) → HoldsGroup files name parts → ¬ IsGroupFault files name fault) where
  one_no_markable : (one other : FileFault) → IsNoMarkable files name one → IsNoMarkable files name other → one ≡ other
  one_no_markable one other (no_group a) (no_group b) = one_group one other a b
  one_no_markable one other (no_group a) (no_room is none) = absurd (right none.parts one none.group a)
  one_no_markable one other (no_group a) (marker_taken is marked) = absurd (right marked.parts one marked.group a)
  one_no_markable one other (no_room is none) (no_group b) = absurd (right none.parts other none.group b)
  one_no_markable one other (no_room is none) (no_room again empty) = is ∙ sym again
  one_no_markable one other (no_room is none) (marker_taken again marked) = absurd (room_or_full files name none marked)
  one_no_markable one other (marker_taken is marked) (no_group b) = absurd (right marked.parts other marked.group b)
  one_no_markable one other (marker_taken is marked) (no_room again none) = absurd (room_or_full files name none marked)
  one_no_markable one other (marker_taken is marked) (marker_taken again taken) = is ∙ sym again

  pub one_markable_fault : (one other : FileFault) → IsMarkableFault files name one → IsMarkableFault files name other → one ≡ other
  one_markable_fault one other a b = one_no_markable one other (markable_reason files name one a) (markable_reason files name other b)

-- ---- subgroups

-- why bytes say no generators
record IsNoSubgroup (parts : PresentationParts) (bytes : List ℕ) (fault : FileFault) : Type 0 where
  error : SubError
  is : fault ≡ NoSubgroup error
  has : HasSubFault parts bytes error
  named : error ≢ sub_errors.Memory

subgroup_reason : (parts : PresentationParts) (files : Files) (name : List ℕ) (fault : FileFault) → IsSubgroupFault parts files name fault
    → IsReason files name (IsNoSubgroup parts) fault
subgroup_reason parts files name Missing h = missing refl h
subgroup_reason parts files name TooLong h = too_long h.0 refl h.1 h.2
subgroup_reason parts files name (NoSubgroup error) h = refused h.0 h.1 (record { error = error; is = refl; has = h.2; named = h.3 })
subgroup_reason parts files name _ h = absurd h

module _ (one_fault : (bytes : List ℕ) (parts : PresentationParts) (one other : SubError) → HasSubFault parts bytes one → HasSubFault parts bytes other
    → one ≢ sub_errors.Memory → other ≢ sub_errors.Memory → one ≡ other) where
  one_no_subgroup : (parts : PresentationParts) (bytes : List ℕ) (one other : FileFault) → IsNoSubgroup parts bytes one → IsNoSubgroup parts bytes other → one ≡ other
  one_no_subgroup parts bytes one other a b =
      a.is ∙ ap (λ (e : SubError). NoSubgroup e) (one_fault bytes parts a.error b.error a.has b.has a.named b.named) ∙ sym b.is

  pub one_subgroup_fault : (parts : PresentationParts) (files : Files) (name : List ℕ) (one other : FileFault) → IsSubgroupFault parts files name one
      → IsSubgroupFault parts files name other → one ≡ other
  one_subgroup_fault parts files name one other a b =
      one_reason files name (IsNoSubgroup parts) (one_no_subgroup parts) one other (subgroup_reason parts files name one a)
      (subgroup_reason parts files name other b)

pub subgroup_unrefused : ((bytes : List ℕ) (parts : PresentationParts) (generators : List (List ℕ)) (error : SubError) → GeneratorsOf bytes parts generators
    → HasSubFault parts bytes error → error ≡ sub_errors.Memory)
    → (parts : PresentationParts) (files : Files) (name : List ℕ) (generators : List (List ℕ)) (fault : FileFault)
    → HoldsSubgroup parts files name generators → ¬ IsSubgroupFault parts files name fault
subgroup_unrefused no_fault parts files name generators fault holds cause =
    held_unrefused files name holds.bytes (IsNoSubgroup parts) fault holds.held
    (λ refusal. refusal.named (no_fault holds.bytes parts generators refusal.error holds.says refusal.has)) (subgroup_reason parts files name fault cause)

-- ---- automata

module _ (no_fault : (bytes : List ℕ) (names : List (List ℕ)) (automaton : Automaton) (error : FsaError) → AutomatonOf bytes names automaton → HasFsaFault bytes error
    → error ≡ fsa_errors.Memory) (kind : Kind) (files : Files) (name : List ℕ) where
  pub automaton_unrefused : (names : List (List ℕ)) (automaton : Automaton) (fault : FileFault) → HoldsAutomaton files name names automaton
      → HasKind kind automaton.alphabet → ¬ IsAutomatonFault kind files name fault
  automaton_unrefused names automaton Missing holds of_kind cause = none_there files name holds.bytes cause holds.held.held
  automaton_unrefused names automaton TooLong holds of_kind cause = long_held files name holds.bytes cause.0 cause.1 cause.2 holds.held
  automaton_unrefused names automaton (NoAutomaton error) holds of_kind cause =
      let P : List ℕ → Type 0 = λ b. HasFsaFault b error in
      cause.3 (no_fault holds.bytes names automaton error holds.says (subst P (same_bytes refl cause.1 holds.held) cause.2))
  automaton_unrefused names automaton NotPlain holds of_kind cause =
      let P : Automaton → Type 0 = λ a. HasKind kind a.alphabet in
      cause.1.other (subst P (one_held refl holds cause.1.holds).1 of_kind)
  automaton_unrefused names automaton NotPairs holds of_kind cause =
      let P : Automaton → Type 0 = λ a. HasKind kind a.alphabet in
      cause.1.other (subst P (one_held refl holds cause.1.holds).1 of_kind)
  automaton_unrefused names automaton _ holds of_kind cause = cause

  pub second_unrefused : (names : List (List ℕ)) (alphabet : Alphabet) (automaton : Automaton) (fault : FileFault)
      → HoldsOver kind names alphabet files name automaton → ¬ IsSecondFault kind names alphabet files name fault
  second_unrefused names alphabet automaton AlphabetsDiffer holds cause =
      let one = one_held refl cause.holds holds.0 in
      cause.differ (one.0, ap (λ (a : Automaton). a.alphabet) one.1 ∙ holds.1)
  second_unrefused names alphabet automaton fault holds cause = automaton_unrefused names automaton fault holds.0 holds.2 cause

-- ---- logs

one_version : Two ≡ One → ⊥
one_version is = cc

module _ (no_fault : (names : List (List ℕ)) (log : Log) (error : LogError) → AreReadableNames names → IsPrintable names log
    → HasLogFault names (text_of_log names log) error → error ≡ log_errors.Memory) (files : Files) (name : List ℕ) (names : List (List ℕ)) (log : Log) where
  pub log_unrefused : (fault : FileFault) → HoldsLog files name names log → ¬ IsLogFault names files name fault
  log_unrefused Missing holds cause = none_there files name holds.bytes cause holds.held.held
  log_unrefused TooLong holds cause = long_held files name holds.bytes cause.0 cause.1 cause.2 holds.held
  log_unrefused (NoLog error) holds cause =
      let P : List ℕ → Type 0 = λ b. HasLogFault names b error in
      cause.3 (no_fault names log error holds.readable holds.printable (subst P (same_bytes refl cause.1 holds.held ∙ holds.says) cause.2))
  log_unrefused _ holds cause = cause

  pub derivations_unrefused : (fault : FileFault) → AreApart names → HoldsDerivations files name names log → ¬ IsDerivationsFault names files name fault
  derivations_unrefused NoDerivations apart held cause =
      one_version (sym held.with_derivations ∙ (one_log_held apart refl held.holds cause.holds).version ∙ cause.without)
  derivations_unrefused fault apart held cause = log_unrefused fault held.holds cause
