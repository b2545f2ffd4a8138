-- Why a file doesn't hold what is needed: there is one reason at most.
use Rattle.std.proofs.Common.{◌≡◌, ◌≢◌, ℕ, zero, suc, ◌^◌, ◌<◌, ◌≤◌, List, length, Option, None, Some, inl, inr, refl, sym, ap, subst, ◌∙◌, arith}
use Rattle.std.proofs.lemmas.Bool.{cases_lt}
use Rattle.std.proofs.lemmas.Option.{same_Some, none-some}
use Rattle.kb_word.specs.Names.{name_of}
use Rattle.kb_word.specs.Presentations.{PresentationParts}
use Rattle.kb_word.specs.declared.word_order.WordOrder.{WordOrder}
use Rattle.kb_word.specs.declared.word_order.WordOrder.TheVariants.{ShortLex}
use Rattle.kb_presfile.specs.Holds.{PresentationOf}
use Rattle.kb_presfile.specs.Faults.{HasPresFault}
use Rattle.kb_presfile.specs.declared.error.PresError.{PresError}
use Rattle.kb_presfile.specs.declared.error.PresError.TheVariants as pres_errors
use Rattle.kb_proof.specs.Faults.{HasLogFault}
use Rattle.kb_proof.specs.Printable.{AreReadableNames, IsPrintable}
use Rattle.kb_proof.specs.Printed.{text_of_log}
use Rattle.kb_proof.specs.declared.error.LogError.{LogError}
use Rattle.kb_proof.specs.declared.error.LogError.TheVariants as log_errors
use Rattle.kb_proof.specs.declared.log.Log.{Log}
use Rattle.kb_fsa.specs.declared.alphabet.Alphabet.{Alphabet}
use Rattle.kb_fsa.specs.Language.{Automaton}
use Rattle.kb_fsafile.specs.Holds.{AutomatonOf}
use Rattle.kb_fsafile.specs.Faults.{HasFsaFault}
use Rattle.kb_fsafile.specs.declared.error.FsaError.{FsaError}
use Rattle.kb_fsafile.specs.declared.error.FsaError.TheVariants as fsa_errors
use Rattle.kb_task.specs.Automata.{HasKind, IsAutomatonFault, IsSecondFault}
use Rattle.kb_task.specs.Loads.{Files, most_file, IsHeld}
use Rattle.kb_task.specs.Logs.{IsDerivationsFault}
use Rattle.kb_task.specs.Presentations.{IsPresentationFault, IsFirstWithoutInverse, IsGroupFault}
use Rattle.kb_task.specs.declared.loading.automata.Kind.{Kind}
use Rattle.kb_task.specs.declared.loading.automata.Kind.TheVariants.{WordsOrPairs, Words, Pairs}
use Rattle.kb_task.specs.declared.status.FileFault.{FileFault}
use Rattle.kb_task.specs.declared.status.FileFault.TheVariants.{Missing, TooLong, Presentation, Automaton as NoAutomaton, Log as NoLog, NoDerivations, NotPlain, NotPairs, AlphabetsDiffer, NeedsShortlex, NotGroup}
use Rattle.kb_task.proofs.LoadEnds.{same_bytes}

-- ---- files

-- the file isn't there, is too long, or its bytes are refused
pub data IsReason (files : Files) (name : List ℕ) (IsRefused : List ℕ → FileFault → Type 0) (fault : FileFault) : Type 0 where
  missing : fault ≡ Missing → files name ≡ None → IsReason files name IsRefused fault
  too_long : (bytes : List ℕ) → fault ≡ TooLong → files name ≡ Some bytes → most_file < length bytes → IsReason files name IsRefused fault
  refused : (bytes : List ℕ) → IsHeld files name bytes → IsRefused bytes fault → IsReason files name IsRefused fault

pub none_there : (files : Files) (name bytes : List ℕ) → files name ≡ None → files name ≡ Some bytes → ⊥
none_there files name bytes absent there = none-some bytes (sym absent ∙ there)

pub long_held : (files : Files) (name bytes more : List ℕ) → files name ≡ Some more → most_file < length more → IsHeld files name bytes → ⊥
long_held files name bytes more there long held =
    let lengths = ap length (same_Some _ _ (sym there ∙ held.held)) in omega (arith, lengths, long, held.short)

-- where bytes are refused for one reason, so is a file
pub one_reason : (files : Files) (name : List ℕ) (IsRefused : List ℕ → FileFault → Type 0) → ((bytes : List ℕ) (one other : FileFault) → IsRefused bytes one → IsRefused bytes other → one ≡ other)
    → (one other : FileFault) → IsReason files name IsRefused one → IsReason files name IsRefused other → one ≡ other
one_reason files name IsRefused same one other (missing is absent) (missing again empty) = is ∙ sym again
one_reason files name IsRefused same one other (missing is absent) (too_long bytes again there long) = absurd (none_there files name _ absent there)
one_reason files name IsRefused same one other (missing is absent) (refused bytes held fault) = absurd (none_there files name _ absent held.held)
one_reason files name IsRefused same one other (too_long bytes is there long) (missing again absent) = absurd (none_there files name _ absent there)
one_reason files name IsRefused same one other (too_long bytes is there long) (too_long more again here longer) = is ∙ sym again
one_reason files name IsRefused same one other (too_long more is there long) (refused bytes held fault) = absurd (long_held files name bytes more there long held)
one_reason files name IsRefused same one other (refused bytes held fault) (missing is absent) = absurd (none_there files name _ absent held.held)
one_reason files name IsRefused same one other (refused bytes held fault) (too_long more is there long) = absurd (long_held files name bytes more there long held)
one_reason files name IsRefused same one other (refused bytes held fault) (refused read found second) =
    let P : List ℕ → Type 0 = λ b. IsRefused b one in
    same read one other (subst P (same_bytes refl held found) fault) second

-- ---- presentations

-- why bytes are no presentation
pub record IsNoPresentation (bytes : List ℕ) (fault : FileFault) : Type 0 where
  pub error : PresError
  pub is : fault ≡ Presentation error
  pub has : HasPresFault bytes error
  pub named : error ≢ pres_errors.Memory

pub presentation_reason : (files : Files) (name : List ℕ) (fault : FileFault) → IsPresentationFault files name fault → IsReason files name IsNoPresentation fault
presentation_reason files name Missing h = missing refl h
presentation_reason files name TooLong h = too_long h.0 refl h.1 h.2
presentation_reason files name (Presentation error) h = refused h.0 h.1 (record { error = error; is = refl; has = h.2; named = h.3 })
presentation_reason files name _ h = absurd h

module _ (one_fault : (bytes : List ℕ) (one other : PresError) → HasPresFault bytes one → HasPresFault bytes other → one ≢ pres_errors.Memory → other ≢ pres_errors.Memory → one ≡ other) where
  one_no_presentation : (bytes : List ℕ) (one other : FileFault) → IsNoPresentation bytes one → IsNoPresentation bytes other → one ≡ other
  one_no_presentation bytes one other a b = a.is ∙ ap (λ (e : PresError). Presentation e) (one_fault bytes a.error b.error a.has b.has a.named b.named) ∙ sym b.is

  pub one_presentation_fault : (files : Files) (name : List ℕ) (one other : FileFault) → IsPresentationFault files name one → IsPresentationFault files name other → one ≡ other
  one_presentation_fault files name one other a b =
      one_reason files name IsNoPresentation one_no_presentation one other (presentation_reason files name one a) (presentation_reason files name other b)

-- ---- groups

-- why bytes are no group by shortlex
pub data IsNoGroup (bytes : List ℕ) (fault : FileFault) : Type 0 where
  no_presentation : IsNoPresentation bytes fault → IsNoGroup bytes fault
  other_order : (parts : PresentationParts) → fault ≡ NeedsShortlex → PresentationOf bytes parts → parts.order ≢ ShortLex → IsNoGroup bytes fault
  no_inverse : (parts : PresentationParts) (generator : List ℕ) → fault ≡ NotGroup generator → PresentationOf bytes parts → parts.order ≡ ShortLex
      → IsFirstWithoutInverse parts.names parts.inverses generator → IsNoGroup bytes fault

as_group : (files : Files) (name : List ℕ) (fault : FileFault) → IsReason files name IsNoPresentation fault → IsReason files name IsNoGroup fault
as_group files name fault (missing is absent) = missing is absent
as_group files name fault (too_long bytes is there long) = too_long bytes is there long
as_group files name fault (refused bytes held refusal) = refused bytes held (no_presentation refusal)

pub group_reason : (files : Files) (name : List ℕ) (fault : FileFault) → IsGroupFault files name fault → IsReason files name IsNoGroup fault
group_reason files name NeedsShortlex h = refused h.holds.bytes h.holds.held (other_order h.parts refl h.holds.says h.other)
group_reason files name (NotGroup generator) h = refused h.holds.bytes h.holds.held (no_inverse h.parts generator refl h.holds.says h.shortlex h.first)
group_reason files name fault h = as_group files name fault (presentation_reason files name fault h)

-- what has a name is a letter
named_positive : (names : List (List ℕ)) (letter : ℕ) (generator : List ℕ) → name_of names letter ≡ Some generator → 0 < letter
named_positive names zero generator named = absurd (none-some _ named)
named_positive names (suc place) generator named = omega arith

-- one generator is the first without inverse
one_first : (names : List (List ℕ)) (inverses : List (Option ℕ)) (one other : List ℕ) → IsFirstWithoutInverse names inverses one → IsFirstWithoutInverse names inverses other → one ≡ other
one_first names inverses one other a b = elim (cases_lt a.letter b.letter) [
  | inl below ↦ absurd (b.earlier a.letter (named_positive names a.letter one a.named) below a.lacks)
  | inr least ↦ elim (cases_lt b.letter a.letter) [
    | inl below ↦ absurd (a.earlier b.letter (named_positive names b.letter other b.named) below b.lacks)
    | inr low ↦
        let same : a.letter ≡ b.letter = omega arith in
        same_Some _ _ (sym a.named ∙ ap (name_of names) same ∙ b.named)
  ]
]

module _ (one_fault : (bytes : List ℕ) (one other : PresError) → HasPresFault bytes one → HasPresFault bytes other → one ≢ pres_errors.Memory → other ≢ pres_errors.Memory → one ≡ other)
    (no_fault : (bytes : List ℕ) (parts : PresentationParts) (error : PresError) → PresentationOf bytes parts → HasPresFault bytes error → error ≡ pres_errors.Memory)
    (one_presentation : (bytes : List ℕ) (one other : PresentationParts) → PresentationOf bytes one → PresentationOf bytes other → one ≡ other) where
  -- what says a presentation isn't refused as none
  says_none : (bytes : List ℕ) (parts : PresentationParts) (fault : FileFault) → PresentationOf bytes parts → IsNoPresentation bytes fault → ⊥
  says_none bytes parts fault says refusal = refusal.named (no_fault bytes parts refusal.error says refusal.has)

  one_order : (bytes : List ℕ) (one other : PresentationParts) → PresentationOf bytes one → PresentationOf bytes other → one.order ≢ ShortLex → other.order ≡ ShortLex → ⊥
  one_order bytes one other a b apart is = apart (ap (λ parts. parts.order) (one_presentation bytes one other a b) ∙ is)

  one_lacking : (bytes : List ℕ) (first second : PresentationParts) (one other : List ℕ) → PresentationOf bytes first → PresentationOf bytes second → IsFirstWithoutInverse first.names first.inverses one
      → IsFirstWithoutInverse second.names second.inverses other → one ≡ other
  one_lacking bytes first second one other a b lacks lacking =
      let P : PresentationParts → Type 0 = λ parts. IsFirstWithoutInverse parts.names parts.inverses one in
      one_first second.names second.inverses one other (subst P (one_presentation bytes first second a b) lacks) lacking

  one_no_group : (bytes : List ℕ) (one other : FileFault) → IsNoGroup bytes one → IsNoGroup bytes other → one ≡ other
  one_no_group bytes one other (no_presentation a) (no_presentation b) = one_no_presentation one_fault bytes one other a b
  one_no_group bytes one other (no_presentation a) (other_order parts is says apart) = absurd (says_none bytes parts one says a)
  one_no_group bytes one other (no_presentation a) (no_inverse parts generator is says shortlex lacks) = absurd (says_none bytes parts one says a)
  one_no_group bytes one other (other_order parts is says apart) (no_presentation b) = absurd (says_none bytes parts other says b)
  one_no_group bytes one other (other_order parts is says apart) (other_order others again said differs) = is ∙ sym again
  one_no_group bytes one other (other_order parts is says apart) (no_inverse others generator again said shortlex lacks) = absurd (one_order bytes parts others says said apart shortlex)
  one_no_group bytes one other (no_inverse parts generator is says shortlex lacks) (no_presentation b) = absurd (says_none bytes parts other says b)
  one_no_group bytes one other (no_inverse parts generator is says shortlex lacks) (other_order others again said apart) = absurd (one_order bytes others parts said says apart shortlex)
  one_no_group bytes one other (no_inverse parts generator is says shortlex lacks) (no_inverse others named again said short lacking) =
      is ∙ ap (λ (text : List ℕ). NotGroup text) (one_lacking bytes parts others generator named says said lacks lacking) ∙ sym again

  pub one_group_fault : (files : Files) (name : List ℕ) (one other : FileFault) → IsGroupFault files name one → IsGroupFault files name other → one ≡ other
  one_group_fault files name one other a b = one_reason files name IsNoGroup one_no_group one other (group_reason files name one a) (group_reason files name other b)

-- ---- automata

-- the fault of an automaton of another kind
abbrev kind_fault : Kind → FileFault
kind_fault WordsOrPairs = NotPlain
kind_fault Words = NotPlain
kind_fault Pairs = NotPairs

-- why bytes are no automaton of the kind
pub data IsNoAutomaton (kind : Kind) (bytes : List ℕ) (fault : FileFault) : Type 0 where
  no_automaton : (error : FsaError) → fault ≡ NoAutomaton error → HasFsaFault bytes error → error ≢ fsa_errors.Memory → IsNoAutomaton kind bytes fault
  other_kind : (names : List (List ℕ)) (automaton : Automaton) → fault ≡ kind_fault kind → AutomatonOf bytes names automaton → ¬ HasKind kind automaton.alphabet → IsNoAutomaton kind bytes fault

pub automaton_reason : (kind : Kind) (files : Files) (name : List ℕ) (fault : FileFault) → IsAutomatonFault kind files name fault → IsReason files name (IsNoAutomaton kind) fault
automaton_reason kind files name Missing h = missing refl h
automaton_reason kind files name TooLong h = too_long h.0 refl h.1 h.2
automaton_reason kind files name (NoAutomaton error) h = refused h.0 h.1 (no_automaton error refl h.2 h.3)
automaton_reason kind files name NotPlain h = refused h.1.holds.bytes h.1.holds.held (other_kind h.1.names h.1.automaton (ap kind_fault (sym h.0)) h.1.holds.says h.1.other)
automaton_reason kind files name NotPairs h = refused h.1.holds.bytes h.1.holds.held (other_kind h.1.names h.1.automaton (ap kind_fault (sym h.0)) h.1.holds.says h.1.other)
automaton_reason kind files name _ h = absurd h

-- why bytes are no automaton of the kind over the alphabet of a first one
data IsNoSecond (kind : Kind) (names : List (List ℕ)) (alphabet : Alphabet) (bytes : List ℕ) (fault : FileFault) : Type 0 where
  other_alphabet : (others : List (List ℕ)) (automaton : Automaton) → fault ≡ AlphabetsDiffer → AutomatonOf bytes others automaton → HasKind kind automaton.alphabet → IsNoSecond kind names alphabet bytes fault
  none_of_kind : IsNoAutomaton kind bytes fault → IsNoSecond kind names alphabet bytes fault

as_second : (kind : Kind) (names : List (List ℕ)) (alphabet : Alphabet) (files : Files) (name : List ℕ) (fault : FileFault) → IsReason files name (IsNoAutomaton kind) fault
    → IsReason files name (IsNoSecond kind names alphabet) fault
as_second kind names alphabet files name fault (missing is absent) = missing is absent
as_second kind names alphabet files name fault (too_long bytes is there long) = too_long bytes is there long
as_second kind names alphabet files name fault (refused bytes held refusal) = refused bytes held (none_of_kind refusal)

second_reason : (kind : Kind) (names : List (List ℕ)) (alphabet : Alphabet) (files : Files) (name : List ℕ) (fault : FileFault) → IsSecondFault kind names alphabet files name fault
    → IsReason files name (IsNoSecond kind names alphabet) fault
second_reason kind names alphabet files name AlphabetsDiffer h = refused h.holds.bytes h.holds.held (other_alphabet h.others h.automaton refl h.holds.says h.of_kind)
second_reason kind names alphabet files name fault h = as_second kind names alphabet files name fault (automaton_reason kind files name fault h)

module _ (one_fault : (bytes : List ℕ) (one other : FsaError) → HasFsaFault bytes one → HasFsaFault bytes other → one ≢ fsa_errors.Memory → other ≢ fsa_errors.Memory → one ≡ other)
    (no_fault : (bytes : List ℕ) (names : List (List ℕ)) (automaton : Automaton) (error : FsaError) → AutomatonOf bytes names automaton → HasFsaFault bytes error → error ≡ fsa_errors.Memory) (kind : Kind) where
  one_no_automaton : (bytes : List ℕ) (one other : FileFault) → IsNoAutomaton kind bytes one → IsNoAutomaton kind bytes other → one ≡ other
  one_no_automaton bytes one other (no_automaton e is has some) (no_automaton f again found any) = is ∙ ap (λ (x : FsaError). NoAutomaton x) (one_fault bytes e f has found some any) ∙ sym again
  one_no_automaton bytes one other (no_automaton e is has some) (other_kind names automaton again says apart) = absurd (some (no_fault bytes names automaton e says has))
  one_no_automaton bytes one other (other_kind names automaton is says apart) (no_automaton e again has some) = absurd (some (no_fault bytes names automaton e says has))
  one_no_automaton bytes one other (other_kind names automaton is says apart) (other_kind others second again said differs) = is ∙ sym again

  pub one_automaton_fault : (files : Files) (name : List ℕ) (one other : FileFault) → IsAutomatonFault kind files name one → IsAutomatonFault kind files name other → one ≡ other
  one_automaton_fault files name one other a b = one_reason files name (IsNoAutomaton kind) one_no_automaton one other (automaton_reason kind files name one a) (automaton_reason kind files name other b)

  module _ (one_automaton : (bytes : List ℕ) (names others : List (List ℕ)) (one other : Automaton) → AutomatonOf bytes names one → AutomatonOf bytes others other → (names ≡ others) × (one ≡ other))
      (names : List (List ℕ)) (alphabet : Alphabet) where
    -- what says an automaton of the kind isn't refused as none
    of_kind_none : (bytes : List ℕ) (others : List (List ℕ)) (automaton : Automaton) (fault : FileFault) → AutomatonOf bytes others automaton → HasKind kind automaton.alphabet → IsNoAutomaton kind bytes fault → ⊥
    of_kind_none bytes others automaton fault says is_kind (no_automaton e is has some) = some (no_fault bytes others automaton e says has)
    of_kind_none bytes others automaton fault says is_kind (other_kind found read is said apart) =
        let P : Automaton → Type 0 = λ m. HasKind kind m.alphabet in
        apart (subst P (one_automaton bytes others found automaton read says said).1 is_kind)

    one_no_second : (bytes : List ℕ) (one other : FileFault) → IsNoSecond kind names alphabet bytes one → IsNoSecond kind names alphabet bytes other → one ≡ other
    one_no_second bytes one other (other_alphabet others automaton is says is_kind) (other_alphabet found read again said of_kind) = is ∙ sym again
    one_no_second bytes one other (other_alphabet others automaton is says is_kind) (none_of_kind b) = absurd (of_kind_none bytes others automaton other says is_kind b)
    one_no_second bytes one other (none_of_kind a) (other_alphabet others automaton is says is_kind) = absurd (of_kind_none bytes others automaton one says is_kind a)
    one_no_second bytes one other (none_of_kind a) (none_of_kind b) = one_no_automaton bytes one other a b

    pub one_second_fault : (files : Files) (name : List ℕ) (one other : FileFault) → IsSecondFault kind names alphabet files name one → IsSecondFault kind names alphabet files name other → one ≡ other
    one_second_fault files name one other a b =
        one_reason files name (IsNoSecond kind names alphabet) one_no_second one other (second_reason kind names alphabet files name one a) (second_reason kind names alphabet files name other b)

-- ---- logs

-- why bytes are no log with derivations
data IsNoDerivations (names : List (List ℕ)) (bytes : List ℕ) (fault : FileFault) : Type 0 where
  no_log : (error : LogError) → fault ≡ NoLog error → HasLogFault names bytes error → error ≢ log_errors.Memory → length bytes ≤ most_file → IsNoDerivations names bytes fault
  without : (log : Log) → fault ≡ NoDerivations → bytes ≡ text_of_log names log → IsPrintable names log → IsNoDerivations names bytes fault

derivations_reason : (names : List (List ℕ)) (files : Files) (name : List ℕ) (fault : FileFault) → IsDerivationsFault names files name fault → IsReason files name (IsNoDerivations names) fault
derivations_reason names files name Missing h = missing refl h
derivations_reason names files name TooLong h = too_long h.0 refl h.1 h.2
derivations_reason names files name (NoLog error) h = refused h.0 h.1 (no_log error refl h.2 h.3 h.1.short)
derivations_reason names files name NoDerivations h = refused h.holds.bytes h.holds.held (without h.log refl h.holds.says h.holds.printable)
derivations_reason names files name _ h = absurd h

module _ (one_fault : (names : List (List ℕ)) (bytes : List ℕ) (one other : LogError) → AreReadableNames names → length bytes < 2 ^ 64 → one ≢ log_errors.Memory → other ≢ log_errors.Memory
    → HasLogFault names bytes one → HasLogFault names bytes other → one ≡ other)
    (no_fault : (names : List (List ℕ)) (log : Log) (error : LogError) → AreReadableNames names → IsPrintable names log → HasLogFault names (text_of_log names log) error
    → error ≡ log_errors.Memory) (names : List (List ℕ)) (readable : AreReadableNames names) where
  printed_none : (bytes : List ℕ) (log : Log) (error : LogError) → bytes ≡ text_of_log names log → IsPrintable names log → HasLogFault names bytes error → error ≢ log_errors.Memory → ⊥
  printed_none bytes log error says printable has some =
      let P : List ℕ → Type 0 = λ text. HasLogFault names text error in
      some (no_fault names log error readable printable (subst P says has))

  one_no_derivations : (bytes : List ℕ) (one other : FileFault) → IsNoDerivations names bytes one → IsNoDerivations names bytes other → one ≡ other
  one_no_derivations bytes one other (no_log e is has some short) (no_log f again found any small) =
      is ∙ ap (λ (x : LogError). NoLog x) (one_fault names bytes e f readable (omega (arith, short)) some any has found) ∙ sym again
  one_no_derivations bytes one other (no_log e is has some short) (without log again says printable) = absurd (printed_none bytes log e says printable has some)
  one_no_derivations bytes one other (without log is says printable) (no_log e again has some short) = absurd (printed_none bytes log e says printable has some)
  one_no_derivations bytes one other (without log is says printable) (without found again said printed) = is ∙ sym again

  pub one_derivations_fault : (files : Files) (name : List ℕ) (one other : FileFault) → IsDerivationsFault names files name one → IsDerivationsFault names files name other → one ≡ other
  one_derivations_fault files name one other a b =
      one_reason files name (IsNoDerivations names) one_no_derivations one other (derivations_reason names files name one a) (derivations_reason names files name other b)
