-- What a load of a file means, from what its parts mean.
use Rattle.std.proofs.Common.{◌≡◌, ℕ, ◌<◌, List, [], length, slice_get, unwrap_or, sym, ◌∙◌, ap, subst}
use Rattle.std.proofs.lemmas.List.{ext_get_or}
use Rattle.std.proofs.lemmas.Option.{unwrap_or-slice_get}
use Rattle.kb_io.specs.States.{ShelfState, SourceState, SinkState}
use Rattle.kb_io.specs.Outside.{outside}
use Rattle.kb_word.specs.Presentations.{parts_of}
use Rattle.kb_word.specs.declared.presentation.Presentation.{Presentation as SomePresentation}
use Rattle.kb_word.specs.declared.word_order.WordOrder.TheVariants.{ShortLex}
use Rattle.kb_diff.specs.Groups.{EachInverts}
use Rattle.kb_fsa.specs.declared.alphabet.Alphabet.{Alphabet}
use Rattle.kb_fsa.specs.declared.alphabet.Alphabet.TheVariants.{Plain, Pair}
use Rattle.kb_fsa.specs.Language.{Automaton}
use Rattle.kb_task.specs.Automata.{HoldsAutomaton, HasKind, IsAutomatonFault, IsSecondFault}
use Rattle.kb_task.specs.Loads.{Files, IsCause, EndsAtLoad, LoadIsCounted, stopped_at}
use Rattle.kb_task.specs.Presentations.{HoldsGroup, HoldsPresentation, IsPresentationFault, IsGroupFault}
use Rattle.kb_task.specs.Runs.{FaultIsCounted}
use Rattle.kb_task.specs.declared.loading.LoadStop.{LoadStop}
use Rattle.kb_task.specs.declared.loading.LoadStop.TheVariants as stops
use Rattle.kb_task.specs.declared.loading.automata.Kind.{Kind}
use Rattle.kb_task.specs.declared.loading.automata.Kind.TheVariants.{Words, Pairs}
use Rattle.kb_task.specs.declared.status.FileFault.{FileFault}
use Rattle.kb_task.specs.declared.status.FileFault.TheVariants.{Missing, TooLong, Presentation, Automaton as NoAutomaton, Log as NoLog, Subgroup as NoSubgroup, NoDerivations, LogUnresolved, NotPlain, NotPairs, AlphabetsDiffer, NeedsShortlex, NotGroup, NoRoom, MarkerTaken}
use Rattle.kb_task.specs.declared.status.Status.{Status}

-- lists of one length that are the same at each place
pub same_places : (xs ys : List (List ℕ)) → length xs ≡ length ys → ((k : ℕ) → k < length xs → slice_get xs k ≡ slice_get ys k) → xs ≡ ys
same_places xs ys long same = ext_get_or [] xs ys long
    (λ k within. sym (unwrap_or-slice_get xs k []) ∙ ap (λ o. unwrap_or o []) (same k within) ∙ unwrap_or-slice_get ys k [])

-- a run that stops at a file ends there
pub ends_at : (IsFault : FileFault → Type 0) (name : List ℕ) (stop : LoadStop) (status : Status) → status ≡ stopped_at name stop
    → IsCause IsFault stop → EndsAtLoad IsFault name status
ends_at IsFault name stop status is cause = record { stop = stop; is = is; cause = cause }

-- the status of a failed load is counted where the load is
counted_at : (name : List ℕ) (stop : LoadStop) (before after : ShelfState) (input : SourceState) (output : SinkState) → LoadIsCounted before after stop
    → FaultIsCounted (outside before input output) (outside after input output) (stopped_at name stop)
counted_at name (stops.Refused fault) before after input output counted = tt
counted_at name stops.Failed before after input output counted = counted
counted_at name stops.Memory before after input output counted = tt

pub fault_at : (name : List ℕ) (stop : LoadStop) (status : Status) (before after : ShelfState) (input : SourceState) (output : SinkState)
    → status ≡ stopped_at name stop → LoadIsCounted before after stop → FaultIsCounted (outside before input output) (outside after input output) status
fault_at name stop status before after input output is counted =
    subst (λ s. FaultIsCounted (outside before input output) (outside after input output) s) (sym is) (counted_at name stop before after input output counted)

-- an automaton of pairs, where words are needed
pub not_plain : (kind : Kind) (files : Files) (name : List ℕ) (names : List (List ℕ)) (automaton : Automaton) (n : ℕ)
    → kind ≡ Words → Pair n ≡ automaton.alphabet → HoldsAutomaton files name names automaton → IsAutomatonFault kind files name NotPlain
not_plain kind files name names automaton n is_words is_pair holds = (
  is_words,
  record {
    names = names;
    automaton = automaton;
    holds = holds;
    other = λ of_kind. let plain = subst (λ k. HasKind k automaton.alphabet) is_words of_kind in let same : Pair n ≡ Plain plain.0 = is_pair ∙ plain.1 in cc;
  },
)

-- an automaton of words, where pairs are needed
pub not_pairs : (kind : Kind) (files : Files) (name : List ℕ) (names : List (List ℕ)) (automaton : Automaton) (n : ℕ)
    → kind ≡ Pairs → Plain n ≡ automaton.alphabet → HoldsAutomaton files name names automaton → IsAutomatonFault kind files name NotPairs
not_pairs kind files name names automaton n is_pairs is_plain holds = (
  is_pairs,
  record {
    names = names;
    automaton = automaton;
    holds = holds;
    other = λ of_kind. let pair = subst (λ k. HasKind k automaton.alphabet) is_pairs of_kind in let same : Plain n ≡ Pair pair.0 = is_plain ∙ pair.1 in cc;
  },
)

-- why a file holds no automaton of a kind at all is why it holds no second one
pub second_fault : (kind : Kind) (names : List (List ℕ)) (alphabet : Alphabet) (files : Files) (name : List ℕ) (fault : FileFault)
    → IsAutomatonFault kind files name fault → IsSecondFault kind names alphabet files name fault
second_fault kind names alphabet files name Missing cause = cause
second_fault kind names alphabet files name TooLong cause = cause
second_fault kind names alphabet files name (NoAutomaton fault) cause = cause
second_fault kind names alphabet files name NotPlain cause = cause
second_fault kind names alphabet files name NotPairs cause = cause
second_fault kind names alphabet files name AlphabetsDiffer cause = absurd cause
second_fault kind names alphabet files name (Presentation fault) cause = cause
second_fault kind names alphabet files name (NoLog fault) cause = cause
second_fault kind names alphabet files name NeedsShortlex cause = cause
second_fault kind names alphabet files name (NotGroup generator) cause = cause
second_fault kind names alphabet files name (NoSubgroup fault) cause = cause
second_fault kind names alphabet files name NoDerivations cause = cause
second_fault kind names alphabet files name (LogUnresolved generator label other) cause = cause
second_fault kind names alphabet files name NoRoom cause = cause
second_fault kind names alphabet files name MarkerTaken cause = cause

pub second_cause : (kind : Kind) (names : List (List ℕ)) (alphabet : Alphabet) (files : Files) (name : List ℕ) (stop : LoadStop)
    → IsCause (IsAutomatonFault kind files name) stop → IsCause (IsSecondFault kind names alphabet files name) stop
second_cause kind names alphabet files name (stops.Refused fault) cause = second_fault kind names alphabet files name fault cause
second_cause kind names alphabet files name stops.Failed cause = tt
second_cause kind names alphabet files name stops.Memory cause = tt

-- why a file holds no presentation is why it holds no group
pub group_fault : (files : Files) (name : List ℕ) (fault : FileFault) → IsPresentationFault files name fault → IsGroupFault files name fault
group_fault files name Missing cause = cause
group_fault files name TooLong cause = cause
group_fault files name (Presentation fault) cause = cause
group_fault files name NeedsShortlex cause = absurd cause
group_fault files name (NotGroup generator) cause = absurd cause
group_fault files name (NoAutomaton fault) cause = cause
group_fault files name (NoLog fault) cause = cause
group_fault files name NotPlain cause = cause
group_fault files name NotPairs cause = cause
group_fault files name AlphabetsDiffer cause = cause
group_fault files name (NoSubgroup fault) cause = cause
group_fault files name NoDerivations cause = cause
group_fault files name (LogUnresolved generator label other) cause = cause
group_fault files name NoRoom cause = cause
group_fault files name MarkerTaken cause = cause

pub group_cause : (files : Files) (name : List ℕ) (stop : LoadStop) → IsCause (IsPresentationFault files name) stop
    → IsCause (IsGroupFault files name) stop
group_cause files name (stops.Refused fault) cause = group_fault files name fault cause
group_cause files name stops.Failed cause = tt
group_cause files name stops.Memory cause = tt

-- a presentation by shortlex that was read, in which each generator has an inverse, is a group's
pub holds_group : (files : Files) (name : List ℕ) (presentation : SomePresentation) → HoldsPresentation files name (parts_of presentation)
    → presentation.order ≡ ShortLex → EachInverts presentation.n presentation.inv → HoldsGroup files name (parts_of presentation)
holds_group files name presentation holds shortlex inverses =
    let P : ℕ → Type 0 = λ n. EachInverts n presentation.inv in
    record {
      holds = holds;
      shortlex = shortlex;
      inverses = subst P (sym presentation.is_presentation.one_name_each) inverses;
    }
