-- Of runs over one or two files: where nothing is refused the load isn't their end, and two runs over the same files
-- loaded the same automata.
use Rattle.std.proofs.Common.{◌≡◌, ℕ, List, refl, sym, ap₂, subst}
use Rattle.kb_io.specs.Outside.{Outside}
use Rattle.kb_fsa.specs.Language.{Automaton}
use Rattle.kb_task.specs.Automata.{HasKind, IsAutomatonFault, IsSecondFault}
use Rattle.kb_task.specs.Loads.{Files}
use Rattle.kb_task.specs.OneReason.{HaveOneReason, HoldsOfKind, HoldsOver}
use Rattle.kb_task.specs.Refusals.{IsLoadFault, IsRefusalOrMemory, RefusesNone}
use Rattle.kb_task.specs.Statuses.{IsConclusive, IsFaultless}
use Rattle.kb_task.specs.declared.loading.automata.Kind.{Kind}
use Rattle.kb_fsa.specs.declared.alphabet.Alphabet.{Alphabet}
use Rattle.kb_task.specs.declared.status.FileFault.{FileFault}
use Rattle.kb_task.specs.declared.status.Refusal.TheVariants.{File}
use Rattle.kb_task.specs.declared.status.Status.{Status}
use Rattle.kb_task.specs.declared.status.Status.TheVariants.{Refused, Memory}
use Rattle.kb_task.proofs.LoadEnds.{memory_at_load, load_inconclusive, one_held}
use Rattle.kb_task.proofs.RefusalLemmas.{ReadsOne, ReadsTwo, ends_first, ends_next, ends_there, reads_both, reads_it, exact_of_one, exact_of_two, refused_of_one, refused_of_two}
use Rattle.kb_cmd_automata.specs.Loaded.{MeaningOfOne, MeaningOfTwo, OneMeans, TwoMean, at_load, loaded, at_first, at_second, both, IsUnrefusedAs, AreBothUnrefused, RefusesAs, RefusesOfTwo}

-- where nothing is refused, the status is one of those after the load
module _ (Answers : Status → Type 0) (on_memory : Answers Memory) (before after : Outside)
    (status : Status)
    (faultless : IsFaultless status) where
  pub one_answers : (kind : Kind) (file : List ℕ) (Means : MeaningOfOne)
      → ((names : List (List ℕ)) (automaton : Automaton) → Means names automaton before after status
      → Answers status)
      → IsUnrefusedAs kind file before → OneMeans kind file Means before after status
      → Answers status
  one_answers kind file Means answers unrefused (at_load ends unchanged) =
      subst Answers (sym (memory_at_load _ file status unrefused faultless ends)) on_memory
  one_answers kind file Means answers unrefused
      (loaded {names = names} {automaton = automaton} holds is_kind means) =
      answers names automaton means

  pub two_answer : (kind : Kind) (one two : List ℕ) (Mean : MeaningOfTwo)
      → ((names : List (List ℕ)) (first second : Automaton)
      → Mean names first second before after status
      → Answers status)
      → AreBothUnrefused kind one two before → TwoMean kind one two Mean before after status
      → Answers status
  two_answer kind one two Mean answers unrefused (at_first ends unchanged) =
      subst Answers (sym (memory_at_load _ one status unrefused.first faultless ends)) on_memory
  two_answer kind one two Mean answers unrefused
      (at_second {names = names} {first = first} holds is_kind ends unchanged) =
      subst Answers
      (sym (memory_at_load _ two status (unrefused.second names first holds) faultless ends))
      on_memory
  two_answer kind one two Mean answers unrefused
      (both {names = names} {first = first} {second = second} holds is_kind second_holds
      alphabet means) =
      answers names first second means

-- two runs that answered
module _ (before after other_before other_after : Outside) (status other : Status)
    (conclusive : IsConclusive status) (also_conclusive : IsConclusive other) where
  -- over the same file they are about the same automaton
  pub over_one : (P : Type 0) (kind : Kind) (file : List ℕ) (Means OtherMeans : MeaningOfOne)
      → ((names : List (List ℕ)) (automaton : Automaton) → Means names automaton before after status
      → OtherMeans names automaton other_before other_after other → P)
      → before.shelf.holds file ≡ other_before.shelf.holds file
      → OneMeans kind file Means before after status
      → OneMeans kind file OtherMeans other_before other_after other → P
  over_one P kind file Means OtherMeans so same (at_load ends unchanged) more =
      absurd (load_inconclusive _ file status ends conclusive)
  over_one P kind file Means OtherMeans so same more (at_load ends unchanged) =
      absurd (load_inconclusive _ file other ends also_conclusive)
  over_one P kind file Means OtherMeans so same
      (loaded {names = names} {automaton = automaton} holds is_kind means)
      (loaded {names = found} {automaton = second} held also_kind others) =
      let one = one_held same holds held in
      so names automaton means
      (subst (λ n. OtherMeans n automaton other_before other_after other) (sym one.0)
      (subst (λ a. OtherMeans found a other_before other_after other) (sym one.1) others))

  -- over the same files they are about the same automata
  pub over_two : (P : Type 0) (kind : Kind) (one two : List ℕ) (Mean OtherMean : MeaningOfTwo)
      → ((names : List (List ℕ)) (first second : Automaton)
      → Mean names first second before after status
      → OtherMean names first second other_before other_after other → P)
      → before.shelf.holds one ≡ other_before.shelf.holds one
      → before.shelf.holds two ≡ other_before.shelf.holds two
      → TwoMean kind one two Mean before after status
      → TwoMean kind one two OtherMean other_before other_after other → P
  over_two P kind one two Mean OtherMean so same also (at_first ends unchanged) more =
      absurd (load_inconclusive _ one status ends conclusive)
  over_two P kind one two Mean OtherMean so same also
      (at_second holds is_kind ends unchanged) more =
      absurd (load_inconclusive _ two status ends conclusive)
  over_two P kind one two Mean OtherMean so same also more (at_first ends unchanged) =
      absurd (load_inconclusive _ one other ends also_conclusive)
  over_two P kind one two Mean OtherMean so same also more
      (at_second holds is_kind ends unchanged) =
      absurd (load_inconclusive _ two other ends also_conclusive)
  over_two P kind one two Mean OtherMean so same also
      (both {names = names} {first = first} {second = second} holds is_kind
      second_holds alphabet means)
      (both {names = found} {first = other_first} {second = other_second} held also_kind second_held
      also_alphabet others) =
      let firsts = one_held same holds held in
      let seconds = one_held also second_holds second_held in
      so names first second means
      (subst (λ n. OtherMean n first second other_before other_after other) (sym firsts.0)
      (subst (λ a. OtherMean found a second other_before other_after other) (sym firsts.1)
      (subst (λ a. OtherMean found other_first a other_before other_after other)
      (sym seconds.1) others)))

-- ---- refused files

-- a file holds one automaton, with the names of its letters
one_loaded : (kind : Kind) (files : Files) (file : List ℕ) (one other : List (List ℕ) × Automaton)
    → HoldsOfKind kind files file one → HoldsOfKind kind files file other → one ≡ other
one_loaded kind files file one other held again =
    let same = one_held refl held.0 again.0 in
    ap₂ (λ (names : List (List ℕ)) (automaton : Automaton). (names, automaton)) same.0 same.1

-- of what a run means of an automaton, whether it refuses no file
abbrev pub RefuseNone : MeaningOfOne → Type 0
RefuseNone Means = (names : List (List ℕ)) (automaton : Automaton) (before after : Outside)
    (status : Status)
    → Means names automaton before after status → RefusesNone status

abbrev pub BothRefuseNone : MeaningOfTwo → Type 0
BothRefuseNone Mean = (names : List (List ℕ)) (first second : Automaton) (before after : Outside)
    (status : Status)
    → Mean names first second before after status → RefusesNone status

module _ (kind : Kind) (file : List ℕ) (Means : MeaningOfOne) (none : RefuseNone Means) where
  reads_one : (before after : Outside) (status : Status)
      → OneMeans kind file Means before after status
      → ReadsOne (IsAutomatonFault kind before.shelf.holds file) file
      ((held : (List (List ℕ) × Automaton)) × HoldsOfKind kind before.shelf.holds file held) status
  reads_one before after status (at_load ends unchanged) = ends_there ends
  reads_one before after status
      (loaded {names = names} {automaton = automaton} holds is_kind means) =
      reads_it ((names, automaton), (holds, is_kind))
      (none names automaton before after status means)

  -- a file that is refused has the fault
  pub one_refused : (before after : Outside) (name : List ℕ) (fault : FileFault)
      → OneMeans kind file Means before after (Refused (File name fault)) → IsLoadFault fault
      → RefusesAs kind file before name fault
  one_refused before after name fault means when_loaded =
      refused_of_one name fault (reads_one before after (Refused (File name fault)) means) when_loaded

  -- and where it has one it is refused for that
  pub one_exact : HaveOneReason → (before after : Outside) (status : Status) (name : List ℕ)
      (fault : FileFault)
      → OneMeans kind file Means before after status → RefusesAs kind file before name fault
      → IsFaultless status → IsRefusalOrMemory name fault status
  one_exact have before after status name fault means refuses faultless =
      exact_of_one name fault (have.automaton kind before.shelf.holds file) status
      (reads_one before after status means) refuses faultless

module _ (kind : Kind) (one two : List ℕ) (Mean : MeaningOfTwo) (none : BothRefuseNone Mean) where
  reads_two : (before after : Outside) (status : Status)
      → TwoMean kind one two Mean before after status
      → ReadsTwo (IsAutomatonFault kind before.shelf.holds one) one
      (HoldsOfKind kind before.shelf.holds one)
      (λ held. IsSecondFault kind held.0 held.1.alphabet before.shelf.holds two) two
      (λ held. (second : Automaton)
      × HoldsOver kind held.0 held.1.alphabet before.shelf.holds two second) status
  reads_two before after status (at_first ends unchanged) = ends_first ends
  reads_two before after status
      (at_second {names = names} {first = first} holds is_kind ends unchanged) =
      ends_next (names, first) (holds, is_kind) ends
  reads_two before after status
      (both {names = names} {first = first} {second = second} holds is_kind second_holds alphabet
      means) =
      let Of : Alphabet → Type 0 = λ a. HasKind kind a in
      reads_both (names, first) (holds, is_kind)
      (second, (second_holds, alphabet, subst Of (sym alphabet) is_kind))
      (none names first second before after status means)

  -- a file that is refused is the first that has a fault
  pub two_refused : (before after : Outside) (name : List ℕ) (fault : FileFault)
      → TwoMean kind one two Mean before after (Refused (File name fault)) → IsLoadFault fault
      → RefusesOfTwo kind one two before name fault
  two_refused before after name fault means when_loaded =
      refused_of_two name fault (reads_two before after (Refused (File name fault)) means) when_loaded

  -- and where one has a fault it is refused for that
  pub two_exact : HaveOneReason → (before after : Outside) (status : Status) (name : List ℕ)
      (fault : FileFault)
      → TwoMean kind one two Mean before after status
      → RefusesOfTwo kind one two before name fault
      → IsFaultless status → IsRefusalOrMemory name fault status
  two_exact have before after status name fault means refuses faultless =
      exact_of_two name fault status (reads_two before after status means)
      (have.automaton kind before.shelf.holds one)
      (one_loaded kind before.shelf.holds one)
      (λ held is. have.second kind held.0 held.1.alphabet before.shelf.holds two) refuses faultless
