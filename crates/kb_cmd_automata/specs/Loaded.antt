-- What a run over one or two files of automata means: it ended at a load, or went on with what the files hold.
use Rattle.std.specs.Prelude.{◌≡◌, ℕ, List}
use Rattle.kb_io.specs.Outside.{Outside, IsUnchanged}
use Rattle.kb_fsa.specs.Language.{Automaton}
use Rattle.kb_task.specs.Automata.{HoldsAutomaton, HasKind, IsAutomatonFault, IsSecondFault, IsUnrefused}
use Rattle.kb_task.specs.Loads.{EndsAtLoad}
use Rattle.kb_task.specs.OneReason.{HoldsOfKind}
use Rattle.kb_task.specs.Refusals.{IsRefusedFor, IsRefusedOfTwo}
use Rattle.kb_task.specs.declared.loading.automata.Kind.{Kind}
use Rattle.kb_task.specs.declared.status.FileFault.{FileFault}
use Rattle.kb_task.specs.declared.status.Status.{Status}

-- What a run means of an automaton over letters with these names, and of two over the same letters.
abbrev pub MeaningOfOne : Type 1
MeaningOfOne = List (List ℕ) → Automaton → Outside → Outside → Status → Type 0

abbrev pub MeaningOfTwo : Type 1
MeaningOfTwo = List (List ℕ) → Automaton → Automaton → Outside → Outside → Status → Type 0

-- what a run over one file of an automaton of the kind means
pub data OneMeans (kind : Kind) (file : List ℕ) (Means : MeaningOfOne) (before after : Outside)
    (status : Status) : Type 0 where
  at_load : EndsAtLoad (IsAutomatonFault kind before.shelf.holds file) file status
      → IsUnchanged before after
      → OneMeans kind file Means before after status
  loaded : {names : List (List ℕ)} {automaton : Automaton}
      → HoldsAutomaton before.shelf.holds file names automaton
      → HasKind kind automaton.alphabet → Means names automaton before after status
      → OneMeans kind file Means before after status

-- what a run over two files of automata of the kind means: the first and then the second, over the same alphabet
pub data TwoMean (kind : Kind) (one two : List ℕ) (Mean : MeaningOfTwo) (before after : Outside)
    (status : Status) : Type 0 where
  at_first : EndsAtLoad (IsAutomatonFault kind before.shelf.holds one) one status
      → IsUnchanged before after
      → TwoMean kind one two Mean before after status
  at_second : {names : List (List ℕ)} {first : Automaton}
      → HoldsAutomaton before.shelf.holds one names first
      → HasKind kind first.alphabet
      → EndsAtLoad (IsSecondFault kind names first.alphabet before.shelf.holds two) two status
      → IsUnchanged before after → TwoMean kind one two Mean before after status
  both : {names : List (List ℕ)} {first second : Automaton}
      → HoldsAutomaton before.shelf.holds one names first
      → HasKind kind first.alphabet → HoldsAutomaton before.shelf.holds two names second
      → second.alphabet ≡ first.alphabet
      → Mean names first second before after status → TwoMean kind one two Mean before after status

-- the file has a fault where an automaton of the kind is needed
abbrev pub RefusesAs : Kind → List ℕ → Outside → List ℕ → FileFault → Type 0
RefusesAs kind file before = IsRefusedFor (IsAutomatonFault kind before.shelf.holds file) file

-- so has the first file; or, where that holds one of the kind, the second, where one over the same alphabet is needed
abbrev pub RefusesOfTwo : Kind → List ℕ → List ℕ → Outside → List ℕ → FileFault → Type 0
RefusesOfTwo kind one two before =
    IsRefusedOfTwo (IsAutomatonFault kind before.shelf.holds one) one
    (HoldsOfKind kind before.shelf.holds one)
    (λ held. IsSecondFault kind held.0 held.1.alphabet before.shelf.holds two) two

-- the file isn't refused where an automaton of the kind is needed
abbrev pub IsUnrefusedAs : Kind → List ℕ → Outside → Type 0
IsUnrefusedAs kind file before = IsUnrefused (IsAutomatonFault kind before.shelf.holds file)

-- nor is a second file, where one over the alphabet of the first is needed
pub record AreBothUnrefused (kind : Kind) (one two : List ℕ) (before : Outside) : Type 0 where
  pub first : IsUnrefusedAs kind one before
  pub second : (names : List (List ℕ)) (automaton : Automaton)
      → HoldsAutomaton before.shelf.holds one names automaton
      → IsUnrefused (IsSecondFault kind names automaton.alphabet before.shelf.holds two)
