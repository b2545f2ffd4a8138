-- Files of automata.
use Rattle.std.specs.Prelude.{◌≡◌, ◌≢◌, ℕ, List, IsTrue}
use Rattle.kb_io.specs.States.{ShelfState}
use Rattle.kb_fsa.specs.declared.alphabet.Alphabet.{Alphabet}
use Rattle.kb_fsa.specs.declared.alphabet.Alphabet.TheVariants.{Plain, Pair}
use Rattle.kb_fsa.specs.Language.{Automaton, SameLanguage}
use Rattle.kb_fsafile.specs.Holds.{AutomatonOf}
use Rattle.kb_fsafile.specs.Faults.{HasFsaFault}
use Rattle.kb_fsafile.specs.declared.error.FsaError.TheVariants as fsa_errors
use Rattle.kb_task.specs.Loads.{Files, IsHeld, IsNoText}
use Rattle.kb_task.specs.declared.loading.automata.Kind.{Kind}
use Rattle.kb_task.specs.declared.loading.automata.Kind.TheVariants.{WordsOrPairs, Words, Pairs}
use Rattle.kb_task.specs.declared.status.FileFault.{FileFault}
use Rattle.kb_task.specs.declared.status.FileFault.TheVariants.{Missing, TooLong, Automaton as NoAutomaton, NotPlain, NotPairs, AlphabetsDiffer}

-- the file of this name holds this automaton over letters with these names
pub record HoldsAutomaton (files : Files) (name : List ℕ) (names : List (List ℕ))
    (automaton : Automaton) : Type 0 where
  pub bytes : List ℕ
  pub held : IsHeld files name bytes
  pub says : AutomatonOf bytes names automaton

-- The automaton has the language of one over letters with these names that the file of this name holds; where what the
-- shelf holds isn't known, of some automaton.
pub record HoldsLanguage (shelf : ShelfState) (name : List ℕ) (names : List (List ℕ))
    (automaton : Automaton) : Type 0 where
  pub held : Automaton
  pub holds : IsTrue shelf.told → HoldsAutomaton shelf.holds name names held
  pub alphabet : automaton.alphabet ≡ held.alphabet
  pub language : SameLanguage held automaton

-- the alphabet is of the kind
abbrev pub HasKind : Kind → Alphabet → Type 0
HasKind WordsOrPairs alphabet = Unit {0}
HasKind Words alphabet = (n : ℕ) × (alphabet ≡ Plain n)
HasKind Pairs alphabet = (n : ℕ) × (alphabet ≡ Pair n)

-- the file holds an automaton of another kind
pub record HoldsOtherKind (kind : Kind) (files : Files) (name : List ℕ) : Type 0 where
  pub names : List (List ℕ)
  pub automaton : Automaton
  pub holds : HoldsAutomaton files name names automaton
  pub other : ¬ HasKind kind automaton.alphabet

-- why the file of this name holds no automaton of the kind
abbrev pub IsAutomatonFault : Kind → Files → List ℕ → FileFault → Type 0
IsAutomatonFault kind files name Missing = IsNoText files name Missing
IsAutomatonFault kind files name TooLong = IsNoText files name TooLong
IsAutomatonFault kind files name (NoAutomaton fault) =
    (bytes : List ℕ) × IsHeld files name bytes × HasFsaFault bytes fault
    × (fault ≢ fsa_errors.Memory)
IsAutomatonFault kind files name NotPlain = (kind ≡ Words) × HoldsOtherKind kind files name
IsAutomatonFault kind files name NotPairs = (kind ≡ Pairs) × HoldsOtherKind kind files name
IsAutomatonFault kind files name _ = ⊥

-- the file holds an automaton of the kind, over other letters or of the other kind than the first one
pub record HoldsOtherAlphabet (kind : Kind) (names : List (List ℕ))
    (alphabet : Alphabet) (files : Files)
    (name : List ℕ) : Type 0 where
  pub others : List (List ℕ)
  pub automaton : Automaton
  pub holds : HoldsAutomaton files name others automaton
  pub of_kind : HasKind kind automaton.alphabet
  pub differ : ¬ ((others ≡ names) × (automaton.alphabet ≡ alphabet))

-- why the file of this name holds no automaton of the kind over the alphabet of a first one
abbrev pub IsSecondFault : Kind → List (List ℕ) → Alphabet → Files → List ℕ → FileFault → Type 0
IsSecondFault kind names alphabet files name AlphabetsDiffer =
    HoldsOtherAlphabet kind names alphabet files name
IsSecondFault kind names alphabet files name fault = IsAutomatonFault kind files name fault

-- no fault is a reason to refuse the file
abbrev pub IsUnrefused : (FileFault → Type 0) → Type 0
IsUnrefused IsFault = (fault : FileFault) → ¬ IsFault fault
