-- What `fsalequal` means.
use Rattle.std.specs.Prelude.{◌≡◌, ℕ, ◌⊎◌, List, [], ◌∷◌, ◌++◌, codes}
use Rattle.kb_word.specs.Printed.{text_of_word}
use Rattle.kb_io.specs.Bytes.{AppendsPrefix, newline}
use Rattle.kb_fsa.specs.declared.alphabet.Alphabet.{Alphabet}
use Rattle.kb_fsa.specs.declared.alphabet.Alphabet.TheVariants.{Plain, Pair}
use Rattle.kb_fsa.specs.Padding.{IsPadded}
use Rattle.kb_fsa.specs.Language.{Automaton, SameLanguage}
use Rattle.kb_fsa.specs.Counted.{CountedOr}
use Rattle.kb_fsabool.specs.Answers.{IsLeastDifference}
use Rattle.kb_task.specs.Limits.{undecided_line}
use Rattle.kb_task.specs.Promises.{Promise}
use Rattle.kb_task.specs.Statuses.{IsAnswer, IsConclusive}
use Rattle.kb_task.specs.declared.loading.automata.Kind.TheVariants.{WordsOrPairs}
use Rattle.kb_task.specs.declared.status.Cert.TheVariants.{NotEqual}
use Rattle.kb_task.specs.declared.status.Construction.TheVariants.{Equal}
use Rattle.kb_task.specs.declared.status.Limit.TheVariants.{States}
use Rattle.kb_task.specs.declared.status.Status.{Status}
use Rattle.kb_task.specs.declared.status.Status.TheVariants.{Yes, Undecided, No, Memory, Fault}
use Rattle.kb_task.specs.declared.status.Which.TheVariants.{Output}
use Rattle.kb_cmd_automata.specs.Loaded.{TwoMean, AreBothUnrefused, RefusesOfTwo}
use Rattle.kb_listing.specs.Printing.{OnlyPrints}
use Rattle.kb_cmd_automata.specs.declared.compare.Compare.{Compare}

-- the line of a text that exactly one of two automata accepts: the word, or the pair of words
pub data IsDifferenceLine (names : List (List ℕ)) (text : List ℕ) : Alphabet → List ℕ → Type 0 where
  word : {n : ℕ} {line : List ℕ}
      → line ≡ codes "no equal " ++ text_of_word names text ++ newline ∷ []
      → IsDifferenceLine names text (Plain n) line
  pair : {n : ℕ} {line : List ℕ} (parts : IsPadded n text)
      → line ≡ codes "no equal " ++ text_of_word names parts.first ++ codes " "
      ++ text_of_word names
      parts.second ++ newline ∷ []
      → IsDifferenceLine names text (Pair n) line

-- the line that a comparison prints, and the status that it then has
pub data IsComparisonLine (names : List (List ℕ)) (one two : Automaton) (most : ℕ) : List ℕ → Status
    → Type 0 where
  same : SameLanguage one two → ¬ CountedOr one.table two.table most
      → IsComparisonLine names one two most (codes "yes\n") Yes
  differ : {text line : List ℕ} → IsLeastDifference one two text
      → ¬ CountedOr one.table two.table most
      → IsDifferenceLine names text one.alphabet line
      → IsComparisonLine names one two most line (No (NotEqual text))
  undecided : CountedOr one.table two.table most
      → IsComparisonLine names one two most (undecided_line names (States Equal))
      (Undecided (States Equal))

-- the comparison's line was written with its status; or the output failed in it, or memory ran out before
pub data ComparisonIsPrinted (names : List (List ℕ)) (one two : Automaton) (most : ℕ)
    (before after : List ℕ) : Status → Type 0 where
  printed : {line : List ℕ} {status : Status} → IsComparisonLine names one two most line status
      → after ≡ before ++ line
      → ComparisonIsPrinted names one two most before after status
  failed : {line : List ℕ} {status : Status} → IsComparisonLine names one two most line status
      → AppendsPrefix before after line
      → ComparisonIsPrinted names one two most before after (Fault Output)
  no_memory : after ≡ before → ComparisonIsPrinted names one two most before after Memory

-- the line of a difference was written, or a front of it; or memory ran out before
abbrev pub DifferenceIsPrinted : List (List ℕ) → Alphabet → List ℕ → List ℕ → List ℕ → Status
    → Type 0
DifferenceIsPrinted names alphabet text before after status =
    ((line : List ℕ) × IsDifferenceLine names text alphabet line
    × (((status ≡ No (NotEqual text)) × (after ≡ before ++ line))
    ⊎ ((status ≡ Fault Output) × AppendsPrefix before after line)))
    ⊎ ((status ≡ Memory) × (after ≡ before))

-- It stores nothing. Another is the same but for its limit.
abbrev pub compare_promise : Compare → Promise Compare
compare_promise task = record {
  means = TwoMean WordsOrPairs task.one task.two
      (λ names one two. OnlyPrints (ComparisonIsPrinted names one two task.max_states));
  may_store = λ name. ⊥;
  settled_stores = λ name. ⊥;
  reads = λ name. (name ≡ task.one) ⊎ (name ≡ task.two);
  refuses = RefusesOfTwo WordsOrPairs task.one task.two;
  is_unrefused = AreBothUnrefused WordsOrPairs task.one task.two;
  answers = IsAnswer;
  settles = IsConclusive;
  differs_in_options = λ other. other ≡ record task { max_states = other.max_states };
}
