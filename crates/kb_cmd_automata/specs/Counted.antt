-- What `fsacount` means.
use Rattle.std.specs.Prelude.{◌≡◌, ℕ, ◌+◌, ◌≤◌, Option, Some, None, List, [], ◌∷◌, ◌++◌, length, get_or, codes}
use Rattle.kb_io.specs.Bytes.{AppendsPrefix, newline}
use Rattle.kb_fsa.specs.Language.{Automaton, AcceptsText}
use Rattle.kb_count.specs.Counts.{AreSoMany, AreInfinitelyMany, AcceptsSoManyOfLength}
use Rattle.kb_count.specs.Decimal.{decimal_text}
use Rattle.kb_task.specs.Promises.{Promise}
use Rattle.kb_task.specs.Statuses.{AnswersYes, IsConclusive}
use Rattle.kb_task.specs.declared.loading.automata.Kind.TheVariants.{WordsOrPairs}
use Rattle.kb_task.specs.declared.status.Status.{Status}
use Rattle.kb_task.specs.declared.status.Status.TheVariants.{Yes, Memory, Fault}
use Rattle.kb_task.specs.declared.status.Which.TheVariants.{Output}
use Rattle.kb_listing.specs.Printing.{OnlyPrints}
use Rattle.kb_cmd_automata.specs.Loaded.{OneMeans, IsUnrefusedAs, RefusesAs}
use Rattle.kb_cmd_automata.specs.declared.counting.CountAccepted.{CountAccepted}

-- the line says how many texts the automaton accepts, and so how many words or pairs of words
pub data IsNumberLine (automaton : Automaton) : List ℕ → Type 0 where
  finite : {number : ℕ} {line : List ℕ} → AreSoMany (AcceptsText automaton) number
      → line ≡ decimal_text number ++ newline ∷ []
      → IsNumberLine automaton line
  infinite : {line : List ℕ} → AreInfinitelyMany (AcceptsText automaton)
      → line ≡ codes "infinite\n"
      → IsNumberLine automaton line

-- the numbers, each on a line
abbrev pub lines_of_numbers : List ℕ → List ℕ
lines_of_numbers [] = []
lines_of_numbers (number ∷ others) =
    decimal_text number ++ newline ∷ [] ++ lines_of_numbers others

-- the lines say for each length from 0 to the greatest how many texts of that length the automaton accepts
pub record AreNumberLines (automaton : Automaton) (most : ℕ) (lines : List ℕ) : Type 0 where
  pub numbers : List ℕ
  pub one_each : length numbers ≡ most + 1
  pub right : (long : ℕ) → long ≤ most
      → AcceptsSoManyOfLength automaton long (get_or numbers long 0)
  pub are_lines : lines ≡ lines_of_numbers numbers

-- what is printed where lengths up to this one are asked for, and where none are
abbrev pub IsCountText : Automaton → Option ℕ → List ℕ → Type 0
IsCountText automaton None text = IsNumberLine automaton text
IsCountText automaton (Some most) text = AreNumberLines automaton most text

-- the text was written; or the output failed in it, or memory ran out before
pub data CountIsPrinted (automaton : Automaton) (lengths : Option ℕ)
    (before after : List ℕ) : Status → Type 0 where
  printed : (text : List ℕ) → IsCountText automaton lengths text → after ≡ before ++ text
      → CountIsPrinted automaton lengths before after Yes
  failed : (text : List ℕ) → IsCountText automaton lengths text → AppendsPrefix before after text
      → CountIsPrinted automaton lengths before after (Fault Output)
  no_memory : after ≡ before → CountIsPrinted automaton lengths before after Memory

-- It stores nothing. Its option changes its answer.
abbrev pub count_promise : CountAccepted → Promise CountAccepted
count_promise task = record {
  means = OneMeans WordsOrPairs task.file
      (λ names automaton. OnlyPrints (CountIsPrinted automaton task.lengths));
  may_store = λ name. ⊥;
  settled_stores = λ name. ⊥;
  reads = λ name. name ≡ task.file;
  refuses = RefusesAs WordsOrPairs task.file;
  is_unrefused = IsUnrefusedAs WordsOrPairs task.file;
  answers = AnswersYes;
  settles = IsConclusive;
  differs_in_options = λ other. other ≡ task;
}
