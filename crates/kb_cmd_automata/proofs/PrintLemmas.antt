-- What is printed of a comparison.
use Rattle.std.proofs.Common.{◌≡◌, ◌∙◌, inl, inr, ℕ, List, [], ◌∷◌, ◌++◌, codes, refl, sym, ap, subst}
use Rattle.kb_word.specs.Printed.{text_of_word}
use Rattle.kb_io.specs.Bytes.{newline}
use Rattle.kb_io.specs.States.{SinkState}
use Rattle.kb_fsa.specs.declared.alphabet.Alphabet.{Alphabet}
use Rattle.kb_fsa.specs.declared.alphabet.Alphabet.TheVariants.{Plain, Pair}
use Rattle.kb_fsa.specs.Padding.{IsPadded, IsTextOfPair}
use Rattle.kb_fsa.specs.Language.{Automaton}
use Rattle.kb_fsa.specs.Counted.{CountedOr}
use Rattle.kb_fsabool.specs.Answers.{IsLeastDifference}
use Rattle.kb_task.specs.Lines.{LineIsWritten, LimitIsPrinted}
use Rattle.kb_task.specs.declared.status.Construction.TheVariants.{Equal}
use Rattle.kb_task.specs.declared.status.Limit.TheVariants.{States}
use Rattle.kb_task.specs.declared.status.Status.{Status}
use Rattle.kb_cmd_automata.specs.Compare.{IsDifferenceLine, word, pair, IsComparisonLine, differ, undecided, ComparisonIsPrinted, printed, failed, no_memory, DifferenceIsPrinted}

-- ---- the line of a comparison

-- the line of a word
pub word-line : (names : List (List ℕ)) (alphabet : Alphabet) (n : ℕ) (text letters begun shown line : List ℕ) → alphabet ≡ Plain n
    → letters ≡ text → begun ≡ codes "no equal " → shown ≡ begun ++ text_of_word names letters → line ≡ shown ++ newline ∷ []
    → IsDifferenceLine names text alphabet line
word-line names alphabet n text letters begun shown line plain is_word begins prints ends =
    subst (λ a. IsDifferenceLine names text a line) (sym plain)
    (word (ends ∙ ap (λ l. l ++ newline ∷ []) (prints ∙ ap (λ l. l ++ text_of_word names letters) begins
    ∙ ap (λ w. codes "no equal " ++ text_of_word names w) is_word)))

-- the line of a pair of words
pub pair-line : (names : List (List ℕ)) (alphabet : Alphabet) (n : ℕ) (text u v begun first blank second line : List ℕ) → alphabet ≡ Pair n
    → IsTextOfPair n text u v → begun ≡ codes "no equal " → first ≡ begun ++ text_of_word names u → blank ≡ first ++ 32 ∷ []
    → second ≡ blank ++ text_of_word names v → line ≡ second ++ newline ∷ [] → IsDifferenceLine names text alphabet line
pair-line names alphabet n text u v begun first blank second line is_pair padded begins one between two ends =
    let parts : IsPadded n text = record {
      first = u;
      second = v;
      first_over = padded.first_over;
      second_over = padded.second_over;
      is_text = padded.is_text;
    } in
    subst (λ a. IsDifferenceLine names text a line) (sym is_pair)
    (pair parts (ends ∙ ap (λ l. l ++ newline ∷ []) (two ∙ ap (λ l. l ++ text_of_word names v) (between ∙ ap (λ l. l ++ 32 ∷ [])
    (one ∙ ap (λ l. l ++ text_of_word names u) begins)))))

module _ (names : List (List ℕ)) (one two : Automaton) (most : ℕ) (before after : SinkState) (result : Status) where
  -- the comparison's line is printed
  pub line-printed : (line : List ℕ) (status : Status) → IsComparisonLine names one two most line status → LineIsWritten line status before after result
      → ComparisonIsPrinted names one two most before.written after.written result
  line-printed line status is_line (inl said) =
      subst (ComparisonIsPrinted names one two most before.written after.written) (sym said.0) (printed is_line said.1)
  line-printed line status is_line (inr front) =
      subst (ComparisonIsPrinted names one two most before.written after.written) (sym front.0) (failed is_line front.1)

  -- so is the line of a limit
  pub limit-printed : CountedOr one.table two.table most → LimitIsPrinted names (States Equal) before after result
      → ComparisonIsPrinted names one two most before.written after.written result
  limit-printed many (inl said) = line-printed _ _ (undecided many) said
  limit-printed many (inr none) = subst (ComparisonIsPrinted names one two most before.written after.written) (sym none.0) (no_memory none.1)

  -- so is the line of a difference
  pub difference-printed : (text : List ℕ) (alphabet : Alphabet) → alphabet ≡ one.alphabet → IsLeastDifference one two text
      → ¬ CountedOr one.table two.table most → DifferenceIsPrinted names alphabet text before.written after.written result
      → ComparisonIsPrinted names one two most before.written after.written result
  difference-printed text alphabet is least few (inl (line, is_line, ended)) =
      line-printed line _ (differ least few (subst (λ a. IsDifferenceLine names text a line) is is_line)) ended
  difference-printed text alphabet is least few (inr none) =
      subst (ComparisonIsPrinted names one two most before.written after.written) (sym none.0) (no_memory none.1)
