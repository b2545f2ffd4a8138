-- What is printed of a count.
use Rattle.std.proofs.Common.{◌≡◌, ◌∙◌, inl, inr, ℕ, suc, ◌+◌, ◌<◌, Option, Result, Ok, Err, IfOk, List, [], ◌∷◌, ◌++◌, length, get_or, drop, refl, sym, ap, subst, append_assoc, add-one}
use Rattle.std.proofs.Math.Seq.{drop-cons}
use Rattle.kb_io.specs.Bytes.{newline}
use Rattle.kb_io.specs.States.{SinkState}
use Rattle.kb_fsa.specs.Language.{Automaton}
use Rattle.kb_count.specs.Decimal.{decimal_text}
use Rattle.kb_task.specs.Lines.{LineIsWritten}
use Rattle.kb_task.specs.declared.status.Status.{Status}
use Rattle.kb_task.specs.declared.status.Status.TheVariants.{Yes}
use Rattle.kb_cmd_automata.specs.Counted.{IsCountText, CountIsPrinted, printed, failed, lines_of_numbers}

-- the text is printed
pub count-printed : (automaton : Automaton) (lengths : Option ℕ) (text : List ℕ) (before after : SinkState) (result : Status)
    → IsCountText automaton lengths text → LineIsWritten text Yes before after result
    → CountIsPrinted automaton lengths before.written after.written result
count-printed automaton lengths text before after result is_text (inl said) =
    subst (CountIsPrinted automaton lengths before.written after.written) (sym said.0) (printed text is_text said.1)
count-printed automaton lengths text before after result is_text (inr front) =
    subst (CountIsPrinted automaton lengths before.written after.written) (sym front.0) (failed text is_text front.1)

-- a line more
pub one-line_more : (numbers : List ℕ) (place : ℕ) (lines more : List ℕ) → place < length numbers
    → more ≡ lines ++ decimal_text (get_or numbers place 0) ++ newline ∷ []
    → more ++ lines_of_numbers (drop (place + 1) numbers) ≡ lines ++ lines_of_numbers (drop place numbers)
one-line_more numbers place lines more within is =
    let number = get_or numbers place 0 in
    let rest = lines_of_numbers (drop (suc place) numbers) in
    let split : drop place numbers ≡ number ∷ drop (suc place) numbers = drop-cons numbers place 0 within in
    let joined : (lines ++ decimal_text number ++ newline ∷ []) ++ rest
    ≡ lines ++ (decimal_text number ++ newline ∷ [] ++ rest) = simp append_assoc in
    ap (λ k. more ++ lines_of_numbers (drop k numbers)) (add-one place)
    ∙ ap (λ t. t ++ rest) is
    ∙ joined
    ∙ ap (λ ns. lines ++ lines_of_numbers ns) (sym split)
