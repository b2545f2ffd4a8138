-- The laws of `fsacount`.
use Rattle.std.proofs.Common.{◌≡◌, ℕ, suc, ◌+◌, ◌<◌, ◌≤◌, Option, Some, None, List, [], ◌∷◌, ◌++◌, length, get_or, refl, sym, ◌∙◌, ap, subst, arith}
use Rattle.std.proofs.lemmas.List.{ext_get_or}
use Rattle.kb_io.specs.Outside.{Outside}
use Rattle.kb_io.specs.Bytes.{newline}
use Rattle.kb_fsa.specs.Language.{Automaton}
use Rattle.kb_count.specs.Decimal.{decimal_text}
use Rattle.kb_count.proofs.Listings.{not-both, one-number}
use Rattle.kb_task.specs.PromiseLaws.{yes-conclusive}
use Rattle.kb_task.specs.Promises.{IsLawful}
use Rattle.kb_task.specs.Refusals.{RefusesNone}
use Rattle.kb_task.specs.Runs.{HasSameEffect}
use Rattle.kb_task.specs.Statuses.{AnswersYes, IsConclusive, IsFaultless, IsYes}
use Rattle.kb_task.specs.declared.loading.automata.Kind.TheVariants.{WordsOrPairs}
use Rattle.kb_task.specs.declared.status.Status.{Status}
use Rattle.kb_task.specs.declared.status.Status.TheVariants.{Yes}
use Rattle.kb_cmd_automata.specs.Counted.{IsNumberLine, finite, infinite, AreNumberLines, lines_of_numbers, IsCountText, CountIsPrinted, printed, failed, no_memory, count_promise}
use Rattle.kb_cmd_automata.specs.LoadedLaws.{one_answers, one_exact, one_refused, over_one}
use Rattle.kb_cmd_automata.specs.declared.counting.CountAccepted.{CountAccepted}

-- an automaton has one line
one_line : (automaton : Automaton) (line other : List ℕ) → IsNumberLine automaton line
    → IsNumberLine automaton other
    → line ≡ other
one_line automaton line other (finite many is) (finite few also) =
    is ∙ ap (λ number. decimal_text number ++ newline ∷ []) (one-number many few) ∙ sym also
one_line automaton line other (finite many is) (infinite endless also) =
    absurd (not-both many endless)
one_line automaton line other (infinite endless is) (finite many also) =
    absurd (not-both many endless)
one_line automaton line other (infinite endless is) (infinite too also) = is ∙ sym also

-- and one text of lines
one_text_of_lines : (automaton : Automaton) (most : ℕ) (lines others : List ℕ)
    → AreNumberLines automaton most lines → AreNumberLines automaton most others
    → lines ≡ others
one_text_of_lines automaton most lines others one other =
    let same : one.numbers ≡ other.numbers =
    ext_get_or 0 one.numbers other.numbers (one.one_each ∙ sym other.one_each)
    (λ long within.
    let below : long ≤ most = omega (arith, one.one_each) in
    one-number (one.right long below) (other.right long below)) in
    one.are_lines ∙ ap lines_of_numbers same ∙ sym other.are_lines

one_count_text : (automaton : Automaton) (lengths : Option ℕ) (text other : List ℕ)
    → IsCountText automaton lengths text → IsCountText automaton lengths other → text ≡ other
one_count_text automaton None text other one two = one_line automaton text other one two
one_count_text automaton (Some most) text other one two =
    one_text_of_lines automaton most text other one two

module _ (automaton : Automaton) (lengths : Option ℕ) where
  count_answers : (before after : List ℕ) (status : Status) → IsFaultless status
      → CountIsPrinted automaton lengths before after status → AnswersYes status
  count_answers before after status faultless (printed text is_text is) = tt
  count_answers before after status faultless (failed text is_text front) = cc
  count_answers before after status faultless (no_memory unwritten) = tt

  -- printing refuses no file
  count_refuses_none : (before after : List ℕ) (status : Status)
      → CountIsPrinted automaton lengths before after status → RefusesNone status
  count_refuses_none before after status (printed text is_text is) = tt
  count_refuses_none before after status (failed text is_text front) = tt
  count_refuses_none before after status (no_memory unwritten) = tt

  count_yes : (before after : List ℕ) (status : Status) → IsConclusive status
      → CountIsPrinted automaton lengths before after status → status ≡ Yes
  count_yes before after status conclusive (printed text is_text is) = refl
  count_yes before after status conclusive (failed text is_text front) = absurd conclusive
  count_yes before after status conclusive (no_memory unwritten) = absurd conclusive

  -- the text that a yes wrote
  pub record WroteText (before after : List ℕ) : Type 0 where
    pub text : List ℕ
    pub is_text : IsCountText automaton lengths text
    pub written : after ≡ before ++ text

  wrote_text : (before after : List ℕ) (status : Status) → IsYes status
      → CountIsPrinted automaton lengths before after status → WroteText before after
  wrote_text before after status is_yes (printed text is_text is) =
      record { text = text; is_text = is_text; written = is }
  wrote_text before after status is_yes (failed text is_text front) = absurd is_yes
  wrote_text before after status is_yes (no_memory unwritten) = absurd is_yes

  one_effect : (before after other_before other_after : Outside)
      → WroteText before.output.written after.output.written
      → WroteText other_before.output.written other_after.output.written
      → HasSameEffect (λ name. ⊥) before after other_before other_after
  one_effect before after other_before other_after one other =
      let same : other.text ≡ one.text =
      one_count_text automaton lengths other.text one.text other.is_text one.is_text in
      record {
        bytes = one.text;
        written = one.written;
        other_written = other.written ∙ ap (λ text. other_before.output.written ++ text) same;
        stored = λ name none. absurd none;
      }

pub count_lawful : (task : CountAccepted) → IsLawful count_promise (count_promise task)
count_lawful task = record {
  complete = λ before after status means unrefused faultless.
      one_answers AnswersYes tt before after status faultless WordsOrPairs task.file _
      (λ names automaton prints. count_answers automaton task.lengths
      before.output.written after.output.written status faultless prints.so)
      unrefused means;
  memory = tt;
  refused = λ before after name fault means at_load.
      one_refused WordsOrPairs task.file _
      (λ names automaton one other status prints. count_refuses_none automaton task.lengths
      one.output.written other.output.written status prints.so)
      before after name fault means at_load;
  exact = λ have before after status name fault means refuses faultless.
      one_exact WordsOrPairs task.file _
      (λ names automaton one other ends prints. count_refuses_none automaton task.lengths
      one.output.written other.output.written ends prints.so)
      have before after status name fault means refuses faultless;
  settled = λ before after other_before other_after status other means others alike conclusive also.
      over_one before after other_before other_after status other conclusive also (status ≡ other)
      WordsOrPairs task.file _ _
      (λ names automaton prints print.
      count_yes automaton task.lengths before.output.written after.output.written status
      conclusive prints.so
      ∙ sym (count_yes automaton task.lengths other_before.output.written
      other_after.output.written other also print.so))
      (alike task.file refl) means others;
  conclusive = λ status settles. settles;
  one_function = λ other_task before after other_before other_after status other means others
      is_yes also differs alike input.
      over_one before after other_before other_after status other (yes-conclusive status is_yes)
      (yes-conclusive other also)
      (HasSameEffect (λ name. ⊥) before after other_before other_after)
      WordsOrPairs task.file _ _
      (λ names automaton prints print.
      one_effect automaton task.lengths before after other_before other_after
      (wrote_text automaton task.lengths before.output.written after.output.written status
      is_yes prints.so)
      (wrote_text automaton task.lengths other_before.output.written
      other_after.output.written other also print.so))
      (alike task.file refl) means
      (subst (λ t. (count_promise t).means other_before other_after other) differs others);
}
