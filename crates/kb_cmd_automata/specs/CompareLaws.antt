-- The laws of `fsalequal`.
use Rattle.std.proofs.Common.{◌≡◌, inl, inr, ℕ, List, ◌++◌, codes, refl, ◌∙◌, ap, subst}
use Rattle.kb_word.specs.ShortlexLaws.{shortlex_total}
use Rattle.kb_fsa.specs.Language.{Automaton, SameLanguage}
use Rattle.kb_fsabool.specs.Answers.{IsInOne, IsLeastDifference}
use Rattle.kb_task.specs.PromiseLaws.{yes-conclusive}
use Rattle.kb_task.specs.Promises.{IsLawful}
use Rattle.kb_task.specs.Refusals.{RefusesNone}
use Rattle.kb_task.specs.Runs.{HasSameEffect}
use Rattle.kb_task.specs.Statuses.{IsAnswer, IsConclusive, IsFaultless, IsYes}
use Rattle.kb_task.specs.declared.loading.automata.Kind.TheVariants.{WordsOrPairs}
use Rattle.kb_task.specs.declared.status.Cert.TheVariants.{NotEqual}
use Rattle.kb_task.specs.declared.status.Status.{Status}
use Rattle.kb_task.specs.declared.status.Status.TheVariants.{No}
use Rattle.kb_cmd_automata.specs.Compare.{IsComparisonLine, same, differ, undecided, ComparisonIsPrinted, printed, failed, no_memory, compare_promise}
use Rattle.kb_cmd_automata.specs.LoadedLaws.{two_answer, two_exact, two_refused, over_two}
use Rattle.kb_cmd_automata.specs.declared.compare.Compare.{Compare}

-- what is in exactly one of two languages refutes that they are the same
in_one-differs : (one two : Automaton) (text : List ℕ) → IsInOne one two text
    → ¬ SameLanguage one two
in_one-differs one two text (inl parts) same_language = parts.1 ((same_language text).0 parts.0)
in_one-differs one two text (inr parts) same_language = parts.1 ((same_language text).1 parts.0)

-- there is one least difference
one_difference : (one two : Automaton) (text other : List ℕ) → IsLeastDifference one two text
    → IsLeastDifference one two other → text ≡ other
one_difference one two text other first second = elim (shortlex_total text other) [
  | inl equal ↦ equal
  | inr (inl less) ↦ absurd (second.least text first.differs less)
  | inr (inr more) ↦ absurd (first.least other second.differs more)
]

module _ (names : List (List ℕ)) (one two : Automaton) where
  -- a comparison within one limit has one status
  one_status : (most : ℕ) (line another : List ℕ) (status other : Status)
      → IsComparisonLine names one two most line status
      → IsComparisonLine names one two most another other → status ≡ other
  one_status most line another status other (same language few) (same languages fewer) = refl
  one_status most line another status other (same language few)
      (differ {text = text} least fewer is_line) =
      absurd (in_one-differs one two text least.differs language)
  one_status most line another status other (same language few) (undecided many) = absurd (few many)
  one_status most line another status other (differ {text = text} least few is_line)
      (same language fewer) =
      absurd (in_one-differs one two text least.differs language)
  one_status most line another status other (differ {text = text} least few is_line)
      (differ {text = found} also fewer is_other) =
      ap (λ t. No (NotEqual t)) (one_difference one two text found least also)
  one_status most line another status other (differ least few is_line) (undecided many) =
      absurd (few many)
  one_status most line another status other (undecided many) (same language few) = absurd (few many)
  one_status most line another status other (undecided many) (differ least few is_line) =
      absurd (few many)
  one_status most line another status other (undecided many) (undecided more) = refl

  -- the line of a yes
  yes_line : (most : ℕ) (line : List ℕ) (status : Status)
      → IsComparisonLine names one two most line status
      → IsYes status → line ≡ codes "yes\n"
  yes_line most line status (same language few) is_yes = refl
  yes_line most line status (differ least few is_line) is_yes = absurd is_yes
  yes_line most line status (undecided many) is_yes = absurd is_yes

  line_answers : (most : ℕ) (line : List ℕ) (status : Status)
      → IsComparisonLine names one two most line status
      → IsAnswer status
  line_answers most line status (same language few) = tt
  line_answers most line status (differ least few is_line) = tt
  line_answers most line status (undecided many) = tt

  line_refuses_none : (most : ℕ) (line : List ℕ) (status : Status)
      → IsComparisonLine names one two most line status → RefusesNone status
  line_refuses_none most line status (same language few) = tt
  line_refuses_none most line status (differ least few is_line) = tt
  line_refuses_none most line status (undecided many) = tt

  -- where no device failed there is an answer
  comparison_answers : (most : ℕ) (before after : List ℕ) (status : Status) → IsFaultless status
      → ComparisonIsPrinted names one two most before after status → IsAnswer status
  comparison_answers most before after status faultless (printed {line = line} is_line is) =
      line_answers most line status is_line
  comparison_answers most before after status faultless (failed is_line front) = cc
  comparison_answers most before after status faultless (no_memory unwritten) = tt

  -- a comparison refuses no file
  comparison_refuses_none : (most : ℕ) (before after : List ℕ) (status : Status)
      → ComparisonIsPrinted names one two most before after status → RefusesNone status
  comparison_refuses_none most before after status (printed {line = line} is_line is) =
      line_refuses_none most line status is_line
  comparison_refuses_none most before after status (failed is_line front) = tt
  comparison_refuses_none most before after status (no_memory unwritten) = tt

  -- an answer has its line
  comparison_line : (most : ℕ) (before after : List ℕ) (status : Status) → IsConclusive status
      → ComparisonIsPrinted names one two most before after status
      → (line : List ℕ) × IsComparisonLine names one two most line status
  comparison_line most before after status conclusive (printed {line = line} is_line is) =
      (line, is_line)
  comparison_line most before after status conclusive (failed is_line front) = absurd conclusive
  comparison_line most before after status conclusive (no_memory unwritten) = absurd conclusive

  -- what a yes wrote
  yes_written : (most : ℕ) (before after : List ℕ) (status : Status) → IsYes status
      → ComparisonIsPrinted names one two most before after status
      → after ≡ before ++ codes "yes\n"
  yes_written most before after status is_yes (printed {line = line} is_line is) =
      is ∙ ap (λ l. before ++ l) (yes_line most line status is_line is_yes)
  yes_written most before after status is_yes (failed is_line front) = absurd is_yes
  yes_written most before after status is_yes (no_memory unwritten) = absurd is_yes

pub compare_lawful : (task : Compare) → IsLawful compare_promise (compare_promise task)
compare_lawful task = record {
  complete = λ before after status means unrefused faultless.
      two_answer IsAnswer tt before after status faultless WordsOrPairs task.one task.two _
      (λ names one two prints. comparison_answers names one two task.max_states
      before.output.written after.output.written status faultless prints.so)
      unrefused means;
  memory = tt;
  refused = λ before after name fault means at_load.
      two_refused WordsOrPairs task.one task.two _
      (λ names one two moment later status prints. comparison_refuses_none names one two
      task.max_states moment.output.written later.output.written status prints.so)
      before after name fault means at_load;
  exact = λ have before after status name fault means refuses faultless.
      two_exact WordsOrPairs task.one task.two _
      (λ names one two moment later ends prints. comparison_refuses_none names one two
      task.max_states moment.output.written later.output.written ends prints.so)
      have before after status name fault means refuses faultless;
  settled = λ before after other_before other_after status other means others alike conclusive also.
      over_two before after other_before other_after status other conclusive also
      (status ≡ other) WordsOrPairs
      task.one task.two _ _
      (λ names one two prints print.
      let first = comparison_line names one two task.max_states before.output.written
      after.output.written status
      conclusive prints.so in
      let second =
      comparison_line names one two task.max_states other_before.output.written
      other_after.output.written
      other also print.so in
      one_status names one two task.max_states first.0 second.0 status other first.1 second.1)
      (alike task.one (inl refl)) (alike task.two (inr refl)) means others;
  conclusive = λ status settles. settles;
  one_function = λ other_task before after other_before other_after status other means others
      is_yes also differs alike input.
      over_two before after other_before other_after status other (yes-conclusive status is_yes)
      (yes-conclusive other also)
      (HasSameEffect (λ name. ⊥) before after other_before other_after) WordsOrPairs
      task.one task.two _ _
      (λ names one two prints print. record {
        bytes = codes "yes\n";
        written = yes_written names one two task.max_states before.output.written
            after.output.written status
            is_yes prints.so;
        other_written =
            yes_written names one two other_task.max_states other_before.output.written
            other_after.output.written other also print.so;
        stored = λ name none. absurd none;
      })
      (alike task.one (inl refl)) (alike task.two (inr refl)) means
      (subst (λ t. (compare_promise t).means other_before other_after other) differs others);
}
