-- The rivals that a word has are those to which the first rival runs beside its suffixes.
use Rattle.std.proofs.Common.{◌≡◌, ℕ, ◌<◌, ◌≤◌, List, [], ◌++◌, length, slice_get, Some, refl, subst, inl, inr, arith}
use Rattle.std.proofs.lemmas.Bool.{cases_lt}
use Rattle.std.proofs.lemmas.Option.{slice_get_within}
use Rattle.kb_word.specs.Names.{AreApart}
use Rattle.kb_word.specs.Relations.{IsOver}
use Rattle.kb_rules.proofs.Lists.{All-front, All-rest}
use Rattle.kb_diff.specs.Groups.{Group}
use Rattle.kb_diff.specs.Steps.{AreSteps, DifferenceStep, HasNumber, to_kept, to_none}
use Rattle.kb_diff.proofs.StepRuns.{StepRun, leads_of_run, one_number, run_of_leads}
use Rattle.kb_diffwa.specs.Comparing.{Equal}
use Rattle.kb_diffwa.specs.Rivals.{IsRivalAfter, Rival}
use Rattle.kb_diffwa.specs.RivalMoves.{StepsWithin, first_rival}
use Rattle.kb_diffwa.proofs.ComparisonRuns.{compares_of_run, run_of_compares}
use Rattle.kb_diffwa.proofs.RivalRuns.{run_of_word, word_of_run}
use Rattle.kb_diffwa.proofs.RivalSteps.{HasRun}

pub over_front : (n : ℕ) (w front rest : List ℕ) → w ≡ front ++ rest → IsOver n w → IsOver n front
over_front n w front rest whole over = All-front (λ (x : ℕ). (0 < x) × (x ≤ n)) front w rest whole over

over_back : (n : ℕ) (w front rest : List ℕ) → w ≡ front ++ rest → IsOver n w → IsOver n rest
over_back n w front rest whole over = All-rest (λ (x : ℕ). (0 < x) × (x ≤ n)) rest w front whole over

-- ---- steps lead to numbers of words

step_within : (group : Group) (words : List (List ℕ)) (number a b target : ℕ)
    → DifferenceStep group words number a b target → target ≤ length words
step_within group words number a b target (to_kept {e = e} from leads to) =
    let is = to.is in let within = slice_get_within words to.index e to.at in omega arith
step_within group words number a b target (to_none from leads missing) = omega arith

pub steps_within : (group : Group) (words : List (List ℕ)) (step : ℕ → ℕ → ℕ → ℕ) → AreSteps group words step
    → StepsWithin (length words) step
steps_within group words step are number a b =
    elim (cases_lt (length words) (step number a b)) [
      | inl more ↦
          let none = are.elsewhere number a b (λ read.
          let least = step_within group words number a b (step number a b) (are.each number a b read) in
          omega (arith, least, more)) in
          absurd (let no : ⊥ = omega (arith, none, more) in no)
      | inr within ↦ within
    ]

module _ (group : Group) (words : List (List ℕ)) (step : ℕ → ℕ → ℕ → ℕ) (are : AreSteps group words step)
    (first : slice_get words 0 ≡ Some []) (apart : AreApart words) where
  pub first_number : HasNumber words 1 []
  first_number = record { index = 0; is = refl; at = first }

  -- where the first rival runs to, the word has that rival
  pub after_of_run : (w : List ℕ) (last : Rival) → IsOver group.n w → HasRun group.n step w last
      → IsRivalAfter group words w last
  after_of_run w last over has =
      let back = over_back group.n w has.front has.suffix has.whole over in
      let word = word_of_run group.n step has.suffix first_rival last has.run in
      let is_word = word.1 in
      let to = leads_of_run group words step are has.suffix word.0 1 last.difference [] back is_word.letters first_number
      is_word.steps in record {
        front = has.front;
        suffix = has.suffix;
        whole = has.whole;
        word = word.0;
        is_rival = record {
          letters = is_word.letters;
          difference = to.0;
          number = to.1.0;
          leads = to.1.1;
          compares = compares_of_run group.n has.suffix word.0 last.comparison is_word.letters is_word.compares;
        };
      }

  -- and to each rival that it has the first rival runs
  pub run_of_rival : (w : List ℕ) (rival : Rival) → IsOver group.n w → IsRivalAfter group words w rival
      → HasRun group.n step w rival
  run_of_rival w rival over after =
      let at = after.is_rival in
      let back = over_back group.n w after.front after.suffix after.whole over in
      let run = run_of_leads group words step are after.suffix after.word 1 [] at.difference back at.letters
      first_number at.leads in
      let same = one_number words run.0 rival.difference at.difference apart run.1.0 at.number in
      let S : ℕ → Type 0 = λ d. StepRun step group.n 1 after.suffix after.word d in
      let compares = run_of_compares group.n after.suffix after.word rival.comparison at.letters at.compares in record {
        front = after.front;
        suffix = after.suffix;
        whole = after.whole;
        run = run_of_word group.n step after.suffix after.word 1 rival.difference Equal rival.comparison at.letters
            (subst S same run.1.1) compares;
      }
