-- Where pairs of words lead by the numbers of differences, and by the differences themselves.
use Rattle.std.proofs.Common.{◌≡◌, ℕ, suc, ◌+◌, ◌<◌, ◌≤◌, List, [], ◌∷◌, ◌++◌, slice_get, refl, sym, ap, ◌∙◌, subst, arith}
use Rattle.std.specs.List.{Contains}
use Rattle.std.proofs.lemmas.List.Elements.{All-head, All-tail}
use Rattle.std.proofs.lemmas.Option.{same_Some, slice_get_within, get_or_from_slice_get}
use Rattle.kb_word.specs.Names.{AreApart}
use Rattle.kb_word.specs.Relations.{IsOver}
use Rattle.kb_word.specs.Rewriting.{NormalForm}
use Rattle.kb_rules.proofs.Unique.{normal_form_unique}
use Rattle.kb_fsa.specs.Padding.{letters_of}
use Rattle.kb_diff.specs.Groups.{Group}
use Rattle.kb_diff.specs.Steps.{AreSteps, DifferenceStep, HasNumber, IsRead, Leads, LeadsBy, at_end, by_both, by_first, by_second, to_kept, to_none}

-- by steps that aren't 0 the words lead from one number to another
pub data StepRun (step : ℕ → ℕ → ℕ → ℕ) (n : ℕ) : ℕ → List ℕ → List ℕ → ℕ → Type 0 where
  steps_end : {d : ℕ} → StepRun step n d [] [] d
  steps_both : {d k e x y : ℕ} {u v : List ℕ} → step d x y ≡ suc k → StepRun step n (suc k) u v e → StepRun step n d (x ∷ u) (y ∷ v) e
  steps_first : {d k e x : ℕ} {u : List ℕ} → step d x (n + 1) ≡ suc k → StepRun step n (suc k) u [] e → StepRun step n d (x ∷ u) [] e
  steps_second : {d k e y : ℕ} {v : List ℕ} → step d (n + 1) y ≡ suc k → StepRun step n (suc k) [] v e → StepRun step n d [] (y ∷ v) e

-- a number is that of one word, and is among those of the words
pub one_word : (words : List (List ℕ)) (number : ℕ) (d e : List ℕ) → HasNumber words number d → HasNumber words number e → d ≡ e
one_word words number d e one two =
    let same : one.index ≡ two.index = omega (arith, sym one.is ∙ two.is) in
    same_Some _ _ (sym one.at ∙ ap (slice_get words) same ∙ two.at)

pub one_number : (words : List (List ℕ)) (p q : ℕ) (d : List ℕ) → AreApart words → HasNumber words p d → HasNumber words q d → p ≡ q
one_number words p q d apart one two = one.is ∙ ap suc (apart one.index two.index d one.at two.at) ∙ sym two.is

pub kept_of_number : (words : List (List ℕ)) (number : ℕ) (d : List ℕ) → HasNumber words number d → Contains words d
kept_of_number words number d has =
    (has.index, slice_get_within words has.index d has.at, get_or_from_slice_get words has.index d d has.at)

one_target : (group : Group) (d e f : List ℕ) (a b : ℕ) → LeadsBy group d a b e → LeadsBy group d a b f → e ≡ f
one_target group d e f a b one two =
    let inverse = same_Some _ _ (sym one.inverts ∙ two.inverts) in
    let P : List ℕ → Type 0 = λ inverse. NormalForm group.rules (inverse ++ d ++ letters_of group.n b) e in
    normal_form_unique (subst P inverse one.normal) two.normal

module _ (group : Group) (words : List (List ℕ)) (step : ℕ → ℕ → ℕ → ℕ) (are : AreSteps group words step) where
  abbrev n : ℕ
  n = group.n

  read : (number a b : ℕ) (d : List ℕ) → HasNumber words number d → (0 < a) × (a ≤ n + 1) → (0 < b) × (b ≤ n + 1) → IsRead group words number a b
  read number a b d has first second =
      let is = has.is in
      let within = slice_get_within words has.index d has.at in record {
        positive = omega arith;
        among = omega arith;
        first_positive = first.0;
        first = first.1;
        second_positive = second.0;
        second = second.1;
      }

  -- a step that isn't 0 leads to a word that is kept
  pub step_leads : (number a b k : ℕ) (d : List ℕ) → HasNumber words number d → (0 < a) × (a ≤ n + 1) → (0 < b) × (b ≤ n + 1)
      → step number a b ≡ suc k → (e : List ℕ) × (LeadsBy group d a b e × HasNumber words (suc k) e)
  step_leads number a b k d has first second is =
      let P : ℕ → Type 0 = λ target. DifferenceStep group words number a b target in
      on (subst P is (are.each number a b (read number a b d has first second)))
    where
      on : DifferenceStep group words number a b (suc k) → (e : List ℕ) × (LeadsBy group d a b e × HasNumber words (suc k) e)
      on (to_kept {d = c} {e = e} from leads to) =
          let Q : List ℕ → Type 0 = λ word. LeadsBy group word a b e in (e, (subst Q (one_word words number c d from has) leads, to))

  -- and where a word that is kept is led to, the step is to its number
  pub leads_step : (number a b : ℕ) (d e : List ℕ) → HasNumber words number d → (0 < a) × (a ≤ n + 1) → (0 < b) × (b ≤ n + 1)
      → LeadsBy group d a b e → Contains words e → (k : ℕ) × ((step number a b ≡ suc k) × HasNumber words (suc k) e)
  leads_step number a b d e has first second leads kept =
      on (step number a b) refl (are.each number a b (read number a b d has first second))
    where
      on : (target : ℕ) → step number a b ≡ target → DifferenceStep group words number a b target
          → (k : ℕ) × ((step number a b ≡ suc k) × HasNumber words (suc k) e)
      on target is (to_kept {d = c} {e = f} from also to) =
          let Q : List ℕ → Type 0 = λ word. LeadsBy group word a b f in
          let same = one_target group d f e a b (subst Q (one_word words number c d from has) also) leads in
          let P : List ℕ → Type 0 = λ word. HasNumber words target word in
          let R : ℕ → Type 0 = λ z. HasNumber words z e in
          (to.index, (is ∙ to.is, subst R to.is (subst P same to)))
      on target is (to_none {d = c} {e = f} from also missing) =
          let Q : List ℕ → Type 0 = λ word. LeadsBy group word a b f in
          let same = one_target group d f e a b (subst Q (one_word words number c d from has) also) leads in
          let P : List ℕ → Type 0 = λ word. Contains words word in
          absurd (missing (subst P (sym same) kept))

  -- ---- along words

  letter : (x : ℕ) (u : List ℕ) → IsOver n (x ∷ u) → (0 < x) × (x ≤ n + 1)
  letter x u over = let is = All-head (λ (z : ℕ). (0 < z) × (z ≤ n)) x u over in let most = is.1 in (is.0, omega arith)

  over_rest : (x : ℕ) (u : List ℕ) → IsOver n (x ∷ u) → IsOver n u
  over_rest x u over = All-tail (λ (z : ℕ). (0 < z) × (z ≤ n)) x u over

  padding : (0 < n + 1) × (n + 1 ≤ n + 1)
  padding = (omega arith, omega arith)

  pub leads_of_run : (u v : List ℕ) (number last : ℕ) (d : List ℕ) → IsOver n u → IsOver n v → HasNumber words number d
      → StepRun step n number u v last → (f : List ℕ) × (HasNumber words last f × Leads group words d u v f)
  leads_of_run [] [] number last d over also has steps_end = (d, (has, at_end))
  leads_of_run (x ∷ u) (y ∷ v) number last d over also has (steps_both {k = k} is rest) =
      let to = step_leads number x y k d has (letter x u over) (letter y v also) is in
      let on = leads_of_run u v (suc k) last to.0 (over_rest x u over) (over_rest y v also) to.1.1 rest in
      (on.0, (on.1.0, by_both to.1.0 (kept_of_number words (suc k) to.0 to.1.1) on.1.1))
  leads_of_run (x ∷ u) [] number last d over also has (steps_first {k = k} is rest) =
      let to = step_leads number x (n + 1) k d has (letter x u over) padding is in
      let on = leads_of_run u [] (suc k) last to.0 (over_rest x u over) also to.1.1 rest in
      (on.0, (on.1.0, by_first to.1.0 (kept_of_number words (suc k) to.0 to.1.1) on.1.1))
  leads_of_run [] (y ∷ v) number last d over also has (steps_second {k = k} is rest) =
      let to = step_leads number (n + 1) y k d has padding (letter y v also) is in
      let on = leads_of_run [] v (suc k) last to.0 over (over_rest y v also) to.1.1 rest in
      (on.0, (on.1.0, by_second to.1.0 (kept_of_number words (suc k) to.0 to.1.1) on.1.1))

  pub run_of_leads : (u v : List ℕ) (number : ℕ) (d f : List ℕ) → IsOver n u → IsOver n v → HasNumber words number d
      → Leads group words d u v f → (last : ℕ) × (HasNumber words last f × StepRun step n number u v last)
  run_of_leads [] [] number d f over also has at_end = (number, (has, steps_end))
  run_of_leads (x ∷ u) (y ∷ v) number d f over also has (by_both {e = e} leads kept rest) =
      let to = leads_step number x y d e has (letter x u over) (letter y v also) leads kept in
      let on = run_of_leads u v (suc to.0) e f (over_rest x u over) (over_rest y v also) to.1.1 rest in
      (on.0, (on.1.0, steps_both to.1.0 on.1.1))
  run_of_leads (x ∷ u) [] number d f over also has (by_first {e = e} leads kept rest) =
      let to = leads_step number x (n + 1) d e has (letter x u over) padding leads kept in
      let on = run_of_leads u [] (suc to.0) e f (over_rest x u over) also to.1.1 rest in
      (on.0, (on.1.0, steps_first to.1.0 on.1.1))
  run_of_leads [] (y ∷ v) number d f over also has (by_second {e = e} leads kept rest) =
      let to = leads_step number (n + 1) y d e has padding (letter y v also) leads kept in
      let on = run_of_leads [] v (suc to.0) e f over (over_rest y v also) to.1.1 rest in
      (on.0, (on.1.0, steps_second to.1.0 on.1.1))
