-- Runs from rival to rival: they are those of words beside a suffix.
use Rattle.std.proofs.Common.{◌≡◌, ℕ, suc, ◌+◌, ◌-◌, ◌<◌, ◌≤◌, List, [], ◌∷◌, Some, sym, ap, ◌∙◌, subst, inl, inr, arith}
use Rattle.std.proofs.lemmas.Bool.{cases_eq}
use Rattle.std.proofs.lemmas.List.Elements.{All-cons, All-head, All-nil, All-tail}
use Rattle.std.proofs.lemmas.Option.{same_Some}
use Rattle.kb_word.specs.Relations.{IsOver}
use Rattle.kb_diff.proofs.StepRuns.{StepRun, steps_both, steps_end, steps_first}
use Rattle.kb_diffwa.specs.Comparing.{Comparison, Ended, compared}
use Rattle.kb_diffwa.specs.Rivals.{Rival}
use Rattle.kb_diffwa.specs.RivalMoves.{GoesOn}
use Rattle.kb_diffwa.proofs.ComparisonRuns.{ComparedRun, compared_both, compared_end, compared_padded, ended_empty, padding_ends}

-- from one rival to another by the letters of s
pub data RivalRun (n : ℕ) (step : ℕ → ℕ → ℕ → ℕ) : Rival → List ℕ → Rival → Type 0 where
  rival_end : {rival : Rival} → RivalRun n step rival [] rival
  rival_on : {rival later last : Rival} {a : ℕ} {s : List ℕ} → GoesOn n step rival a later
      → RivalRun n step later s last → RivalRun n step rival (a ∷ s) last

-- the word v leads from one rival to another beside s
pub record WordLeads (n : ℕ) (step : ℕ → ℕ → ℕ → ℕ) (rival : Rival) (s v : List ℕ) (last : Rival) : Type 0 where
  pub letters : IsOver n v
  pub steps : StepRun step n rival.difference s v last.difference
  pub compares : ComparedRun n rival.comparison s v last.comparison

module _ (n : ℕ) (step : ℕ → ℕ → ℕ → ℕ) where
  letter : (x : ℕ) (w : List ℕ) → IsOver n (x ∷ w) → (0 < x) × (x ≤ n)
  letter x w over = All-head (λ (z : ℕ). (0 < z) × (z ≤ n)) x w over

  over_rest : (x : ℕ) (w : List ℕ) → IsOver n (x ∷ w) → IsOver n w
  over_rest x w over = All-tail (λ (z : ℕ). (0 < z) × (z ≤ n)) x w over

  over_cons : (x : ℕ) (w : List ℕ) → 0 < x → x ≤ n → IsOver n w → IsOver n (x ∷ w)
  over_cons x w positive most over = All-cons (λ (z : ℕ). (0 < z) × (z ≤ n)) x w (positive, most) over

  over_none : IsOver n []
  over_none = All-nil (λ (z : ℕ). (0 < z) × (z ≤ n))

  -- ---- the words of a run

  word_on : (rival later last : Rival) (a : ℕ) (s v : List ℕ) → GoesOn n step rival a later
      → WordLeads n step later s v last → (word : List ℕ) × WordLeads n step rival (a ∷ s) word last
  word_on rival later last a s v goes leads =
      let k = later.difference - 1 in
      let positive = goes.kept in
      let number : later.difference ≡ suc k = omega arith in
      let to : step rival.difference a goes.b ≡ suc k = goes.difference ∙ number in
      let S : ℕ → Type 0 = λ d. StepRun step n d s v last.difference in
      let steps = subst S number leads.steps in
      elim (cases_eq goes.b (n + 1)) [
        | inl pads ↦
            let by_padding : compared n rival.comparison a (n + 1) ≡ Some later.comparison =
            ap (compared n rival.comparison a) (sym pads) ∙ goes.comparison in
            let has_ended : later.comparison ≡ Ended =
            same_Some _ _ (sym by_padding ∙ padding_ends n a rival.comparison) in
            let C : Comparison → Type 0 = λ c. ComparedRun n c s v last.comparison in
            let empty = ended_empty n s v last.comparison leads.letters (subst C has_ended leads.compares) in
            let T : List ℕ → Type 0 = λ word. StepRun step n (suc k) s word last.difference in
            let D : List ℕ → Type 0 = λ word. ComparedRun n later.comparison s word last.comparison in (
              [],
              record {
                letters = over_none;
                steps = steps_first (ap (step rival.difference a) (sym pads) ∙ to) (subst T empty steps);
                compares = compared_padded by_padding (subst D empty leads.compares);
              },
            )
        | inr differ ↦
            let b = goes.b in
            let within = goes.letter in
            let most : b ≤ n = omega (arith, differ) in (
              b ∷ v,
              record {
                letters = over_cons b v goes.positive most leads.letters;
                steps = steps_both to steps;
                compares = compared_both goes.comparison leads.compares;
              },
            )
      ]

  pub word_of_run : (s : List ℕ) (rival last : Rival) → RivalRun n step rival s last
      → (v : List ℕ) × WordLeads n step rival s v last
  word_of_run [] rival last rival_end = ([], record { letters = over_none; steps = steps_end; compares = compared_end })
  word_of_run (a ∷ s) rival last (rival_on {later = later} goes rest) =
      let word = word_of_run s later last rest in word_on rival later last a s word.0 goes word.1

  -- a rival's move by a letter a of s, and a letter b of its own or the padding
  goes_by : (d a b k : ℕ) (c later : Comparison) → 0 < b → b ≤ n + 1 → step d a b ≡ suc k
      → compared n c a b ≡ Some later
      → GoesOn n step (record { difference = d; comparison = c }) a (record { difference = suc k; comparison = later })
  goes_by d a b k c later positive letter to compares = record {
    b = b;
    positive = positive;
    letter = letter;
    difference = to;
    kept = omega arith;
    comparison = compares;
  }

  pub run_of_word : (s v : List ℕ) (d d' : ℕ) (c c' : Comparison) → IsOver n v → StepRun step n d s v d'
      → ComparedRun n c s v c'
      → RivalRun n step (record { difference = d; comparison = c }) s (record { difference = d'; comparison = c' })
  run_of_word [] [] d d' c c' over steps_end compared_end = rival_end
  run_of_word [] (b ∷ v) d d' c c' over steps run = elim run [ ]
  run_of_word (a ∷ s) [] d d' c c' over (steps_first {k = k} to steps) (compared_padded {between = later} by on) =
      rival_on (goes_by d a (n + 1) k c later (omega arith) (omega arith) to by)
      (run_of_word s [] (suc k) d' later c' over steps on)
  run_of_word (a ∷ s) (b ∷ v) d d' c c' over (steps_both {k = k} to steps) (compared_both {between = later} by on) =
      let is = letter b v over in
      let most = is.1 in
      rival_on (goes_by d a b k c later is.0 (omega arith) to by)
      (run_of_word s v (suc k) d' later c' (over_rest b v over) steps on)
