-- Reductions by the live rules are derivations by live lines.
use Rattle.std.proofs.Common.{◌≡◌, ℕ, zero, suc, ◌<◌, ◌≤◌, List, [], ◌∷◌, ◌++◌, length, get_or, map, Some, slice_get, unwrap_or, All, sym, ap, ◌∙◌, subst, arith}
use Rattle.std.specs.List.{Contains}
use Rattle.std.specs.Option.{option_map}
use Rattle.std.proofs.lemmas.List.{length-map}
use Rattle.std.proofs.lemmas.List.Elements.{All-cons, All-nil}
use Rattle.std.proofs.lemmas.Option.{slice_get-map, slice_get_within, slice_get-get_or, unwrap_or-slice_get}
use Rattle.kb_word.specs.Words.{Pair, OneOf}
use Rattle.kb_word.specs.Rewriting.{IsIrreducible, ReducesTo}
use Rattle.kb_word.proofs.PathLemmas.{path_implied, Replaces-implied}
use Rattle.kb_rules.specs.declared.trace.Step.{Step}
use Rattle.kb_rules.specs.Steps.{IsStep, Leads}
use Rattle.kb_machine.specs.declared.line.Line.{Line}
use Rattle.kb_machine.specs.Lines.{numbered, rule_of, rules_of}
use Rattle.kb_machine.specs.declared.line.LogStep.{LogStep}
use Rattle.kb_machine.specs.Derivations.{Derives}
use Rattle.kb_machine.specs.States.{State, rule_numbered, live_rules, IsLiveRule}
use Rattle.kb_book.specs.Normal.{AreByLines, by_line, shown}
use Rattle.kb_book.proofs.Lists.{contained, contains_at}

-- the numbers are those of lines
abbrev pub AreNumbers : List Line → List ℕ → Type 0
AreNumbers lines live = All (λ k. (0 < k) × (k ≤ length lines)) live

-- a number up to the number of lines has its rule
pub numbered_within : (lines : List Line) (k : ℕ) → 0 < k → k ≤ length lines
    → numbered (rules_of lines) k ≡ Some (rule_numbered lines k)
numbered_within lines zero some fits = absurd (omega arith)
numbered_within lines (suc index) some fits =
    let d : Pair = ([], []) in
    let within : index < length (rules_of lines) = omega (arith, length-map lines rule_of) in
    let there : slice_get (rules_of lines) index ≡ Some (get_or (rules_of lines) index d) = slice_get-get_or (rules_of lines) index d within in
    there ∙ ap (λ (rule : Pair). Some rule) (sym (unwrap_or-slice_get (rules_of lines) index d))

-- the number of the live rule at an index, and its rule
pub live_at : (lines : List Line) (live : List ℕ) (index : ℕ) (rule : Pair) → AreNumbers lines live
    → slice_get (map (rule_numbered lines) live) index ≡ Some rule
    → (index < length live) × (numbered (rules_of lines) (get_or live index 0) ≡ Some rule)
live_at lines live index rule numbers is =
    let f = rule_numbered lines in
    let k = get_or live index 0 in
    let within : index < length live = omega (arith, slice_get_within (map f live) index rule is, length-map live f) in
    let there : slice_get live index ≡ Some k = slice_get-get_or live index 0 within in
    let same : Some (f k) ≡ Some rule = sym (slice_get-map f live index ∙ ap (option_map f) there) ∙ is in
    let number = numbers index 0 within in
    (within, numbered_within lines k number.0 number.1 ∙ same)

-- it is a live number
pub contains_get : (live : List ℕ) (index : ℕ) → index < length live → Contains live (get_or live index 0)
contains_get live index within =
    let there : slice_get live index ≡ Some (get_or live index 0) = slice_get-get_or live index 0 within in
    contains_at live index (get_or live index 0) there

-- the places of rules that steps name are within the list
pub steps_within : (rules : List Pair) (u : List ℕ) (steps : List Step) (v : List ℕ) → Leads (IsStep rules) u steps v
    → All (λ step. step.rule < length rules) steps
steps_within rules u [] v leads = All-nil (λ (step : Step). step.rule < length rules)
steps_within rules u (step ∷ rest) v leads =
    All-cons (λ (step : Step). step.rule < length rules) step rest (slice_get_within rules step.rule leads.1.rule leads.1.is_rule)
    (steps_within rules leads.0 rest v leads.2)

-- the step leads from u to v at this place, by the rule with this number, which is allowed
pub record IsStepAt (allowed : ℕ → Type 0) (rules : List Pair) (u : List ℕ) (place number : ℕ) (v : List ℕ) : Type 0 where
  pub before : List ℕ
  pub rule : Pair
  pub after : List ℕ
  pub is_allowed : allowed number
  pub is_rule : numbered rules number ≡ Some rule
  pub at : length before ≡ place
  pub from : u ≡ before ++ rule.0 ++ after
  pub to : v ≡ before ++ rule.1 ++ after

-- the steps by the live rules lead from u to v by allowed lines
abbrev pub Reduces : (ℕ → Type 0) → List Pair → List ℕ → List ℕ → List Step → List ℕ → Type 0
Reduces allowed rules live = Leads (λ u (step : Step) v. IsStepAt allowed rules u step.place (get_or live step.rule 0) v)

-- so these steps, by the numbers of their lines, are a derivation
pub derives_by : (allowed : ℕ → Type 0) (rules : List Pair) (live : List ℕ) (u : List ℕ) (steps : List Step) (logged : List LogStep)
    (v : List ℕ) → AreByLines live steps logged → Reduces allowed rules live u steps v → Derives allowed rules u logged v
derives_by allowed rules live u [] [] v are leads = leads
derives_by allowed rules live u [] (log ∷ logged) v are leads = absurd cc
derives_by allowed rules live u (step ∷ rest) [] v are leads = absurd cc
derives_by allowed rules live u (step ∷ rest) (log ∷ logged) v are leads =
    let head : shown log ≡ by_line live step = cc in
    let tail : map shown logged ≡ map (by_line live) rest = cc in
    let place : log.place ≡ step.place = ap (λ (p : ℕ × ℕ). p.0) head in
    let line : log.line ≡ get_or live step.rule 0 = ap (λ (p : ℕ × ℕ). p.1) head in
    let by : IsStepAt allowed rules u step.place (get_or live step.rule 0) leads.0 = leads.1 in (
      leads.0,
      record {
        before = by.before;
        rule = by.rule;
        after = by.after;
        is_allowed = subst allowed (sym line) by.is_allowed;
        is_rule = ap (numbered rules) line ∙ by.is_rule;
        at = by.at ∙ sym place;
        from = by.from;
        to = by.to;
      },
      derives_by allowed rules live leads.0 rest logged v tail leads.2,
    )

pub step_by : (lines : List Line) (live : List ℕ) → AreNumbers lines live → (u : List ℕ) (step : Step) (v : List ℕ)
    → IsStep (map (rule_numbered lines) live) u step v
    → IsStepAt (λ k. Contains live k) (rules_of lines) u step.place (get_or live step.rule 0) v
step_by lines live numbers u step v is =
    let at = live_at lines live step.rule is.rule numbers is.is_rule in
    record {
      before = is.before;
      rule = is.rule;
      after = is.after;
      is_allowed = contains_get live step.rule at.0;
      is_rule = at.1;
      at = is.at;
      from = is.from;
      to = is.to;
    }

-- steps by the live rules are steps by live lines
pub derives_live : (lines : List Line) (live : List ℕ) → AreNumbers lines live → (u : List ℕ) (steps : List Step) (v : List ℕ)
    → Leads (IsStep (map (rule_numbered lines) live)) u steps v
    → Reduces (λ k. Contains live k) (rules_of lines) live u steps v
derives_live lines live numbers u [] v leads = leads
derives_live lines live numbers u (step ∷ rest) v leads =
    (leads.0, step_by lines live numbers u step leads.0 leads.1, derives_live lines live numbers leads.0 rest v leads.2)

-- the listed live rules are the live rules
pub live_rule : (state : State) (pair : Pair) → AreNumbers state.lines state.live → OneOf (live_rules state) pair
    → IsLiveRule state pair
live_rule state pair numbers one =
    let at = live_at state.lines state.live one.0 pair numbers one.1 in
    (get_or state.live one.0 0, contains_get state.live one.0 at.0, at.1)

pub one_of_live : (state : State) (pair : Pair) → IsLiveRule state pair → OneOf (live_rules state) pair
one_of_live state pair live =
    let f = rule_numbered state.lines in
    let k = live.0 in
    let there : slice_get state.live live.1.0 ≡ Some k = contained state.live k live.1 in
    let same : f k ≡ pair = ap (λ o. unwrap_or o ([], [])) live.2 in
    (live.1.0, slice_get-map f state.live live.1.0 ∙ ap (option_map f) there ∙ ap (λ (rule : Pair). Some rule) same)

pub irreducible_live : (state : State) (w : List ℕ) → IsIrreducible (OneOf (live_rules state)) w → IsIrreducible (IsLiveRule state) w
irreducible_live state w irreducible before pair after live = irreducible before pair after (one_of_live state pair live)

pub reduces_live : (state : State) (u v : List ℕ) → AreNumbers state.lines state.live → ReducesTo (OneOf (live_rules state)) u v
    → ReducesTo (IsLiveRule state) u v
reduces_live state u v numbers reduces =
    path_implied (λ x y r. Replaces-implied (λ pair one. live_rule state pair numbers one) r) reduces
