-- A line is taken from the live ones.
use Rattle.std.proofs.Common.{◌≡◌, ◌≢◌, ◌⊎◌, ℕ, ◌<◌, ◌≤◌, List, ◌∷◌, ◌++◌, length, All, Some, sym, ap, ◌∙◌, subst, inl, inr}
use Rattle.std.specs.List.{AllPairs, Contains}
use Rattle.std.proofs.lemmas.List.Elements.{All-contains}
use Rattle.kb_word.specs.Words.{Pair}
use Rattle.kb_machine.specs.Lines.{numbered, rules_of, replaced}
use Rattle.kb_machine.specs.declared.origin.Origin.{Origin}
use Rattle.kb_machine.specs.declared.origin.Origin.TheVariants.{Relation}
use Rattle.kb_machine.proofs.Numbers.{numbered_same}
use Rattle.kb_machine.specs.States.{Problem, State, IsLiveRule}
use Rattle.kb_machine.proofs.Lists.{contains_middle, contains_around, contains_middle_cases, pairs_around, all_contained, ascending_once}
use Rattle.kb_machine.proofs.Invariant.{AreApart, origins, IsGone, Invariant}

module _ {problem : Problem} {state : State} (inv : Invariant problem state) (k : ℕ) (earlier later : List ℕ)
    (is_live : state.live ≡ earlier ++ k ∷ later) where
  -- the line was live, and so were the others
  pub taken_live : Contains state.live k
  taken_live = let P : List ℕ → Type 0 = λ live.
      Contains live k in subst P (sym is_live) (contains_middle earlier k later)

  pub was_live : (j : ℕ) → Contains (earlier ++ later) j → Contains state.live j
  was_live j has =
      let P : List ℕ → Type 0 = λ live. Contains live j in subst P (sym is_live) (contains_around earlier k later j has)

  pub live_cases : (j : ℕ) → Contains state.live j → Contains (earlier ++ later) j ⊎ (k ≡ j)
  live_cases j has =
      let P : List ℕ → Type 0 = λ live. Contains live j in contains_middle_cases earlier k later j (subst P is_live has)

  -- a live rule is that of the line, or one of another live line
  pub live_rule_cases : (own rule : Pair) → numbered (rules_of state.lines) k ≡ Some own
      → (live : IsLiveRule state rule)
      → (own ≡ rule) ⊎ Contains (earlier ++ later) live.0
  live_rule_cases own rule is_own live = elim (live_cases live.0 live.1) [
    | inl other ↦ inr other
    | inr same ↦
        let P : ℕ → Type 0 = λ j. numbered (rules_of state.lines) j ≡ Some own in
        inl (numbered_same (rules_of state.lines) live.0 own rule (subst P same is_own) live.2)
  ]

  ascending_before : AllPairs (λ one other. one < other) (earlier ++ k ∷ later)
  ascending_before = subst (AllPairs (λ one other. one < other)) is_live inv.ascending

  pub ascending_others : AllPairs (λ one other. one < other) (earlier ++ later)
  ascending_others = pairs_around (λ one other. one < other) earlier k later ascending_before

  pub numbers_others : All (λ j. (0 < j) × (j ≤ length state.lines)) (earlier ++ later)
  numbers_others = all_contained (λ j. (0 < j) × (j ≤ length state.lines)) (earlier ++ later)
      (λ j has. All-contains (λ i. (0 < i) × (i ≤ length state.lines)) state.live j inv.numbers (was_live j has))

  -- the line is gone
  pub taken_gone : IsGone state.lines (earlier ++ later) k
  taken_gone =
      let within = All-contains (λ i. (0 < i) × (i ≤ length state.lines)) state.live k inv.numbers taken_live in
      (within.1, ascending_once earlier k later ascending_before)

  -- what was gone stays gone
  pub gone_others : (j : ℕ) → IsGone state.lines state.live j → IsGone state.lines (earlier ++ later) j
  gone_others j was = (was.0, λ has. was.1 (was_live j has))

  -- No origin clashes with one that replaces the line.
  pub apart_taken : (replacing : Origin) → replaced replacing ≡ Some k → ((j : ℕ) → replacing ≢ Relation j)
      → (origin : Origin) → Contains (origins state.lines state.pending) origin → AreApart origin replacing
  apart_taken replacing is none origin has (j, inl both) = absurd (none j both.1)
  apart_taken replacing is none origin has (j, inr both) =
      let same : j ≡ k = cc (is, both.1) in
      let P : ℕ → Type 0 = λ i. replaced origin ≡ Some i in
      (inv.gone origin k has (subst P same both.0)).1 taken_live

  -- what replaces the line, or was gone before, is gone
  pub gone_taken : (replacing : Origin) → replaced replacing ≡ Some k → (origin : Origin) (j : ℕ)
      → Contains (origins state.lines state.pending) origin ⊎ (replacing ≡ origin) → replaced origin ≡ Some j
      → IsGone state.lines (earlier ++ later) j
  gone_taken replacing at origin j (inl before) is = gone_others j (inv.gone origin j before is)
  gone_taken replacing at origin j (inr same) is =
      let number : replaced replacing ≡ Some j = ap replaced same ∙ is in
      let is_k : k ≡ j = cc (at, number) in
      subst (IsGone state.lines (earlier ++ later)) is_k taken_gone
