-- The multipliers of all generators: one exploration serves them all, and labels tell them apart.
use Rattle.std.proofs.Common.{◌≡◌, ◌↔◌, ℕ, suc, ◌+◌, ◌<◌, ◌≤◌, List, [], ◌∷◌, ◌++◌, get_or, map, slice_get, Some, refl, sym, ap, ◌∙◌, subst, inl, inr, arith}
use Rattle.std.proofs.lemmas.Bool.{cases_eq}
use Rattle.std.proofs.lemmas.List.{get_or_append_left, get_or_push, length_push}
use Rattle.std.proofs.lemmas.Option.{get_or_from_slice_get, slice_get_within}
use Rattle.kb_word.specs.Names.{AreApart}
use Rattle.kb_fsa.specs.Table.{AcceptsFrom, Table}
use Rattle.kb_fsa.specs.Padding.{padded}
use Rattle.kb_fsa.specs.Language.{Automaton, IsAutomaton}
use Rattle.kb_fsa.specs.declared.alphabet.Alphabet.TheVariants.{Pair, Plain}
use Rattle.kb_labelled.specs.Labels.{LabelledAutomaton, label_after}
use Rattle.kb_explore.specs.Exploration.{IsExploration}
use Rattle.kb_explore.proofs.ExplorationLemmas.{accepts_same}
use Rattle.kb_diff.specs.Groups.{Group}
use Rattle.kb_diff.specs.Steps.{AreSteps}
use Rattle.kb_diffwa.specs.declared.place.Place.{Place}
use Rattle.kb_diffwa.specs.Pairs.{pairs}
use Rattle.kb_diffwa.specs.Multipliers.{AreTargets, HasMultipliers, IsMultiplied, IsMultiplier}
use Rattle.kb_diffwa.proofs.Ends.{EndsAt, accepts_ends, labelled_ends}
use Rattle.kb_diffwa.proofs.Multiplying.{made_ends}

-- ---- targets

pub no_targets : (n : ℕ) (step : ℕ → ℕ → ℕ → ℕ) → AreTargets n step 0 []
no_targets n step = record { count = refl; each = λ index h. absurd (let no : ⊥ = omega arith in no) }

pub targets_more : (n : ℕ) (step : ℕ → ℕ → ℕ → ℕ) (done : ℕ) (targets : List ℕ) (target : ℕ) → target ≡ step 1 (n + 1) (done + 1)
    → AreTargets n step done targets → AreTargets n step (done + 1) (targets ++ target ∷ [])
targets_more n step done targets target is are = record {
  count = length_push targets target ∙ ap (λ k. k + 1) are.count;
  each = λ index h. elim (cases_eq index done) [
    | inl here ↦
        let newest = get_or_push targets target 0 done are.count in
        let one : done + 1 ≡ suc done = omega arith in
        let P : ℕ → Type 0 = λ k. get_or (targets ++ target ∷ []) k 0 ≡ step 1 (n + 1) (suc k) in
        subst P (sym here) (newest ∙ is ∙ ap (step 1 (n + 1)) one)
    | inr before ↦ get_or_append_left targets (target ∷ []) 0 index (omega (arith, are.count)) ∙ are.each index (omega arith)
  ];
}

-- ---- the automaton with labels

module _ {group : Group} {words : List (List ℕ)} {acceptor : Automaton} {n : ℕ} {step : ℕ → ℕ → ℕ → ℕ} (same : n ≡ group.n)
    (alphabet : acceptor.alphabet ≡ Plain group.n) (is : IsAutomaton acceptor) (are : AreSteps group words step)
    (apart : AreApart words) (empty : slice_get words 0 ≡ Some []) where
  pub has_multipliers : (targets : List ℕ) → AreTargets n step n targets → {made : Table} {states : List Place} {origins : List (ℕ × ℕ)}
      → IsExploration (pairs acceptor.table n step targets) made states origins → (labelled : LabelledAutomaton)
      → labelled ≡ record {
        automaton = record { alphabet = Pair n; table = made };
        labels = map (λ (place : Place). place.difference) states;
      } → HasMultipliers group words acceptor labelled targets
  has_multipliers targets reach {made} {states} {origins} explored labelled labelled_is = record {
    one_each = reach.count ∙ same;
    alphabet = ap (λ (l : LabelledAutomaton). l.automaton.alphabet) labelled_is ∙ ap Pair same;
    languages = λ index target at u v over also.
        let text = padded group.n u v in
        let within = slice_get_within targets index target at in
        let there : target ≡ step 1 (n + 1) (suc index) =
        sym (get_or_from_slice_get targets index target 0 at) ∙ reach.each index (omega (arith, within, reach.count)) in
        let low : suc index ≤ group.n = omega (arith, within, reach.count, same) in
        let one = labelled_ends acceptor.table n step targets explored text index target at in
        let two = made_ends same alphabet is are apart empty targets explored (suc index) (omega arith) low u v over also in
        let L : LabelledAutomaton → Type 0 = λ l. (label_after l text ≡ Some target) ↔ IsMultiplied group words acceptor (suc index) u v in
        let E : ℕ → Type 0 = λ t. EndsAt acceptor.table (pairs acceptor.table n step targets) text t in
        subst L (sym labelled_is) (λ has. two.0 (subst E there (one.0 has)), λ pair. one.1 (subst E (sym there) (two.1 pair)));
  }

  -- ---- one multiplier

  pub made_multiplier : (target x : ℕ) → 0 < x → x ≤ group.n → target ≡ step 1 (n + 1) x → {made : Table} {states : List Place} {origins : List (ℕ × ℕ)}
      → IsExploration (pairs acceptor.table n step (target ∷ [])) made states origins
      → IsMultiplier group words acceptor x (record { alphabet = Pair n; table = made })
  made_multiplier target x positive letter there {made} explored u v over also =
      let text = padded group.n u v in
      let accepted = accepts_same explored text in
      let one = accepts_ends acceptor.table n step target text in
      let two = made_ends same alphabet is are apart empty (target ∷ []) explored x positive letter u v over also in
      let E : ℕ → Type 0 = λ t. EndsAt acceptor.table (pairs acceptor.table n step (target ∷ [])) text t in
      let P : ℕ → Type 0 = λ m. AcceptsFrom made made.initial (padded m u v) ↔ IsMultiplied group words acceptor x u v in
      subst P (sym same) (
        λ accepts. two.0 (subst E there (one.0 (accepted.0 accepts))),
        λ pair. accepted.1 (one.1 (subst E (sym there) (two.1 pair))),
      )
