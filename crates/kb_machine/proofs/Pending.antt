-- Events that change what is pending, or nothing that counts here: an overlap is entered, at the end or in front, the first
-- pair is dropped, a version is published.
use Rattle.std.proofs.Common.{◌≡◌, ℕ, List, [], ◌∷◌, ◌++◌, Some, sym, ap, ◌∙◌, subst, inl, inr}
use Rattle.std.specs.Prelude.{map}
use Rattle.std.specs.List.{AllPairs, Contains}
use Rattle.std.proofs.lemmas.List.Elements.{Contains-append_left}
use Rattle.kb_word.specs.Words.{Pair}
use Rattle.kb_word.proofs.PathLemmas.{congruent_covered, congruent_transitive, congruent_symmetric, congruent_by_reduction}
use Rattle.kb_word.specs.Congruence.{Congruent}
use Rattle.kb_word.specs.Rewriting.{ReducesTo}
use Rattle.kb_machine.specs.Lines.{rules_of, replaced}
use Rattle.kb_machine.specs.declared.line.Line.{Line}
use Rattle.kb_machine.specs.declared.origin.Origin.{Origin}
use Rattle.kb_machine.specs.declared.origin.Origin.TheVariants as names
use Rattle.kb_machine.specs.States.{Problem, State, IsLiveRule}
use Rattle.kb_machine.specs.Machine.{Enters, Balances, Drops}
use Rattle.kb_machine.specs.Course.{HaltSays}
use Rattle.kb_machine.proofs.Lists.{contains_around, contains_middle_cases, contains_cons_cases, contains_tail, pairs_around, pairs_middle}
use Rattle.kb_machine.proofs.Invariant.{IsKnown, IsKept, AreApart, MayBePending, origins, IsGone, Invariant, known_kept, kept_through}
use Rattle.kb_machine.proofs.Origins.{rest_pending, pending_cases, apart_push, origin_push_cases, waiting_push, keeps_first_push, halted_kept, running_halted}

apart_overlap : (other : Origin) (i j place : ℕ) → AreApart other (names.Overlap i j place)
apart_overlap other i j place (k, inl both) = absurd (cc both.1)
apart_overlap other i j place (k, inr both) = absurd (cc both.1)

module _ {problem : Problem} {before : State} (inv : Invariant problem before) (i j place : ℕ) where
  abbrev entered : State
  entered = record before { pending = before.pending ++ names.Overlap i j place ∷ [] }

  known_entered : (pair : Pair) → IsKnown problem before pair → IsKnown problem entered pair
  known_entered pair (inl live) = inl live
  known_entered pair (inr (origin, has, is)) =
      inr (origin, Contains-append_left before.pending (names.Overlap i j place ∷ []) origin has, is)

  entered_gone : (origin : Origin) (k : ℕ) → Contains (origins before.lines entered.pending) origin
      → replaced origin ≡ Some k
      → IsGone before.lines before.live k
  entered_gone origin k has is =
      elim (origin_push_cases before.lines before.pending (names.Overlap i j place) origin has) [
        | inl earlier ↦ inv.gone origin k earlier is
        | inr same ↦ absurd (let none : replaced (names.Overlap i j place) ≡ Some k = ap replaced same ∙ is in cc none)
      ]

  entered_kept : Invariant problem entered
  entered_kept = record {
    kept = λ pair one. kept_through problem before entered
        (λ other known. known_kept problem entered other (known_entered other known)) pair (inv.kept pair one);
    justified = inv.justified;
    factors = inv.factors;
    few = inv.few;
    ascending = inv.ascending;
    numbers = inv.numbers;
    waiting = waiting_push (rules_of before.lines) before.pending (names.Overlap i j place) inv.waiting tt;
    apart = apart_push before.lines before.pending (names.Overlap i j place) inv.apart
        (λ other has. apart_overlap other i j place);
    gone = entered_gone;
    halted = halted_kept problem before before.live (before.pending ++ names.Overlap i j place ∷ []) before.versions
        (keeps_first_push before.pending (names.Overlap i j place)) inv.halted;
  }

-- what is kept stays where an overlap becomes pending
pub enters_kept : {problem : Problem} {before after : State} (i j place : ℕ) → Invariant problem before
    → Enters before after i j place → Invariant problem after
enters_kept {problem = problem} i j place inv step =
    subst (Invariant problem) (sym step.is) (entered_kept inv i j place)

apart_from_overlap : (i j place : ℕ) (other : Origin) → AreApart (names.Overlap i j place) other
apart_from_overlap i j place other (k, inl both) = absurd (cc both.0)
apart_from_overlap i j place other (k, inr both) = absurd (cc both.0)

module _ {problem : Problem} {before after : State} (inv : Invariant problem before) (i j place : ℕ)
    (step : Balances before after i j place) where
  abbrev origin : Origin
  origin = names.Overlap i j place

  abbrev balanced : State
  balanced = record before { pending = origin ∷ before.pending }

  -- the origins of lines
  abbrev of_lines : List Origin
  of_lines = map (λ (line : Line). line.origin) before.lines

  known_balanced : (pair : Pair) → IsKnown problem before pair → IsKnown problem balanced pair
  known_balanced pair (inl live) = inl live
  known_balanced pair (inr (other, has, is)) = inr (other, contains_tail origin before.pending other has, is)

  balanced_gone : (other : Origin) (k : ℕ) → Contains (origins before.lines balanced.pending) other
      → replaced other ≡ Some k
      → IsGone before.lines before.live k
  balanced_gone other k has is =
      elim (contains_middle_cases of_lines origin before.pending other has) [
        | inl earlier ↦ inv.gone other k earlier is
        | inr same ↦ absurd (let none : replaced origin ≡ Some k = ap replaced same ∙ is in cc none)
      ]

  balanced_waiting : (other : Origin) → Contains balanced.pending other → MayBePending (rules_of before.lines) other
  balanced_waiting other has =
      elim (contains_cons_cases origin before.pending other has) [
        | inl same ↦ subst (MayBePending (rules_of before.lines)) same tt
        | inr later ↦ inv.waiting other later
      ]

  balanced_kept : Invariant problem balanced
  balanced_kept = record {
    kept = λ pair one. kept_through problem before balanced
        (λ other known. known_kept problem balanced other (known_balanced other known)) pair (inv.kept pair one);
    justified = inv.justified;
    factors = inv.factors;
    few = inv.few;
    ascending = inv.ascending;
    numbers = inv.numbers;
    waiting = balanced_waiting;
    apart = pairs_middle AreApart of_lines origin before.pending inv.apart
        (λ other has. apart_overlap other i j place) (λ other has. apart_from_overlap i j place other);
    gone = balanced_gone;
    halted = running_halted before.halt (HaltSays problem balanced) step.running;
  }

-- what is kept stays where an overlap becomes the first pending pair
pub balances_kept : {problem : Problem} {before after : State} (i j place : ℕ) → Invariant problem before
    → Balances before after i j place → Invariant problem after
balances_kept {problem = problem} i j place inv step =
    subst (Invariant problem) (sym step.is) (balanced_kept inv i j place step)

module _ {problem : Problem} {before after : State} (inv : Invariant problem before)
    (step : Drops problem before after) where
  abbrev dropped : State
  dropped = record before { pending = step.rest }

  -- the origins of lines
  abbrev made : List Origin
  made = map (λ (line : Line). line.origin) before.lines

  apart_before : AllPairs AreApart (made ++ step.origin ∷ step.rest)
  apart_before =
      let P : List Origin → Type 0 = λ pending. AllPairs AreApart (made ++ pending) in subst P step.pending.is inv.apart

  was_origin : (origin : Origin) → Contains (made ++ step.rest) origin → Contains (made ++ before.pending) origin
  was_origin origin has =
      let P : List Origin → Type 0 = λ pending. Contains (made ++ pending) origin in
      subst P (sym step.pending.is) (contains_around made step.origin step.rest origin has)

  live_kept : (rule : Pair) → IsLiveRule before rule → IsKept problem dropped rule
  live_kept rule live = known_kept problem dropped rule (inl live)

  -- the first pair joins by live rules
  first_kept : IsKept problem dropped step.pair
  first_kept =
      let reduces : (u v : List ℕ) → ReducesTo (IsLiveRule before) u v → Congruent (IsKnown problem dropped) u v =
      λ u v path.
      congruent_covered {allowed = IsLiveRule before} {others = IsKnown problem dropped} live_kept
      (congruent_by_reduction path) in
      congruent_transitive (reduces step.pair.0 step.joint step.first)
      (congruent_symmetric (reduces step.pair.1 step.joint step.second))

  kept_dropped : (pair : Pair) → IsKnown problem before pair → IsKept problem dropped pair
  kept_dropped pair (inl live) = live_kept pair live
  kept_dropped pair (inr pending) =
      elim (pending_cases problem before step.origin step.rest step.pending.is step.pair pair step.is_pair pending) [
        | inl first ↦ subst (IsKept problem dropped) first first_kept
        | inr other ↦ known_kept problem dropped pair (inr other)
      ]

  dropped_kept : Invariant problem dropped
  dropped_kept = record {
    kept = λ pair one. kept_through problem before dropped kept_dropped pair (inv.kept pair one);
    justified = inv.justified;
    factors = inv.factors;
    few = inv.few;
    ascending = inv.ascending;
    numbers = inv.numbers;
    waiting = λ origin has. inv.waiting origin
        (rest_pending problem before step.origin step.rest step.pending.is origin has);
    apart = pairs_around AreApart made step.origin step.rest apart_before;
    gone = λ origin k has is. inv.gone origin k (was_origin origin has) is;
    halted = running_halted before.halt (HaltSays problem dropped) step.pending.running;
  }

-- what is kept stays where the first pair, which joins, is dropped
pub drops_kept : {problem : Problem} {before after : State} → Invariant problem before → Drops problem before after
    → Invariant problem after
drops_kept {problem = problem} inv step = subst (Invariant problem) (sym step.is) (dropped_kept inv step)

published_kept : {problem : Problem} {before : State} → Invariant problem before
    → Invariant problem (record before { versions = before.versions ++ before.live ∷ [] })
published_kept {problem = problem} {before = before} inv = record {
  kept = inv.kept;
  justified = inv.justified;
  factors = inv.factors;
  few = inv.few;
  ascending = inv.ascending;
  numbers = inv.numbers;
  waiting = inv.waiting;
  apart = inv.apart;
  gone = inv.gone;
  halted = halted_kept problem before before.live before.pending (before.versions ++ before.live ∷ [])
      (λ origin rest e. (rest, e)) inv.halted;
}

-- what is kept stays where a version is published
pub publishes_kept : {problem : Problem} {before after : State} → Invariant problem before
    → after ≡ record before { versions = before.versions ++ before.live ∷ [] } → Invariant problem after
publishes_kept {problem = problem} inv is = subst (Invariant problem) (sym is) (published_kept inv)
