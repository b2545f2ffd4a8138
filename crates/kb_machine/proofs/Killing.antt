-- A line is taken away because another left side is a factor of its own.
use Rattle.std.proofs.Common.{◌≡◌, ℕ, List, [], ◌∷◌, ◌++◌, Some, refl, sym, subst, inl, inr}
use Rattle.std.specs.List.{Contains}
use Rattle.std.proofs.lemmas.List.Elements.{Contains-append_left, Contains-push}
use Rattle.kb_word.specs.Words.{Pair, OneOf, IsFactor}
use Rattle.kb_machine.specs.Lines.{numbered, rules_of, replaced}
use Rattle.kb_machine.specs.declared.origin.Origin.{Origin}
use Rattle.kb_machine.specs.declared.origin.Origin.TheVariants as names
use Rattle.kb_machine.specs.States.{Problem, State, IsLiveRule}
use Rattle.kb_machine.specs.Machine.{Kills}
use Rattle.kb_machine.proofs.Words.{factor_transitive}
use Rattle.kb_machine.proofs.Invariant.{IsKnown, HasLiveFactor, origins, IsGone, Invariant, known_kept, kept_through}
use Rattle.kb_machine.proofs.Origins.{apart_push, origin_push_cases, waiting_push, keeps_first_push, halted_kept}
use Rattle.kb_machine.proofs.Taking.{live_cases, live_rule_cases, ascending_others, numbers_others, apart_taken, gone_taken}

module _ {problem : Problem} {before after : State} {k : ℕ} (inv : Invariant problem before)
    (step : Kills before after k) where
  abbrev others : List ℕ
  others = step.earlier ++ step.later

  abbrev killing : Origin
  killing = names.Killed k

  abbrev killed : State
  killed = record before { live = others; pending = before.pending ++ killing ∷ [] }

  -- the rule of a live line is that of a live line still, or its pair is pending
  known_live : (pair : Pair) → IsLiveRule before pair → IsKnown problem killed pair
  known_live pair live =
      elim (live_rule_cases inv k step.earlier step.later step.is_live step.own pair step.is_own live) [
        | inl own ↦
            let P : Pair → Type 0 = λ rule. numbered (rules_of before.lines) k ≡ Some rule in
            inr (killing, Contains-push before.pending killing, subst P own step.is_own)
        | inr other ↦ inl (live.0, other, live.2)
      ]

  known_killed : (pair : Pair) → IsKnown problem before pair → IsKnown problem killed pair
  known_killed pair (inl live) = known_live pair live
  known_killed pair (inr (origin, has, is)) =
      inr (origin, Contains-append_left before.pending (killing ∷ []) origin has, is)

  -- the other line, which is live still
  other_live : IsLiveRule killed step.rule
  other_live = elim (live_cases inv k step.earlier step.later step.is_live step.other step.other_is_live) [
    | inl other ↦ (step.other, other, step.is_rule)
    | inr same ↦ absurd (step.another (sym same))
  ]

  factors_killed : (pair : Pair) → OneOf (rules_of before.lines) pair → HasLiveFactor killed pair.0
  factors_killed pair one =
      let has = inv.factors pair one in
      let live = has.1 in
      elim (live_rule_cases inv k step.earlier step.later step.is_live step.own has.0 step.is_own live) [
        | inl own ↦
            let P : Pair → Type 0 = λ rule. IsFactor pair.0 rule.0 in
            let factor = factor_transitive pair.0 step.own.0 step.rule.0 (subst P (sym own) has.2) step.factor in
            (step.rule, other_live, factor)
        | inr other ↦ (has.0, (live.0, other, live.2), has.2)
      ]

  gone_killed : (origin : Origin) (j : ℕ) → Contains (origins before.lines killed.pending) origin
      → replaced origin ≡ Some j → IsGone before.lines others j
  gone_killed origin j has is =
      gone_taken inv k step.earlier step.later step.is_live killing refl origin j
      (origin_push_cases before.lines before.pending killing origin has) is

  killed_kept : Invariant problem killed
  killed_kept = record {
    kept = λ pair one. kept_through problem before killed
        (λ other known. known_kept problem killed other (known_killed other known)) pair (inv.kept pair one);
    justified = inv.justified;
    factors = factors_killed;
    few = inv.few;
    ascending = ascending_others inv k step.earlier step.later step.is_live;
    numbers = numbers_others inv k step.earlier step.later step.is_live;
    waiting = waiting_push (rules_of before.lines) before.pending killing inv.waiting (record {
      own = step.own;
      other = step.other;
      rule = step.rule;
      is_own = step.is_own;
      is_rule = step.is_rule;
      another = step.another;
      factor = step.factor;
    });
    apart = apart_push before.lines before.pending killing inv.apart
        (apart_taken inv k step.earlier step.later step.is_live killing refl (λ j e. cc e));
    gone = gone_killed;
    halted = halted_kept problem before others (before.pending ++ killing ∷ []) before.versions
        (keeps_first_push before.pending killing) inv.halted;
  }

-- what is kept stays where a line is taken away
pub kills_kept : {problem : Problem} {before after : State} (k : ℕ) → Invariant problem before → Kills before after k
    → Invariant problem after
kills_kept {problem = problem} k inv step = subst (Invariant problem) (sym step.is) (killed_kept inv step)
