-- A line is made of the first pending pair, or the completion halts there.
use Rattle.std.proofs.Common.{◌≡◌, ℕ, ◌+◌, ◌<◌, ◌≤◌, List, [], ◌∷◌, ◌++◌, length, All, Some, sym, ap, ◌∙◌, subst, inl, inr, arith, length-append}
use Rattle.std.specs.List.{AllPairs, Contains}
use Rattle.std.proofs.lemmas.List.Elements.{All-contains, All-weaker, All-push, Contains-append_left, Contains-push, Contains-push_cases}
use Rattle.kb_word.specs.Words.{Pair, OneOf}
use Rattle.kb_machine.specs.Lines.{rule_of, rules_of, replaced}
use Rattle.kb_machine.specs.declared.line.Line.{Line}
use Rattle.kb_machine.specs.declared.origin.Origin.{Origin}
use Rattle.kb_machine.proofs.Numbers.{extends_push, numbered_last, pair_extends}
use Rattle.kb_machine.proofs.Consequences.{deriving_congruent}
use Rattle.kb_machine.proofs.Appending.{justified_push}
use Rattle.kb_machine.specs.States.{Problem, State, IsLiveRule}
use Rattle.kb_machine.specs.Machine.{IsLive, Makes}
use Rattle.kb_machine.specs.Course.{HaltSays}
use Rattle.kb_machine.proofs.Lists.{pairs_push}
use Rattle.kb_machine.proofs.Invariant.{IsKnown, IsKept, AreApart, HasLiveFactor, origins, IsGone, MayBePending, Invariant, known_kept, kept_through}
use Rattle.kb_machine.proofs.Origins.{rest_pending, pending_cases, origins_line, may_be_pending_extends, running_halted}
use Rattle.kb_machine.proofs.NewLines.{factors_push, pending_may_come}

-- numbers of lines are numbers of more lines
pub numbers_push : (lines : List Line) (line : Line) (live : List ℕ) → All (λ k. (0 < k) × (k ≤ length lines)) live
    → All (λ k. (0 < k) × (k ≤ length (lines ++ line ∷ []))) live
numbers_push lines line live numbers =
    All-weaker (λ k. (0 < k) × (k ≤ length lines)) (λ k. (0 < k) × (k ≤ length (lines ++ line ∷ [])))
    (λ k h. let low = h.0 in let high = h.1 in (low, omega (arith, length-append lines (line ∷ [])))) live numbers

-- the number after those of the lines comes after the live ones
pub numbers_below : (lines : List Line) (live : List ℕ) (k : ℕ) → k ≡ length lines + 1
    → All (λ j. (0 < j) × (j ≤ length lines)) live → (j : ℕ) → Contains live j → j < k
numbers_below lines live k is numbers j has =
    let within = All-contains (λ i. (0 < i) × (i ≤ length lines)) live j numbers has in
    let high = within.1 in
    omega arith

module _ {problem : Problem} {before after : State} {k : ℕ} (inv : Invariant problem before)
    (step : Makes problem before after k) where
  abbrev line : Line
  line = step.line

  abbrev with_line : State
  with_line = record before { lines = before.lines ++ line ∷ []; live = before.live ++ k ∷ []; pending = step.rest }

  live_more : (rule : Pair) → IsLiveRule before rule → IsLiveRule with_line rule
  live_more rule (j, has, is) =
      (j, Contains-append_left before.live (k ∷ []) j has, extends_push before.lines line j rule is)

  line_is_live : IsLiveRule with_line (rule_of line)
  line_is_live = (k, Contains-push before.live k, numbered_last before.lines line k step.number)

  kept_live : (rule : Pair) → IsLiveRule with_line rule → IsKept problem with_line rule
  kept_live rule live = known_kept problem with_line rule (inl live)

  -- the words of the first pair lead to the sides of the line
  kept_first : IsKept problem with_line step.apart.pair
  kept_first =
      deriving_congruent {others = IsKnown problem with_line} (IsLive before) (rules_of before.lines) step.apart.pair
      line.first_steps.items line.second_steps.items line.left line.right (kept_live (rule_of line) line_is_live)
      (λ rule live. kept_live rule (live_more rule live)) step.apart.derived

  kept_known : (pair : Pair) → IsKnown problem before pair → IsKept problem with_line pair
  kept_known pair (inl live) = kept_live pair (live_more pair live)
  kept_known pair (inr pending) =
      elim (pending_cases problem before step.origin step.rest step.pending.is step.apart.pair pair step.apart.is_pair
      pending) [
        | inl first ↦ subst (IsKept problem with_line) first kept_first
        | inr other ↦
            let among = pair_extends problem.relations (rules_of before.lines) (rules_of with_line.lines) other.0 pair
            (extends_push before.lines line) other.2 in
            known_kept problem with_line pair (inr (other.0, other.1, among))
      ]

  factors_before : (pair : Pair) → OneOf (rules_of before.lines) pair → HasLiveFactor with_line pair.0
  factors_before pair one = let has = inv.factors pair one in (has.0, live_more has.0 has.1, has.2)

  waiting_rest : (origin : Origin) → Contains step.rest origin → MayBePending (rules_of with_line.lines) origin
  waiting_rest origin has =
      may_be_pending_extends (rules_of before.lines) (rules_of with_line.lines) origin (extends_push before.lines line)
      (inv.waiting origin (rest_pending problem before step.origin step.rest step.pending.is origin has))

  -- the origins are those from before
  same_origins : origins before.lines before.pending ≡ origins with_line.lines step.rest
  same_origins =
      ap (origins before.lines) (step.pending.is ∙ ap (λ first. first ∷ step.rest) (sym step.of_origin))
      ∙ origins_line before.lines line step.rest

  gone_more : (origin : Origin) (j : ℕ) → Contains (origins with_line.lines step.rest) origin → replaced origin ≡ Some j
      → IsGone with_line.lines with_line.live j
  gone_more origin j has is =
      let P : List Origin → Type 0 = λ list. Contains list origin in
      let was = inv.gone origin j (subst P (sym same_origins) has) is in
      let within = was.0 in
      let number = step.number in (
        omega (arith, length-append before.lines (line ∷ [])),
        λ live. elim (Contains-push_cases before.live k j live) [
          | inl earlier ↦ was.1 earlier
          | inr here ↦ absurd (omega arith)
        ],
      )

  made_kept : Invariant problem with_line
  made_kept = record {
    kept = λ pair one. kept_through problem before with_line kept_known pair (inv.kept pair one);
    justified = justified_push inv.justified
        (pending_may_come inv step.origin step.rest step.pending.is line step.of_origin step.apart);
    factors = factors_push with_line before.lines line factors_before line_is_live;
    few = let room = step.room in omega (arith, length-append before.lines (line ∷ []));
    ascending = pairs_push (λ one other. one < other) before.live k inv.ascending
        (numbers_below before.lines before.live k step.number inv.numbers);
    numbers = All-push (λ j. (0 < j) × (j ≤ length (before.lines ++ line ∷ []))) before.live k
        (numbers_push before.lines line before.live inv.numbers)
        (let number = step.number in
        (omega arith, omega (arith, length-append before.lines (line ∷ []))));
    waiting = waiting_rest;
    apart = subst (AllPairs AreApart) same_origins inv.apart;
    gone = gone_more;
    halted = running_halted before.halt (HaltSays problem with_line) step.pending.running;
  }

-- what is kept stays where a line is made
pub makes_kept : {problem : Problem} {before after : State} (k : ℕ) → Invariant problem before
    → Makes problem before after k
    → Invariant problem after
makes_kept {problem = problem} k inv step = subst (Invariant problem) (sym step.is) (made_kept inv step)
