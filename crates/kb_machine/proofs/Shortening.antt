-- A line is replaced by one with a lesser right side.
use Rattle.std.proofs.Common.{◌≡◌, ◌≢◌, ℕ, ◌<◌, ◌≤◌, List, [], ◌∷◌, ◌++◌, length, Some, refl, sym, ap, ◌∙◌, subst, inl, inr, arith, length-append}
use Rattle.std.specs.Prelude.{slice_get, map}
use Rattle.std.specs.List.{AllPairs, Contains}
use Rattle.std.proofs.lemmas.List.Elements.{All-push, Contains-append_left, Contains-append_right, Contains-push, Contains-push_cases}
use Rattle.kb_word.specs.Words.{Pair, OneOf, IsFactor}
use Rattle.kb_word.specs.WordOrderLaws.{word_orders}
use Rattle.kb_word.specs.Congruence.{Congruent}
use Rattle.kb_word.proofs.PathLemmas.{path_equal, congruent_symmetric, congruent_transitive}
use Rattle.kb_rules.proofs.Reducts.{IsAtMost, reduct_at_most}
use Rattle.kb_machine.specs.Lines.{numbered, rule_of, rules_of, replaced}
use Rattle.kb_machine.specs.Derivations.{Any}
use Rattle.kb_machine.specs.Justified.{FollowsBy, ShortensRule}
use Rattle.kb_machine.specs.declared.line.Line.{Line}
use Rattle.kb_machine.specs.declared.origin.Origin.{Origin}
use Rattle.kb_machine.specs.declared.origin.Origin.TheVariants as names
use Rattle.kb_machine.proofs.Numbers.{numbered_one, extends_push, numbered_last, pair_extends}
use Rattle.kb_machine.proofs.Consequences.{IsAllowedRule, derivation_reduces, derivation_congruent, derives_implied}
use Rattle.kb_machine.proofs.Logs.{justified_decreases}
use Rattle.kb_machine.proofs.Appending.{MayCome, justified_push}
use Rattle.kb_machine.specs.States.{Problem, State, below, IsLiveRule}
use Rattle.kb_machine.specs.Machine.{IsLive, Shortens}
use Rattle.kb_machine.specs.Course.{HaltSays}
use Rattle.kb_machine.proofs.Lists.{contains_middle_cases, pairs_push, pairs_middle}
use Rattle.kb_machine.proofs.Invariant.{IsKnown, IsKept, AreApart, HasLiveFactor, origins, IsGone, Invariant, known_kept, kept_through}
use Rattle.kb_machine.proofs.Origins.{origins_line, origin_of_line, may_be_pending_extends, running_halted}
use Rattle.kb_machine.proofs.NewLines.{factors_push}
use Rattle.kb_machine.proofs.Making.{numbers_push, numbers_below}
use Rattle.kb_machine.proofs.Taking.{live_cases, live_rule_cases, ascending_others, numbers_others, apart_taken, gone_taken}

module _ {problem : Problem} {before after : State} {k new : ℕ} (inv : Invariant problem before)
    (step : Shortens problem before after k new) where
  abbrev others : List ℕ
  others = step.earlier ++ step.later

  abbrev line : Line
  line = step.line

  abbrev lines : List Line
  lines = before.lines ++ line ∷ []

  abbrev shortened : State
  shortened = record before { lines = lines; live = others ++ new ∷ [] }

  -- ---- the line may come next

  -- the numbers that its derivation may name
  abbrev IsOther : ℕ → Type 0
  IsOther j = IsLive before j × (j ≢ k)

  decreases : below problem line.right line.left
  decreases =
      let one : OneOf (rules_of before.lines) step.own = numbered_one (rules_of before.lines) k step.own step.is_own in
      let own : below problem step.own.1 step.own.0 = justified_decreases inv.justified step.own one in
      let order = word_orders problem.order in
      let falling : (rule : Pair) → IsAllowedRule IsOther (rules_of before.lines) rule → below problem rule.1 rule.0 =
      λ rule allowed.
      justified_decreases inv.justified rule (numbered_one (rules_of before.lines) allowed.0 rule allowed.2) in
      let at_most : IsAtMost (below problem) line.right step.own.1 =
      reduct_at_most order {allowed = IsAllowedRule IsOther (rules_of before.lines)} falling
      (derivation_reduces IsOther (rules_of before.lines) step.own.1 line.right line.first_steps.items step.right) in
      let P : List ℕ → Type 0 = λ w. below problem line.right w in
      let Q : List ℕ → Type 0 = λ w. below problem w step.own.0 in
      subst P (sym step.left) (elim at_most [
        | inl same ↦ subst Q (sym same) own
        | inr lower ↦ order.transitive line.right step.own.1 step.own.0 lower own
      ])

  follows : ShortensRule (rules_of before.lines) k line
  follows = record {
    rule = step.own;
    is_rule = step.is_own;
    left = step.left;
    right = derives_implied IsOther Any (rules_of before.lines) step.own.1 line.right line.first_steps.items
        (λ j other. tt) step.right;
    changed = step.changed;
    no_second = step.no_second;
  }

  abbrev shortening : Origin
  shortening = names.Shortened k

  -- no origin from before clashes with that of the line
  apart_shortened : (origin : Origin) → Contains (origins before.lines before.pending) origin
      → AreApart origin shortening
  apart_shortened = apart_taken inv k step.earlier step.later step.is_live shortening refl (λ j e. cc e)

  apart_line : (index : ℕ) (other : Line) → slice_get before.lines index ≡ Some other
      → AreApart other.origin line.origin
  apart_line index other is_line =
      let among = Contains-append_left (map (λ (each : Line). each.origin) before.lines) before.pending other.origin
      (origin_of_line before.lines index other is_line) in
      subst (AreApart other.origin) (sym step.of_origin) (apart_shortened other.origin among)

  may_come : MayCome (below problem) problem.relations before.lines line
  may_come = record {
    follows = let P : Origin → Type 0 = λ origin. FollowsBy problem.relations (rules_of before.lines) origin line in
        subst P (sym step.of_origin) follows;
    decreases = decreases;
    new_relation = λ index other j is_line one two. apart_line index other is_line (j, inl (one, two));
    new_replaced = λ index other j is_line one two. apart_line index other is_line (j, inr (one, two));
  }

  -- ---- live rules

  line_is_live : IsLiveRule shortened (rule_of line)
  line_is_live = (new, Contains-push others new, numbered_last before.lines line new step.number)

  other_is_live : (rule : Pair) (j : ℕ) → Contains others j → numbered (rules_of before.lines) j ≡ Some rule
      → IsLiveRule shortened rule
  other_is_live rule j has is =
      (j, Contains-append_left others (new ∷ []) j has, extends_push before.lines line j rule is)

  kept_live : (rule : Pair) → IsLiveRule shortened rule → IsKept problem shortened rule
  kept_live rule live = known_kept problem shortened rule (inl live)

  -- a rule that the derivation names is live still
  allowed_kept : (rule : Pair) → IsAllowedRule IsOther (rules_of before.lines) rule → IsKept problem shortened rule
  allowed_kept rule (j, other, is) = elim (live_cases inv k step.earlier step.later step.is_live j other.0) [
    | inl has ↦ kept_live rule (other_is_live rule j has is)
    | inr same ↦ absurd (other.1 (sym same))
  ]

  -- the sides of the line that was replaced are congruent by the new one and the others
  own_kept : IsKept problem shortened step.own
  own_kept =
      let reduced : Congruent (IsKnown problem shortened) step.own.1 line.right =
      derivation_congruent {others = IsKnown problem shortened} IsOther (rules_of before.lines) step.own.1 line.right
      line.first_steps.items allowed_kept step.right in
      congruent_transitive (path_equal step.own.0 line.left (sym step.left))
      (congruent_transitive (kept_live (rule_of line) line_is_live) (congruent_symmetric reduced))

  kept_known : (pair : Pair) → IsKnown problem before pair → IsKept problem shortened pair
  kept_known pair (inl live) =
      elim (live_rule_cases inv k step.earlier step.later step.is_live step.own pair step.is_own live) [
        | inl own ↦ subst (IsKept problem shortened) own own_kept
        | inr other ↦ kept_live pair (other_is_live pair live.0 other live.2)
      ]
  kept_known pair (inr (origin, has, is)) =
      let among = pair_extends problem.relations (rules_of before.lines) (rules_of lines) origin pair
      (extends_push before.lines line) is in
      known_kept problem shortened pair (inr (origin, has, among))

  factors_before : (pair : Pair) → OneOf (rules_of before.lines) pair → HasLiveFactor shortened pair.0
  factors_before pair one =
      let has = inv.factors pair one in
      let live = has.1 in
      elim (live_rule_cases inv k step.earlier step.later step.is_live step.own has.0 step.is_own live) [
        | inl own ↦
            let P : List ℕ → Type 0 = λ w. IsFactor pair.0 w in
            let same : has.0.0 ≡ line.left = ap (λ (rule : Pair). rule.0) (sym own) ∙ sym step.left in
            (rule_of line, line_is_live, subst P same has.2)
        | inr other ↦ (has.0, other_is_live has.0 live.0 other live.2, has.2)
      ]

  -- ---- origins

  abbrev made : List Origin
  made = map (λ (each : Line). each.origin) before.lines

  same_origins : made ++ shortening ∷ before.pending ≡ origins lines before.pending
  same_origins =
      ap (λ origin. made ++ origin ∷ before.pending) (sym step.of_origin)
      ∙ origins_line before.lines line before.pending

  AreApart-back : (one other : Origin) → AreApart one other → AreApart other one
  AreApart-back one other apart (j, inl both) = apart (j, inl (both.1, both.0))
  AreApart-back one other apart (j, inr both) = apart (j, inr (both.1, both.0))

  apart_all : AllPairs AreApart (origins lines before.pending)
  apart_all = subst (AllPairs AreApart) same_origins
      (pairs_middle AreApart made shortening before.pending inv.apart
      (λ origin has. apart_shortened origin (Contains-append_left made before.pending origin has))
      (λ origin has. AreApart-back origin shortening
      (apart_shortened origin (Contains-append_right made before.pending origin has))))

  gone_more : (j : ℕ) → IsGone before.lines others j → IsGone lines (others ++ new ∷ []) j
  gone_more j was =
      let within = was.0 in
      let number = step.number in (
        omega (arith, length-append before.lines (line ∷ [])),
        λ live. elim (Contains-push_cases others new j live) [
          | inl earlier ↦ was.1 earlier
          | inr here ↦ absurd (omega arith)
        ],
      )

  gone_shortened : (origin : Origin) (j : ℕ) → Contains (origins lines before.pending) origin → replaced origin ≡ Some j
      → IsGone lines shortened.live j
  gone_shortened origin j has is =
      let P : List Origin → Type 0 = λ list. Contains list origin in
      gone_more j (gone_taken inv k step.earlier step.later step.is_live shortening refl origin j
      (contains_middle_cases made shortening before.pending origin (subst P (sym same_origins) has)) is)

  -- ---- all of it

  shortened_kept : Invariant problem shortened
  shortened_kept = record {
    kept = λ pair one. kept_through problem before shortened kept_known pair (inv.kept pair one);
    justified = justified_push inv.justified may_come;
    factors = factors_push shortened before.lines line factors_before line_is_live;
    few = let room = step.room in omega (arith, length-append before.lines (line ∷ []));
    ascending = pairs_push (λ one other. one < other) others new
        (ascending_others inv k step.earlier step.later step.is_live)
        (numbers_below before.lines others new step.number (numbers_others inv k step.earlier step.later step.is_live));
    numbers = All-push (λ j. (0 < j) × (j ≤ length lines)) others new
        (numbers_push before.lines line others (numbers_others inv k step.earlier step.later step.is_live))
        (let number = step.number in (omega arith, omega (arith, length-append before.lines (line ∷ []))));
    waiting = λ origin has. may_be_pending_extends (rules_of before.lines) (rules_of lines) origin
        (extends_push before.lines line)
        (inv.waiting origin has);
    apart = apart_all;
    gone = gone_shortened;
    halted = running_halted before.halt (HaltSays problem shortened) step.running;
  }

-- what is kept stays where a line is replaced by a shorter one
pub shortens_kept : {problem : Problem} {before after : State} (k new : ℕ) → Invariant problem before
    → Shortens problem before after k new → Invariant problem after
shortens_kept {problem = problem} k new inv step = subst (Invariant problem) (sym step.is) (shortened_kept inv step)
