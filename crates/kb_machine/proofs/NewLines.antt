-- A line of the first pending pair may come next.
use Rattle.std.proofs.Common.{◌≡◌, ℕ, List, [], ◌∷◌, ◌++◌, Some, sym, subst, inl, inr}
use Rattle.std.specs.Prelude.{slice_get, map}
use Rattle.std.specs.List.{AllPairs, Contains}
use Rattle.kb_word.specs.Words.{Pair, OneOf}
use Rattle.kb_word.specs.Rewriting.{IsIrreducible}
use Rattle.kb_machine.specs.Lines.{rule_of, rules_of, IsPairOf}
use Rattle.kb_machine.specs.Derivations.{Any}
use Rattle.kb_machine.specs.Justified.{ComesFromPair, FollowsBy}
use Rattle.kb_machine.specs.declared.line.Line.{Line}
use Rattle.kb_machine.specs.declared.origin.Origin.{Origin}
use Rattle.kb_machine.specs.declared.origin.Origin.TheVariants.{Relation, Overlap, Killed, Shortened}
use Rattle.kb_machine.proofs.Numbers.{rules_push_cases}
use Rattle.kb_machine.proofs.Consequences.{derives_both_implied}
use Rattle.kb_machine.proofs.Appending.{MayCome}
use Rattle.kb_machine.specs.States.{Problem, State, below, IsLiveRule}
use Rattle.kb_machine.specs.Machine.{IsLive, LeadsApart}
use Rattle.kb_machine.proofs.Lists.{contains_head, pairs_before}
use Rattle.kb_machine.proofs.Words.{factor_itself, irreducible_by_factors}
use Rattle.kb_machine.proofs.Invariant.{AreApart, HasLiveFactor, MayBePending, Invariant}
use Rattle.kb_machine.proofs.Origins.{origin_of_line}

-- what the live rules don't reduce no rule reduces
pub all_irreducible : {problem : Problem} {state : State} → Invariant problem state → (w : List ℕ)
    → IsIrreducible (IsLiveRule state) w
    → IsIrreducible (OneOf (rules_of state.lines)) w
all_irreducible {state = state} inv w irreducible =
    irreducible_by_factors (IsLiveRule state) (OneOf (rules_of state.lines)) w inv.factors irreducible

-- with what a pending origin says, a line of its pair follows
follows_pending : (relations rules : List Pair) (origin : Origin) (line : Line) → MayBePending rules origin
    → ComesFromPair relations rules line → FollowsBy relations rules origin line
follows_pending relations rules (Relation k) line may comes = comes
follows_pending relations rules (Overlap i j place) line may comes = comes
follows_pending relations rules (Killed k) line may comes = (comes, may)
follows_pending relations rules (Shortened k) line may comes = absurd may

-- After a live line was added each left side has a live one as a factor, where those of the lines before have one.
pub factors_push : (state : State) (lines : List Line) (line : Line)
    → ((pair : Pair) → OneOf (rules_of lines) pair → HasLiveFactor state pair.0) → IsLiveRule state (rule_of line)
    → (pair : Pair) → OneOf (rules_of (lines ++ line ∷ [])) pair → HasLiveFactor state pair.0
factors_push state lines line factors live pair one = elim (rules_push_cases lines line pair one) [
  | inl before ↦ factors pair before
  | inr here ↦
      let P : Pair → Type 0 = λ rule. HasLiveFactor state rule.0 in
      subst P here (rule_of line, live, factor_itself line.left)
]

module _ {problem : Problem} {state : State} (inv : Invariant problem state) (origin : Origin) (rest : List Origin)
    (pending : state.pending ≡ origin ∷ rest) (line : Line) (of_origin : line.origin ≡ origin)
    (apart : LeadsApart problem state origin line.left line.right line.first_steps.items line.second_steps.items) where
  may : MayBePending (rules_of state.lines) line.origin
  may =
      let P : List Origin → Type 0 = λ list. Contains list origin in
      subst (MayBePending (rules_of state.lines)) (sym of_origin)
      (inv.waiting origin (subst P (sym pending) (contains_head origin rest)))

  comes : ComesFromPair problem.relations (rules_of state.lines) line
  comes =
      let P : Origin → Type 0 = λ one. IsPairOf problem.relations (rules_of state.lines) one apart.pair in
      record {
        pair = apart.pair;
        is_pair = subst P (sym of_origin) apart.is_pair;
        derived = derives_both_implied (IsLive state) Any (rules_of state.lines) apart.pair
            line.first_steps.items line.second_steps.items
            line.left line.right (λ k live. tt) apart.derived;
        left_is_irreducible = all_irreducible inv line.left apart.u_is_irreducible;
      }

  -- no line has an origin that clashes with the first pending one
  lines_apart : (index : ℕ) (other : Line) → slice_get state.lines index ≡ Some other
      → AreApart other.origin line.origin
  lines_apart index other is_line =
      let made : List Origin = map (λ (each : Line). each.origin) state.lines in
      let P : List Origin → Type 0 = λ list. AllPairs AreApart (made ++ list) in
      let from : AreApart other.origin origin =
      pairs_before AreApart made origin rest (subst P pending inv.apart) other.origin
      (origin_of_line state.lines index other is_line) in
      subst (AreApart other.origin) (sym of_origin) from

  pub pending_may_come : MayCome (below problem) problem.relations state.lines line
  pending_may_come = record {
    follows = follows_pending problem.relations (rules_of state.lines) line.origin line may comes;
    decreases = apart.less;
    new_relation = λ index other k is_line one two. lines_apart index other is_line (k, inl (one, two));
    new_replaced = λ index other k is_line one two. lines_apart index other is_line (k, inr (one, two));
  }
