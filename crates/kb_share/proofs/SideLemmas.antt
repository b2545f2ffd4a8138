-- Live lines that have others as factors, and reduced sides.
use Rattle.std.proofs.Common.{◌≡◌, ◌≢◌, ◌⊎◌, ℕ, zero, suc, ◌+◌, ◌<◌, ◌≤◌, List, [], ◌∷◌, ◌++◌, length, Some, refl, sym, ◌∙◌, ap, subst, inl, inr, arith}
use Rattle.std.specs.Prelude.{slice_get}
use Rattle.std.specs.List.{Contains, AllPairs}
use Rattle.std.proofs.lemmas.Bool.{cases_eq}
use Rattle.std.proofs.lemmas.List.{length-map}
use Rattle.std.proofs.lemmas.List.Elements.{Contains-push_cases, All-contains}
use Rattle.kb_word.specs.Words.{Pair, IsFactor}
use Rattle.kb_word.specs.Order.{Accessible, IsReductionOrder}
use Rattle.kb_word.specs.Order.Accessible.{accessible}
use Rattle.kb_word.specs.WordOrderLaws.{word_orders}
use Rattle.kb_word.specs.Rewriting.{IsIrreducible}
use Rattle.kb_machine.specs.Lines.{numbered, rule_of, rules_of}
use Rattle.kb_machine.specs.declared.line.Line.{Line}
use Rattle.kb_machine.specs.States.{Problem, State, below, IsLiveRule}
use Rattle.kb_machine.specs.Machine.{IsLive, Makes, Shortens}
use Rattle.kb_machine.specs.Course.{IsSound}
use Rattle.kb_machine.proofs.Lists.{contains_around, contains_middle, ascending_once}
use Rattle.kb_machine.proofs.Logs.{justified_decreases}
use Rattle.kb_machine.proofs.Numbers.{numbered_one, numbered_same, numbered_within, slice_get_push_cases}
use Rattle.kb_book.proofs.Lists.{rules_of-push}
use Rattle.kb_book.specs.Answers.{IsOtherLiveRule}
use Rattle.kb_share.specs.Interreduced.{LeftSidesAreReduced, RightSidesAreReduced}
use Rattle.kb_share.specs.Simplifying.{HasFactorOf, NoneHas}
use Rattle.kb_share.specs.declared.finding.Side.TheVariants.{Left, Right}

-- an irreducible word has no left side as a factor
pub no_left_side : (allowed : Pair → Type 0) (w : List ℕ) (pair : Pair) → IsIrreducible allowed w → allowed pair → ¬ IsFactor w pair.0
no_left_side allowed w pair irreducible is factor =
    let stands = factor.1 in
    irreducible stands.before pair stands.after is stands.whole

is_factor : (w v before after : List ℕ) → w ≡ before ++ v ++ after → IsFactor w v
is_factor w v before after whole = (length before, record { before = before; after = after; whole = whole; at = refl })

-- ---- a rule's own left side is no factor of its right side

descent : {below : List ℕ → List ℕ → Type 0} → IsReductionOrder below → (before after u : List ℕ) → Accessible below u
    → ¬ below (before ++ u ++ after) u
descent order before after u (accessible lower) less =
    let next = before ++ u ++ after in
    descent order before after next (lower next less) (order.kept before after next u less)

pub own_no_factor : (problem : Problem) (state : State) → IsSound problem state → (k : ℕ) (rule : Pair)
    → numbered (rules_of state.lines) k ≡ Some rule → ¬ IsFactor rule.1 rule.0
own_no_factor problem state sound k rule is_rule factor =
    let order = problem.order in
    let stands = factor.1 in
    let less : below problem rule.1 rule.0 =
    justified_decreases sound.justified rule (numbered_one (rules_of state.lines) k rule is_rule) in
    let P : List ℕ → Type 0 = λ w. below problem w rule.0 in
    descent (word_orders order) stands.before stands.after rule.0 ((word_orders order).well_founded rule.0) (subst P stands.whole less)

-- ---- reduced sides

pub lefts_from_none : (state : State) → NoneHas Left state → LeftSidesAreReduced state
lefts_from_none state none k rule is_live is_rule = λ before pair after other whole.
    none k other.0 (record {
      is_live = is_live;
      one = rule;
      is_one = is_rule;
      other_is_live = other.1;
      other = pair;
      is_other = other.3;
      another = other.2;
      factor = is_factor rule.0 pair.0 before after whole;
    })

pub none_from_lefts : (state : State) → LeftSidesAreReduced state → NoneHas Left state
none_from_lefts state reduced j k has =
    no_left_side (IsOtherLiveRule state j) has.one.0 has.other (reduced j has.one has.is_live has.is_one)
    (k, has.other_is_live, has.another, has.is_other) has.factor

pub rights_from_none : (problem : Problem) (state : State) → IsSound problem state → NoneHas Right state
    → RightSidesAreReduced state
rights_from_none problem state sound none rule live = λ before pair after other whole.
    let factor : IsFactor rule.1 pair.0 = is_factor rule.1 pair.0 before after whole in
    elim (cases_eq other.0 live.0) [
      | inl same ↦
          let mine : numbered (rules_of state.lines) live.0 ≡ Some pair = ap (numbered (rules_of state.lines)) (sym same) ∙ other.2 in
          let one : pair ≡ rule = numbered_same (rules_of state.lines) live.0 pair rule mine live.2 in
          own_no_factor problem state sound live.0 rule live.2 (subst (λ (p : Pair). IsFactor rule.1 p.0) one factor)
      | inr another ↦ none live.0 other.0 (record {
        is_live = live.1;
        one = rule;
        is_one = live.2;
        other_is_live = other.1;
        other = pair;
        is_other = other.2;
        another = another;
        factor = factor;
      })
    ]

-- ---- lines of a list that is longer by one

pub numbered_push_cases : (lines : List Line) (line : Line) (k : ℕ) (rule : Pair) → numbered (rules_of (lines ++ line ∷ [])) k ≡ Some rule
    → (numbered (rules_of lines) k ≡ Some rule) ⊎ ((k ≡ length lines + 1) × (rule_of line ≡ rule))
numbered_push_cases lines line zero rule e = absurd (cc e)
numbered_push_cases lines line (suc index) rule e =
    let pushed : slice_get (rules_of lines ++ rule_of line ∷ []) index ≡ Some rule =
    subst (λ (rules : List Pair). slice_get rules index ≡ Some rule) (rules_of-push lines line) e in
    elim (slice_get_push_cases (rules_of lines) (rule_of line) index rule pushed) [
      | inl before ↦ inl before
      | inr here ↦ let at = here.0 in inr (omega (arith, at, length-map lines rule_of), here.1)
    ]

live_within : (problem : Problem) (state : State) → IsSound problem state → (k : ℕ) → IsLive state k → k ≤ length state.lines
live_within problem state sound k live =
    let P : ℕ → Type 0 = λ n. (0 < n) × (n ≤ length state.lines) in
    let range : P k = All-contains P state.live k sound.numbers live in range.1

-- ---- a line is made

-- a live line is the new one, or was live before
pub data IsFormerOrMade (before : State) (line : Line) (new k : ℕ) (rule : Pair) : Type 0 where
  is_made : k ≡ new → rule_of line ≡ rule → IsFormerOrMade before line new k rule
  is_former : k ≢ new → IsLive before k → numbered (rules_of before.lines) k ≡ Some rule → IsFormerOrMade before line new k rule

by_number : (problem : Problem) (before after : State) (new : ℕ) → (makes : Makes problem before after new) → (k : ℕ) (rule : Pair)
    → Contains before.live k ⊎ (new ≡ k)
    → (numbered (rules_of before.lines) k ≡ Some rule) ⊎ ((k ≡ length before.lines + 1) × (rule_of makes.line ≡ rule))
    → IsFormerOrMade before makes.line new k rule
by_number problem before after new makes k rule live (inr here) =
    let at = here.0 in
    let is = makes.number in
    is_made (omega (arith, at, is)) here.1
by_number problem before after new makes k rule (inl live) (inl old) =
    let within = numbered_within before.lines k rule old in
    let is = makes.number in
    is_former (λ same. omega (arith, same, is, within)) live old
by_number problem before after new makes k rule (inr same) (inl old) =
    let within = numbered_within before.lines k rule old in
    let is = makes.number in
    absurd (omega (arith, same, is, within))

pub former_or_made : (problem : Problem) (before after : State) (new : ℕ) → (makes : Makes problem before after new) → (k : ℕ) (rule : Pair)
    → IsLive after k → numbered (rules_of after.lines) k ≡ Some rule → IsFormerOrMade before makes.line new k rule
former_or_made problem before after new makes k rule live is_rule =
    by_number problem before after new makes k rule
    (Contains-push_cases before.live new k
    (subst (λ (xs : List ℕ). Contains xs k) (ap (λ (t : State). t.live) makes.is) live))
    (numbered_push_cases before.lines makes.line k rule
    (subst (λ (xs : List Line). numbered (rules_of xs) k ≡ Some rule) (ap (λ (t : State). t.lines) makes.is) is_rule))

-- where the sides of former lines are reduced, only the new line's left side is a factor of others
made_only_left : (problem : Problem) (before after : State) (new : ℕ) → (makes : Makes problem before after new)
    → LeftSidesAreReduced before → (j k : ℕ) (one other : Pair) → k ≢ j → IsFactor one.0 other.0
    → IsFormerOrMade before makes.line new j one → IsFormerOrMade before makes.line new k other → k ≡ new
made_only_left problem before after new makes reduced j k one other another factor is (is_made new_k is_other) = new_k
made_only_left problem before after new makes reduced j k one other another factor (is_made new_j is_one) (is_former old_k live_k is_k) =
    absurd (no_left_side (IsLiveRule before) one.0 other
    (subst (λ (rule : Pair). IsIrreducible (IsLiveRule before) rule.0) is_one makes.apart.u_is_irreducible)
    (k, live_k, is_k) factor)
made_only_left problem before after new makes reduced j k one other another factor (is_former old_j live_j is_j) (is_former old_k live_k is_k) =
    absurd (no_left_side (IsOtherLiveRule before j) one.0 other (reduced j one live_j is_j) (k, live_k, another, is_k) factor)

made_only_right : (problem : Problem) (before after : State) (new : ℕ) → (makes : Makes problem before after new)
    → RightSidesAreReduced before → (j k : ℕ) (one other : Pair) → IsFactor one.1 other.0
    → IsFormerOrMade before makes.line new j one → IsFormerOrMade before makes.line new k other → k ≡ new
made_only_right problem before after new makes reduced j k one other factor is (is_made new_k is_other) = new_k
made_only_right problem before after new makes reduced j k one other factor (is_made new_j is_one) (is_former old_k live_k is_k) =
    absurd (no_left_side (IsLiveRule before) one.1 other
    (subst (λ (rule : Pair). IsIrreducible (IsLiveRule before) rule.1) is_one makes.apart.v_is_irreducible)
    (k, live_k, is_k) factor)
made_only_right problem before after new makes reduced j k one other factor (is_former old_j live_j is_j) (is_former old_k live_k is_k) =
    absurd (no_left_side (IsLiveRule before) one.1 other (reduced one (j, live_j, is_j)) (k, live_k, is_k) factor)

pub made_left : (problem : Problem) (before after : State) (new : ℕ) → Makes problem before after new
    → LeftSidesAreReduced before → (j k : ℕ) → HasFactorOf Left after j k → k ≡ new
made_left problem before after new makes reduced j k has =
    made_only_left problem before after new makes reduced j k has.one has.other has.another has.factor
    (former_or_made problem before after new makes j has.one has.is_live has.is_one)
    (former_or_made problem before after new makes k has.other has.other_is_live has.is_other)

pub made_right : (problem : Problem) (before after : State) (new : ℕ) → Makes problem before after new
    → RightSidesAreReduced before → (j k : ℕ) → HasFactorOf Right after j k → k ≡ new
made_right problem before after new makes reduced j k has =
    made_only_right problem before after new makes reduced j k has.one has.other has.factor
    (former_or_made problem before after new makes j has.one has.is_live has.is_one)
    (former_or_made problem before after new makes k has.other has.other_is_live has.is_other)

-- ---- a line is replaced

-- a live line is one that was live before, or has the left side of the replaced one
pub record Former (before : State) (replaced new k : ℕ) (rule : Pair) : Type 0 where
  pub was : ℕ
  pub old : Pair
  pub is_live : IsLive before was
  pub is_old : numbered (rules_of before.lines) was ≡ Some old
  pub left : old.0 ≡ rule.0
  pub which : ((k ≡ new) × (was ≡ replaced)) ⊎ ((k ≡ was) × (replaced ≢ was) × (old ≡ rule) × (k ≢ new))

by_place : (problem : Problem) (before after : State) (x new : ℕ) → (s : Shortens problem before after x new) → IsSound problem before
    → (k : ℕ) (rule : Pair) → Contains (s.earlier ++ s.later) k ⊎ (new ≡ k)
    → (numbered (rules_of before.lines) k ≡ Some rule) ⊎ ((k ≡ length before.lines + 1) × (rule_of s.line ≡ rule))
    → Former before x new k rule
by_place problem before after x new s sound k rule (inl around) (inl old) =
    let live : Contains before.live k =
    subst (λ (xs : List ℕ). Contains xs k) (sym s.is_live) (contains_around s.earlier x s.later k around) in
    let ascending = subst (λ (xs : List ℕ). AllPairs (λ one other. one < other) xs) s.is_live sound.ascending in
    let within = numbered_within before.lines k rule old in
    let is = s.number in
    record {
      was = k;
      old = rule;
      is_live = live;
      is_old = old;
      left = refl;
      which = inr (
        refl,
        (λ same. ascending_once s.earlier x s.later ascending
            (subst (λ (n : ℕ). Contains (s.earlier ++ s.later) n) (sym same) around)),
        refl,
        λ same. omega (arith, same, is, within),
      );
    }
by_place problem before after x new s sound k rule (inl around) (inr here) =
    let live : Contains before.live k =
    subst (λ (xs : List ℕ). Contains xs k) (sym s.is_live) (contains_around s.earlier x s.later k around) in
    let within = live_within problem before sound k live in
    let at = here.0 in
    absurd (omega (arith, at, within))
by_place problem before after x new s sound k rule (inr same) (inl old) =
    let within = numbered_within before.lines k rule old in
    let is = s.number in
    absurd (omega (arith, same, is, within))
by_place problem before after x new s sound k rule (inr same) (inr here) = record {
  was = x;
  old = s.own;
  is_live = subst (λ (xs : List ℕ). Contains xs x) (sym s.is_live) (contains_middle s.earlier x s.later);
  is_old = s.is_own;
  left = sym s.left ∙ ap (λ (r : Pair). r.0) here.1;
  which = inl (sym same, refl);
}

pub former : (problem : Problem) (before after : State) (x new : ℕ) → Shortens problem before after x new → IsSound problem before
    → (k : ℕ) (rule : Pair) → IsLive after k → numbered (rules_of after.lines) k ≡ Some rule → Former before x new k rule
former problem before after x new s sound k rule live is_rule =
    by_place problem before after x new s sound k rule
    (Contains-push_cases (s.earlier ++ s.later) new k
    (subst (λ (xs : List ℕ). Contains xs k) (ap (λ (t : State). t.live) s.is) live))
    (numbered_push_cases before.lines s.line k rule
    (subst (λ (xs : List Line). numbered (rules_of xs) k ≡ Some rule) (ap (λ (t : State). t.lines) s.is) is_rule))
