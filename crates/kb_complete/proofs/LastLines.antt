-- The end of a completion: confluent live rules, or an overlap that is apart.
use Rattle.std.proofs.Common.{◌≡◌, ◌≢◌, map, refl, ℕ, zero, suc, ◌⊎◌, List, [], ◌∷◌, ◌++◌, length, Some, None, sym, ◌∙◌, ap, subst, inl, inr, arith}
use Rattle.std.specs.List.{All, Contains}
use Rattle.std.proofs.lemmas.Option.{get_or_from_slice_get}
use Rattle.kb_word.specs.Words.{Pair, OneOf}
use Rattle.kb_word.specs.Congruence.{Congruent, SameCongruence}
use Rattle.kb_word.specs.Rewriting.{AreDecreasing, NormalForm}
use Rattle.kb_word.specs.Overlap.{IsConfluent, IsUnresolved, critical_pair}
use Rattle.kb_word.specs.WordOrders.{Below}
use Rattle.kb_word.proofs.PathLemmas.{congruent_implied, congruent_covered, SameCongruence-then, SameCongruence-back}
use Rattle.kb_rules.specs.OrderedRules.{OrderedRules}
use Rattle.kb_rules.proofs.Unique.{normal_form_unique}
use Rattle.kb_machine.specs.Lines.{numbered, rules_of, IsPairOf}
use Rattle.kb_machine.specs.declared.origin.Origin.{Origin}
use Rattle.kb_machine.specs.declared.origin.Origin.TheVariants as origins
use Rattle.kb_machine.proofs.Logs.{justified_rules, justified_decreases}
use Rattle.kb_machine.specs.States.{Problem, State, live_rules, IsLiveRule, IsPendingPair}
use Rattle.kb_machine.specs.Course.{Course, IsSound}
use Rattle.kb_book.specs.Answers.{DropsPair}
use Rattle.kb_share.specs.Versions.{IsRuleOfLine, version_of}
use Rattle.kb_share.specs.Passes.{EntersApart, IsApart, origin_of, state_entered}
use Rattle.kb_share.specs.declared.found.Found.{Found}
use Rattle.kb_word.specs.declared.word_order.WordOrder.{WordOrder}
use Rattle.kb_share.proofs.LiveRules.{live_rule_is, live_rule_at, one_of_live, live_rules_decrease}
use Rattle.kb_reduced.specs.Reduced.{IsReducedComplete}
use Rattle.kb_complete.specs.Completing.{IsCompleted}
use Rattle.kb_complete.specs.Working.{FirstIsApart, IsSettled}

some-injective : {X : Type 0} {x y : X} → Some x ≡ Some y → x ≡ y
some-injective e = cc

none_some : {X : Type 0} {x : X} → None ≡ Some x → ⊥
none_some e = cc

-- the rule of a line of the version is that of a live line
line_of : (problem : Problem) (state : State) (k : ℕ) (rule : Pair) → IsSound problem state → IsRuleOfLine (version_of state) k rule
    → numbered (rules_of state.lines) k ≡ Some rule
line_of problem state k rule sound line = live_rule_at problem state line.index k rule sound line.is_rule (sym (get_or_from_slice_get state.live line.index k k line.at))

-- where nothing was pending, the first overlap that is entered comes first, and it is apart
pub first_is_apart : (before after : Course) → IsSound before.problem before.state → before.state.pending ≡ []
    → EntersApart before after → FirstIsApart after
first_is_apart before after sound none enters =
    first_of before after enters.found sound none enters.are_apart enters.state enters.some
  where
    first_of : (before after : Course) (found : List Found) → IsSound before.problem before.state → before.state.pending ≡ []
        → All (IsApart (version_of before.state)) found → after.state ≡ state_entered before.state found → found ≢ []
        → FirstIsApart after
    first_of before after [] sound none all enters some = absurd (some refl)
    first_of before after (one ∷ found) sound none all enters some =
        let apart : IsApart (version_of before.state) one = all 0 one (omega arith) in
        let lines = ap (λ (s : State). s.lines) enters in
        let live = ap live_rules enters in
        record {
          i = one.first;
          j = one.second;
          place = one.place;
          rest = map origin_of found;
          pending = ap (λ (s : State). s.pending) enters ∙ ap (λ (o : List Origin). o ++ map origin_of (one ∷ found)) none;
          first = apart.first;
          second = apart.second;
          is_first = ap (λ l. numbered (rules_of l) one.first) lines
              ∙ line_of before.problem before.state one.first apart.first sound apart.overlap.is_first;
          is_second = ap (λ l. numbered (rules_of l) one.second) lines
              ∙ line_of before.problem before.state one.second apart.second sound apart.overlap.is_second;
          u = apart.u;
          v = apart.v;
          parts = subst (λ (r : List Pair). IsUnresolved r (critical_pair apart.first apart.second one.place) apart.u apart.v)
              (sym live) apart.parts;
        }

head-injective : {x y : Origin} {xs ys : List Origin} → x ∷ xs ≡ y ∷ ys → x ≡ y
head-injective e = cc

-- a pair with different normal forms isn't dropped
pub apart_stays : (before after : Course) → FirstIsApart before → DropsPair before after → ⊥
apart_stays before after apart drops =
    let normal = drops.normal in
    let origin : normal.origin ≡ origins.Overlap apart.i apart.j apart.place = head-injective (sym normal.pending ∙ apart.pending) in
    let pair = subst (λ (o : Origin). IsPairOf before.problem.relations (rules_of before.state.lines) o normal.pair) origin normal.is_pair in
    let first : pair.first ≡ apart.first = some-injective (sym pair.overlap.is_first ∙ apart.is_first) in
    let second : pair.second ≡ apart.second = some-injective (sym pair.overlap.is_second ∙ apart.is_second) in
    let same : normal.pair ≡ critical_pair apart.first apart.second apart.place =
    pair.is ∙ ap (λ (r : Pair). critical_pair r pair.second apart.place) first
    ∙ ap (λ (r : Pair). critical_pair apart.first r apart.place) second in
    let one = subst (λ (p : Pair). NormalForm (live_rules before.state) p.0 drops.joint) same normal.first in
    let other = subst (λ (p : Pair). NormalForm (live_rules before.state) p.1 drops.joint) same normal.second in
    apart.parts.different (normal_form_unique apart.parts.left one ∙ normal_form_unique other apart.parts.right)

-- something is pending
pub apart_pending : (course : Course) → FirstIsApart course → course.state.pending ≡ [] → ⊥
apart_pending course apart none =
    let count = ap length (sym none ∙ apart.pending) in
    let no : ⊥ = omega (arith, count) in no

none_pending : {X : Type 0} (xs : List X) (x : X) → xs ≡ [] → Contains xs x → ⊥
none_pending xs x none at =
    let count = ap length none in
    let within = at.1 in
    let no : ⊥ = omega (arith, count, within) in no

-- where nothing is pending the live rules generate the congruence of the relations
pub live_same : (problem : Problem) (state : State) → IsSound problem state → state.pending ≡ []
    → SameCongruence (live_rules state) problem.relations
live_same problem state sound none = record {
  covered = λ pair one. sound.congruence.rules_hold pair (live_rule_is problem state pair sound one);
  covers = λ pair one. congruent_implied (λ (rule : Pair) (allowed : IsLiveRule state rule ⊎ IsPendingPair problem state rule).
      live_or_pending problem state sound none rule allowed) (sound.congruence.covered pair one);
}
  where
    live_or_pending : (problem : Problem) (state : State) → IsSound problem state → state.pending ≡ [] → (rule : Pair)
        → (IsLiveRule state rule ⊎ IsPendingPair problem state rule) → OneOf (live_rules state) rule
    live_or_pending problem state sound none rule (inl live) = one_of_live problem state sound rule live
    live_or_pending problem state sound none rule (inr pending) = absurd (none_pending state.pending pending.0 none pending.1)

-- a live rule is one of the lines' rules
line_rules : (problem : Problem) (state : State) → IsSound problem state → (rule : Pair) → OneOf (live_rules state) rule
    → OneOf (rules_of state.lines) rule
line_rules problem state sound rule one =
    let live = live_rule_is problem state rule sound one in
    of_number (rules_of state.lines) live.0 rule live.2
  where
    of_number : (rules : List Pair) (k : ℕ) (rule : Pair) → numbered rules k ≡ Some rule → OneOf rules rule
    of_number rules zero rule e = absurd (none_some e)
    of_number rules (suc index) rule e = (index, e)

-- the lines' rules are congruent by the live ones
line_congruent : (problem : Problem) (state : State) → IsSound problem state → state.pending ≡ [] → (rule : Pair)
    → OneOf (rules_of state.lines) rule → Congruent (OneOf (live_rules state)) rule.0 rule.1
line_congruent problem state sound none rule one =
    congruent_covered ((live_same problem state sound none).covers) (justified_rules sound.justified rule one)

-- the reduced complete system is that of all pairs that generate the same congruence
abbrev pub KeepsReduced : Type 0
KeepsReduced = (order : WordOrder) (pairs others rules : List Pair) → SameCongruence pairs others
    → IsReducedComplete (Below order) pairs rules → IsReducedComplete (Below order) others rules

-- confluent rules stay so with more decreasing rules that they cover
abbrev pub KeepsConfluent : Type 0
KeepsConfluent = (order : WordOrder) (live lines : List Pair) → AreDecreasing (Below order) live → IsConfluent live
    → AreDecreasing (Below order) lines → ((line : Pair) → OneOf lines line → Congruent (OneOf live) line.0 line.1)
    → ((rule : Pair) → OneOf live rule → OneOf lines rule) → IsConfluent lines

-- rules that are congruent by some of them generate the same congruence
abbrev pub KeepsCongruent : Type 0
KeepsCongruent = (live lines : List Pair) → ((line : Pair) → OneOf lines line → Congruent (OneOf live) line.0 line.1)
    → ((rule : Pair) → OneOf live rule → OneOf lines rule) → SameCongruence live lines

-- the completion is at its end
pub is_completed : KeepsReduced → KeepsConfluent → KeepsCongruent → (course : Course) (live reduced : OrderedRules)
    → IsSound course.problem course.state → IsSettled course → live.rules ≡ live_rules course.state
    → live.order ≡ course.problem.order → IsConfluent live.rules → reduced.order ≡ live.order
    → IsReducedComplete (Below live.order) live.rules reduced.rules → IsCompleted course reduced
is_completed keeps_reduced keeps_confluent keeps_congruent course live reduced sound settled is order confluent order' complete =
    let rules = live_rules course.state in
    let lines = rules_of course.state.lines in
    let own = course.problem.order in
    let same = live_same course.problem course.state sound settled.settled in
    let confluent' : IsConfluent rules = subst IsConfluent is confluent in
    let here : IsReducedComplete (Below own) rules reduced.rules =
    subst (λ (o : WordOrder). IsReducedComplete (Below o) rules reduced.rules) order
    (subst (λ (r : List Pair). IsReducedComplete (Below live.order) r reduced.rules) is complete) in
    let covering = line_congruent course.problem course.state sound settled.settled in
    let covers = line_rules course.problem course.state sound in
    record {
      order = order' ∙ order;
      reduced = keeps_reduced own rules course.problem.relations reduced.rules same here;
      settled = settled.settled;
      running = settled.running;
      confluent = keeps_confluent own rules lines (live_rules_decrease course.problem course.state sound) confluent'
          (justified_decreases sound.justified) covering covers;
      same = SameCongruence-then (SameCongruence-back same) (keeps_congruent rules lines covering covers);
    }
