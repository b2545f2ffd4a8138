-- What is kept along every course, and a book after one more event.
use Rattle.std.proofs.Common.{◌≡◌, ℕ, ◌<◌, ◌≤◌, ◌+◌, ◌^◌, List, [], ◌∷◌, ◌++◌, length, All, refl, sym, ap, ◌∙◌, subst, arith, length-append, inl, inr}
use Rattle.std.specs.List.{AllPairs, remove, Contains}
use Rattle.std.proofs.lemmas.Option.{none-some}
use Rattle.std.proofs.lemmas.List.Elements.{All-append, Contains-append_cases, Contains-append_right}
use Rattle.std.proofs.lemmas.List.Quantifiers.{all_pairs_remove, all_pairs_push}
use Rattle.kb_word.specs.Words.{Pair, OneOf}
use Rattle.kb_word.specs.WordOrders.{Below}
use Rattle.kb_word.specs.WordOrderLaws.{word_orders}
use Rattle.kb_word.specs.declared.word_order.WordOrder.{WordOrder}
use Rattle.kb_word.specs.Congruence.{Replaces}
use Rattle.kb_word.specs.Rewriting.{AreDecreasing}
use Rattle.kb_rules.specs.Steps.{Leads}
use Rattle.kb_rules.proofs.Reducts.{replaced_below, IsAtMost}
use Rattle.kb_rules.proofs.Listed.{AreDecreasing-push}
use Rattle.kb_machine.specs.declared.line.Line.{Line}
use Rattle.kb_machine.specs.declared.line.LogStep.{LogStep}
use Rattle.kb_machine.specs.Lines.{rule_of, rules_of, OverlapOfNumbers}
use Rattle.kb_machine.specs.Derivations.{IsStepBy, Derives}
use Rattle.kb_machine.specs.States.{Problem, State, below, start, live_rules, relation_origins}
use Rattle.kb_machine.specs.Machine.{Step, Run, Shortens}
use Rattle.kb_machine.specs.Course.{Course, IsCourse, Takes}
use Rattle.kb_machine.specs.declared.event.Event.{Event}
use Rattle.kb_machine.specs.declared.event.Event.TheVariants.{Entered, Balanced, Dropped, Made, Halted, Killed, Shortened, Published}
use Rattle.kb_book.specs.Books.{IsBook}
use Rattle.kb_book.specs.Lives.{VersionsParts}
use Rattle.kb_book.specs.Normal.{HasPair}
use Rattle.kb_word.specs.Overlap.{critical_pair}
use Rattle.kb_machine.specs.declared.origin.Origin.{Origin}
use Rattle.kb_machine.specs.declared.origin.Origin.TheVariants as origins
use Rattle.kb_book.proofs.Origins.{pair_more, relation_has_pair}
use Rattle.kb_book.proofs.Lists.{remove_seam, only, All-one, All-remove, rules_of-push, numbered_one}

-- steps lead one further
pub leads_more : {X Event : Type 0} (allowed : X → Event → X → Type 0) (x : X) (events : List Event) (y z : X) (event : Event)
    → Leads allowed x events y → allowed y event z → Leads allowed x (events ++ event ∷ []) z
leads_more allowed x [] y z event same last =
    let P = λ (w : _). allowed w event z in (z, subst P (sym same) last, refl)
leads_more allowed x (first ∷ rest) y z event leads last =
    (leads.0, leads.1, leads_more allowed leads.0 rest y z event leads.2 last)

-- a derivation leads to no greater word, by rules that decrease
pub derived_at_most : (order : WordOrder) (allowed : ℕ → Type 0) (rules : List Pair) → AreDecreasing (Below order) rules
    → (u : List ℕ) (steps : List LogStep) (v : List ℕ) → Derives allowed rules u steps v → IsAtMost (Below order) v u
derived_at_most order allowed rules falling u [] v same = inl (sym same)
derived_at_most order allowed rules falling u (step ∷ rest) v leads =
    let first : IsStepBy allowed rules u step leads.0 = leads.1 in
    let replaced : Replaces (OneOf rules) u leads.0 = record {
      before = first.before;
      pair = first.rule;
      after = first.after;
      is_allowed = numbered_one rules step.line first.rule first.is_rule;
      from = first.from;
      to = first.to;
    } in
    let lower : Below order leads.0 u = replaced_below (word_orders order) falling replaced in
    elim (derived_at_most order allowed rules falling leads.0 rest v leads.2) [
      | inl same ↦ let P : List ℕ → Type 0 = λ w. Below order w u in inr (subst P (sym same) lower)
      | inr below ↦ inr ((word_orders order).transitive v leads.0 u below lower)
    ]

-- the left side has no more letters than it may have
abbrev pub is_short : Problem → List ℕ → List ℕ → Type 0
is_short problem right left = length left ≤ problem.most_letters

-- What each event keeps: the rules decrease, their left sides are short, and the live numbers ascend and are those of
-- lines, and pending origins name pairs.
pub record Kept (problem : Problem) (lines : List Line) (live : List ℕ) (pending : List Origin) : Type 0 where
  pub falling : AreDecreasing (below problem) (rules_of lines)
  pub short : AreDecreasing (is_short problem) (rules_of lines)
  pub ascending : AllPairs (λ one other. one < other) live
  pub numbers : All (λ k. (0 < k) × (k ≤ length lines)) live
  pub few : length lines ≤ problem.most_lines
  pub pairs : (origin : Origin) → Contains pending origin → HasPair problem.relations (rules_of lines) origin

-- a line more
with_line : {problem : Problem} {lines : List Line} {live : List ℕ} {pending : List Origin} (line : Line) → Kept problem lines live pending
    → length lines < problem.most_lines → below problem line.right line.left → length line.left ≤ problem.most_letters
    → Kept problem (lines ++ line ∷ []) (live ++ (length lines + 1) ∷ []) pending
with_line {problem = problem} {lines = lines} {live = live} {pending = pending} line kept room less few_letters =
    let one : length (lines ++ line ∷ []) ≡ length lines + 1 = length-append lines (line ∷ []) in
    let P : List Pair → Type 0 = λ rules. AreDecreasing (below problem) rules in
    let S : List Pair → Type 0 = λ rules. AreDecreasing (is_short problem) rules in
    record {
      falling = subst P (sym (rules_of-push lines line))
          (AreDecreasing-push (below problem) (rules_of lines) (rule_of line) kept.falling less);
      short = subst S (sym (rules_of-push lines line))
          (AreDecreasing-push (is_short problem) (rules_of lines) (rule_of line) kept.short few_letters);
      ascending = all_pairs_push (λ (one other : ℕ). one < other) live (length lines + 1) kept.ascending
          (λ k d within. let number = kept.numbers k d within in omega arith);
      numbers = All-append (λ k. (0 < k) × (k ≤ length (lines ++ line ∷ []))) live ((length lines + 1) ∷ [])
          (λ k d within. let number = kept.numbers k d within in (number.0, omega arith))
          (All-one (λ k. (0 < k) × (k ≤ length (lines ++ line ∷ []))) (length lines + 1) (omega arith, omega arith));
      few = omega arith;
      pairs = λ origin contained.
          let named = kept.pairs origin contained in
          let Q : List Pair → Type 0 = λ rules. HasPair problem.relations rules origin in
          subst Q (sym (rules_of-push lines line))
          (named.0, pair_more problem.relations (rules_of lines) (rule_of line ∷ []) origin named.0 named.1);
    }

-- a number less
without : {problem : Problem} {lines : List Line} {live : List ℕ} {pending : List Origin} → Kept problem lines live pending
    → (earlier : List ℕ) (k : ℕ) (later : List ℕ) → live ≡ earlier ++ k ∷ later → Kept problem lines (earlier ++ later) pending
without {problem = problem} {lines = lines} {pending = pending} kept earlier k later is =
    let P : List ℕ → Type 0 = λ l. Kept problem lines l pending in
    let own : Kept problem lines (earlier ++ k ∷ later) pending = subst P is kept in
    let within : length earlier < length (earlier ++ k ∷ later) = omega (arith, length-append earlier (k ∷ later)) in
    let less : Kept problem lines (remove (earlier ++ k ∷ later) (length earlier)) pending = record {
      falling = own.falling;
      short = own.short;
      ascending = all_pairs_remove (λ (one other : ℕ). one < other) (earlier ++ k ∷ later) (length earlier) within own.ascending;
      numbers = All-remove (λ j. (0 < j) × (j ≤ length lines)) (earlier ++ k ∷ later) (length earlier) own.numbers;
      few = own.few;
      pairs = own.pairs;
    } in
    subst P (remove_seam earlier k later) less

shortened_less : {problem : Problem} {before after : State} {k new : ℕ} → Kept problem before.lines before.live before.pending
    → (s : Shortens problem before after k new) → below problem s.line.right s.line.left
shortened_less {problem = problem} {before = before} kept s =
    let order = problem.order in
    let own : Below order s.own.1 s.own.0 = kept.falling s.own (numbered_one (rules_of before.lines) _ s.own s.is_own) in
    let P : List ℕ → Type 0 = λ w. Below order s.line.right w in
    let Q : List ℕ → Type 0 = λ w. Below order w s.own.0 in
    subst P (sym s.left) (elim (derived_at_most order _ (rules_of before.lines) kept.falling s.own.1 s.line.first_steps.items s.line.right s.right) [
      | inl same ↦ subst Q (sym same) own
      | inr lower ↦ (word_orders order).transitive s.line.right s.own.1 s.own.0 lower own
    ])

-- a line that is shortened keeps its left side
shortened_short : {problem : Problem} {before after : State} {k new : ℕ} → Kept problem before.lines before.live before.pending
    → (s : Shortens problem before after k new) → length s.line.left ≤ problem.most_letters
shortened_short {problem = problem} {before = before} kept s =
    let own : is_short problem s.own.1 s.own.0 = kept.short s.own (numbered_one (rules_of before.lines) _ s.own s.is_own) in
    let P : List ℕ → Type 0 = λ w. length w ≤ problem.most_letters in subst P (sym s.left) own

with_shortened : {problem : Problem} {before after : State} {k new : ℕ} → Kept problem before.lines before.live before.pending
    → Shortens problem before after k new → Kept problem after.lines after.live after.pending
with_shortened {problem = problem} {before = before} {k = k} kept s =
    let P : State → Type 0 = λ s. Kept problem s.lines s.live s.pending in
    let live = s.earlier ++ s.later in
    let Q : ℕ → Type 0 = λ number. Kept problem (before.lines ++ s.line ∷ []) (live ++ number ∷ []) before.pending in
    let less : below problem s.line.right s.line.left = shortened_less kept s in
    let without_own : Kept problem before.lines live before.pending = without kept s.earlier k s.later s.is_live in
    subst P (sym s.is) (subst Q (sym s.number) (with_line s.line without_own s.room less (shortened_short kept s)))

-- an origin more
with_origin : {problem : Problem} {lines : List Line} {live : List ℕ} {pending : List Origin} (origin : Origin)
    → Kept problem lines live pending → HasPair problem.relations (rules_of lines) origin
    → Kept problem lines live (pending ++ origin ∷ [])
with_origin {problem = problem} {lines = lines} {pending = pending} origin kept named = record {
  falling = kept.falling;
  short = kept.short;
  ascending = kept.ascending;
  numbers = kept.numbers;
  few = kept.few;
  pairs = λ other contained. elim (Contains-append_cases pending (origin ∷ []) other contained) [
    | inl earlier ↦ kept.pairs other earlier
    | inr last ↦ let P : Origin → Type 0 = HasPair problem.relations (rules_of lines) in subst P (only origin other last) named
  ];
}

-- an origin more in front
with_first : {problem : Problem} {lines : List Line} {live : List ℕ} {pending : List Origin} (origin : Origin)
    → Kept problem lines live pending → HasPair problem.relations (rules_of lines) origin
    → Kept problem lines live (origin ∷ pending)
with_first {problem = problem} {lines = lines} {pending = pending} origin kept named = record {
  falling = kept.falling;
  short = kept.short;
  ascending = kept.ascending;
  numbers = kept.numbers;
  few = kept.few;
  pairs = λ other contained. elim (Contains-append_cases (origin ∷ []) pending other contained) [
    | inl first ↦ let P : Origin → Type 0 = HasPair problem.relations (rules_of lines) in subst P (only origin other first) named
    | inr later ↦ kept.pairs other later
  ];
}

-- without the first origin
without_first : {problem : Problem} {lines : List Line} {live : List ℕ} {pending : List Origin} (origin : Origin) (rest : List Origin)
    → Kept problem lines live pending → pending ≡ origin ∷ rest → Kept problem lines live rest
without_first {problem = problem} {lines = lines} {pending = pending} origin rest kept is = record {
  falling = kept.falling;
  short = kept.short;
  ascending = kept.ascending;
  numbers = kept.numbers;
  few = kept.few;
  pairs = λ other contained.
      let P : List Origin → Type 0 = λ l. Contains l other in
      kept.pairs other (subst P (sym is) (Contains-append_right (origin ∷ []) rest other contained));
}

pub step_keeps : (problem : Problem) (before : State) (event : Event) (after : State) → Step problem before event after
    → Kept problem before.lines before.live before.pending → Kept problem after.lines after.live after.pending
step_keeps problem before (Entered worker place i j) after step kept =
    let P : State → Type 0 = λ s. Kept problem s.lines s.live s.pending in
    let pair = critical_pair step.first step.second place in
    let named : HasPair problem.relations (rules_of before.lines) (origins.Overlap i j place) =
    (pair, record { first = step.first; second = step.second; overlap = step.overlap; is = refl }) in
    subst P (sym step.is) (with_origin (origins.Overlap i j place) kept named)
step_keeps problem before (Balanced place i j) after step kept =
    let P : State → Type 0 = λ s. Kept problem s.lines s.live s.pending in
    let pair = critical_pair step.first step.second place in
    let named : HasPair problem.relations (rules_of before.lines) (origins.Overlap i j place) =
    (pair, record { first = step.first; second = step.second; overlap = step.overlap; is = refl }) in
    subst P (sym step.is) (with_first (origins.Overlap i j place) kept named)
step_keeps problem before Dropped after step kept =
    let P : State → Type 0 = λ s. Kept problem s.lines s.live s.pending in
    subst P (sym step.is) (without_first step.origin step.rest kept step.pending.is)
step_keeps problem before (Made k) after step kept =
    let P : State → Type 0 = λ s. Kept problem s.lines s.live s.pending in
    let Q : ℕ → Type 0 = λ number. Kept problem (before.lines ++ step.line ∷ []) (before.live ++ number ∷ []) step.rest in
    let popped : Kept problem before.lines before.live step.rest = without_first step.origin step.rest kept step.pending.is in
    subst P (sym step.is) (subst Q (sym step.number) (with_line step.line popped step.room step.apart.less step.short))
step_keeps problem before Halted after step kept =
    let P : State → Type 0 = λ s. Kept problem s.lines s.live s.pending in subst P (sym step.is) kept
step_keeps problem before (Killed k) after step kept =
    let P : State → Type 0 = λ s. Kept problem s.lines s.live s.pending in
    let named : HasPair problem.relations (rules_of before.lines) (origins.Killed k) = (step.own, step.is_own) in
    subst P (sym step.is) (with_origin (origins.Killed k) (without kept step.earlier k step.later step.is_live) named)
step_keeps problem before (Shortened k new) after step kept = with_shortened kept step
step_keeps problem before Published after step kept =
    let P : State → Type 0 = λ s. Kept problem s.lines s.live s.pending in subst P (sym step) kept

kept_along : (problem : Problem) (before : State) (events : List Event) (after : State) → Leads (Step problem) before events after
    → Kept problem before.lines before.live before.pending → Kept problem after.lines after.live after.pending
kept_along problem before [] after same kept =
    let P : State → Type 0 = λ s. Kept problem s.lines s.live s.pending in subst P same kept
kept_along problem before (event ∷ rest) after leads kept =
    kept_along problem leads.0 rest after leads.2 (step_keeps problem before event leads.0 leads.1 kept)

pub kept_at_start : (problem : Problem) → Kept problem [] [] (relation_origins 1 problem.relations)
kept_at_start problem = record {
  falling = λ rule one. absurd (none-some rule one.1);
  short = λ rule one. absurd (none-some rule one.1);
  ascending = λ i j d before within. absurd (omega arith);
  numbers = λ k d within. absurd (omega arith);
  few = omega arith;
  pairs = relation_has_pair problem.relations [];
}

-- along every course
pub course_keeps : (course : Course) → IsCourse course → Kept course.problem course.state.lines course.state.live course.state.pending
course_keeps course is =
    kept_along course.problem (start course.problem) course.journal course.state is (kept_at_start course.problem)

-- lines overlap at places that 16 bits hold
pub place_is_short : (course : Course) → IsCourse course → course.problem.most_letters ≤ 65535 → (i j place : ℕ)
    (first second : Pair) → OverlapOfNumbers (rules_of course.state.lines) i j place first second → place < 2 ^ 16
place_is_short course is most i j place first second overlap =
    let one = numbered_one (rules_of course.state.lines) i first overlap.is_first in
    let short : length first.0 ≤ course.problem.most_letters = (course_keeps course is).short first one in
    let within : place < length first.0 = overlap.overlaps.within in omega arith

-- a book after one more event, whose reducer has the rules that are live then
pub book_after : {event : Event} {before after : Course} {rules rules' : List Pair} {order order' : WordOrder}
    {versions versions' : VersionsParts} → IsBook before rules order versions → Takes event before after
    → rules' ≡ live_rules after.state → order' ≡ order → versions'.live ≡ after.state.live
    → versions'.lines ≡ length after.state.lines → IsBook after rules' order' versions'
book_after {event = event} {before = before} {after = after} book takes reduces same live lines =
    let more : Run before.problem (before.journal ++ event ∷ []) after.state =
    leads_more (Step before.problem) (start before.problem) before.journal before.state after.state event book.is_course takes.step in
    let P : List Event → Type 0 = λ events. Run before.problem events after.state in
    let Q : Problem → Type 0 = λ problem. Run problem after.journal after.state in
    let problem : before.problem ≡ after.problem = sym takes.problem in
    let L : Problem → Type 0 = λ problem. problem.most_lines ≤ 1000000 in
    let M : Problem → Type 0 = λ problem. problem.most_letters ≤ 65535 in
    record {
      is_course = subst Q problem (subst P (sym takes.journal) more);
      reduces = reduces;
      decreases = same ∙ book.decreases ∙ ap (λ (problem : Problem). problem.order) problem;
      has_live = live;
      has_lines = lines;
      most_lines = subst L problem book.most_lines;
      most_letters = subst M problem book.most_letters;
    }
