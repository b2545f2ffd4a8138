-- Rounds: settling, publishing, passes.
use Rattle.std.proofs.Common.{◌≡◌, ℕ, ◌-◌, ◌<◌, ◌≤◌, ◌⊎◌, inl, inr, ⊎_elim, List, [], ◌∷◌, ◌++◌, length, Ok, refl, ◌≢◌, sym, ◌∙◌, ap, subst, arith, length-append}
use Rattle.std.proofs.lemmas.List.{append-nil}
use Rattle.kb_word.specs.Overlap.{IsConfluent}
use Rattle.std.specs.List.{Contains}
use Rattle.kb_machine.specs.declared.line.Line.{Line}
use Rattle.kb_machine.specs.States.{Problem, State, live_rules, start}
use Rattle.kb_machine.specs.Course.{Course, Takes, IsSound}
use Rattle.kb_machine.specs.declared.halt.Halt.{Halt}
use Rattle.kb_machine.specs.declared.event.Event.TheVariants.{Published, Made}
use Rattle.kb_rules.specs.OrderedRules.{OrderedRules}
use Rattle.kb_complete.specs.Completing.{AreReduced, Continues, Grows, GrowSays, IsCompleted, IsHalted, KnowsGrown}
use Rattle.kb_complete.specs.Working.{IsIdle, IsSettled, StandsAs, AdvanceSays, KnowsRound}
use Rattle.kb_book.specs.Answers.{MakeSays, HaltsAt, IsHalted as IsHaltedAlready}
use Rattle.kb_book.specs.Books.{BookParts}
use Rattle.kb_book.specs.declared.answers.Make.{Make}
use Rattle.kb_book.specs.declared.answers.Make.TheVariants as makes
use Rattle.kb_complete.specs.declared.growing.Round.{Round}
use Rattle.kb_complete.specs.declared.growing.Round.TheVariants as rounds
use Rattle.kb_complete.specs.declared.publishing.Standing.{Standing}
use Rattle.kb_complete.specs.declared.publishing.Standing.TheVariants as standings
use Rattle.kb_complete.specs.declared.answers.Grown.{Grown}
use Rattle.kb_complete.specs.declared.answers.Grown.TheVariants as grown
use Rattle.kb_share.proofs.Stages.{later_itself, later_then, made_settles, made_more, halt_given, make_said}
use Rattle.kb_share.proofs.Staying.{knows_same}
use Rattle.kb_share.specs.Finding.{Knows}
use Rattle.kb_share.specs.declared.finding.Finder.{Finder}
use Rattle.kb_share.specs.Later.{IsLater}
use Rattle.kb_share.specs.Passes.{EntersApart}
use Rattle.kb_share.specs.Interreduced.{LeftSidesAreReduced, RightSidesAreReduced, StaysReduced}
use Rattle.kb_threads.specs.Passes.{PassSays}
use Rattle.kb_threads.specs.declared.passed.Passed.{Passed}
use Rattle.kb_threads.specs.declared.passed.Passed.TheVariants as passed
use Rattle.kb_share.specs.Settling.{SettleSays}
use Rattle.kb_share.specs.declared.settled.Settled.{Settled}
use Rattle.kb_share.specs.declared.settled.Settled.TheVariants as settled

-- the sides of the same lines, of which the same are live
same_lefts : (before after : State) → after.lines ≡ before.lines → after.live ≡ before.live → LeftSidesAreReduced before
    → LeftSidesAreReduced after
same_lefts before after lines live reduced =
    let one = subst (λ (l : List Line). LeftSidesAreReduced (record before { lines = l })) (sym lines) reduced in
    subst (λ (l : List ℕ). LeftSidesAreReduced (record before { lines = after.lines; live = l })) (sym live) one

same_rights : (before after : State) → after.lines ≡ before.lines → after.live ≡ before.live → RightSidesAreReduced before
    → RightSidesAreReduced after
same_rights before after lines live reduced =
    let one = subst (λ (l : List Line). RightSidesAreReduced (record before { lines = l })) (sym lines) reduced in
    subst (λ (l : List ℕ). RightSidesAreReduced (record before { lines = after.lines; live = l })) (sym live) one

same_sides : (before after : Course) → after.problem ≡ before.problem → after.state.lines ≡ before.state.lines
    → after.state.live ≡ before.state.live → StaysReduced before after
same_sides before after problem lines live = record {
  lefts = same_lefts before.state after.state lines live;
  rights = λ was. ⊎_elim
      (λ (reduced : RightSidesAreReduced before.state). inl (same_rights before.state after.state lines live reduced))
      (λ (full : before.problem.most_lines ≤ length before.state.lines).
      let most = ap (λ (p : Problem). p.most_lines) problem in
      let many = ap length lines in
      inr (omega (arith, full, most, many)))
      was;
}

-- what continues
pub continues_itself : (course : Course) → Continues course course
continues_itself course = record { later = later_itself course; reduced = record { lefts = λ was. was; rights = λ was. was } }

pub stays_then : (start before after : Course) → StaysReduced start before → StaysReduced before after → StaysReduced start after
stays_then start before after first second = record {
  lefts = λ was. second.lefts (first.lefts was);
  rights = λ was. second.rights (first.rights was);
}

pub continues_then : (start before after : Course) → Continues start before → Continues before after → Continues start after
continues_then start before after first second = record {
  later = later_then start before after first.later second.later;
  reduced = stays_then start before after first.reduced second.reduced;
}

-- the same lines, of which the same are live
pub continues_same : (before after : Course) → after.problem ≡ before.problem → after.state.lines ≡ before.state.lines
    → after.state.live ≡ before.state.live → Continues before after
continues_same before after problem lines live = record {
  later = record { problem = problem; made = []; lines = lines ∙ sym (append-nil before.state.lines) };
  reduced = same_sides before after problem lines live;
}

-- publishing
pub published_continues : (before after : Course) → Takes Published before after → Continues before after
published_continues before after takes =
    continues_same before after takes.problem (ap (λ (t : State). t.lines) takes.step) (ap (λ (t : State). t.live) takes.step)

-- overlaps were entered
pub enters_continues : (before after : Course) → EntersApart before after → Continues before after
enters_continues before after enters =
    continues_same before after enters.problem (ap (λ (t : State). t.lines) enters.state) (ap (λ (t : State). t.live) enters.state)

-- halting
pub halts_continues : (before after : Course) (halt : Halt) → HaltsAt before after halt ⊎ IsHaltedAlready before after halt → Continues before after
halts_continues before after halt (inl halts) =
    let takes = halts.takes in
    continues_same before after takes.problem (ap (λ (t : State). t.lines) takes.step.is) (ap (λ (t : State). t.live) takes.step.is)
halts_continues before after halt (inr already) = subst (Continues before) (sym already.same) (continues_itself before)

pub published_settled : (before after : Course) → Takes Published before after → IsIdle before → IsSettled after
published_settled before after takes idle = record {
  settled = ap (λ (t : State). t.pending) takes.step ∙ idle.settled;
  running = ap (λ (t : State). t.halt) takes.step ∙ idle.running;
  published = record {
    earlier = before.state.versions;
    is = ap (λ (t : State). t.versions) takes.step
        ∙ ap (λ (k : List ℕ). before.state.versions ++ k ∷ []) (sym (ap (λ (t : State). t.live) takes.step));
  };
}

-- a book that is settled without a halt, or with one
pub settled_idles : (before after : Course) (end : Settled) → ((halt : Halt) → end ≢ settled.Halted halt) → SettleSays before after end
    → IsIdle after
settled_idles before after settled.Nothing differs says =
    record { settled = ap (λ (c : Course). c.state.pending) says.1 ∙ says.0; running = says.2 }
settled_idles before after settled.Done differs says = record { settled = says.1; running = says.2 }
settled_idles before after (settled.Halted halt) differs says = absurd (differs halt refl)

pub settled_halts : (before after : Course) (end : Settled) (halt : Halt) → end ≡ settled.Halted halt → SettleSays before after end
    → IsHalted after
settled_halts before after end halt same says =
    let own = subst (SettleSays before after) same says in
    record { reason = own.1.own; is = own.1.is }

-- a book that was published
pub stands_published : (course : Course) (standing : Standing) → standing ≢ standings.Halted → StandsAs course standing → IsSettled course
stands_published course standings.Published differs stands = stands
stands_published course standings.Halted differs stands = absurd (differs refl)

-- a making that halts the book
pub make_halts : (before after : Course) (made : Make) (halt : Halt) → made ≡ makes.Halted halt → MakeSays before after (Ok made)
    → IsHalted after
make_halts before after made halt same says =
    let given = halt_given before after halt (make_said before after made (makes.Halted halt) same says) in
    record { reason = given.own; is = given.is }

-- later there are no fewer lines
pub later_lines : (before after : Course) → Continues before after → length before.state.lines ≤ length after.state.lines
later_lines before after later =
    let count = ap length later.later.lines in
    let total = length-append before.state.lines later.later.made in
    omega (arith, count, total)

-- a settled book with more lines
pub grows : (start after : Course) → Continues start after → IsSettled after → length start.state.lines < length after.state.lines → Grows start after
grows start after later settled more =
    record { continues = later; more = more; settled = settled.settled; running = settled.running; published = settled.published }

-- what is said of a later stage is said of an earlier one
pub grow_later : {R : Type 0} (start before : Course) (answer : Grown R) → Continues start before → GrowSays before answer → GrowSays start answer
grow_later start before (grown.More after) later says =
    let few = later_lines start before later in
    let more = says.more in
    record {
      continues = continues_then start before after.course later says.continues;
      more = omega (arith, few, more);
      settled = says.settled;
      running = says.running;
      published = says.published;
    }
grow_later start before (grown.Confluent rules after) later says = (continues_then start before after.course later says.0, says.1)
grow_later start before (grown.Halted after) later says = (continues_then start before after.course later says.0, says.1)

-- what is said of an answer, by the answer that it is
pub grown_said : {R : Type 0} (before : Course) (given answer : Grown R) → given ≡ answer → GrowSays before given
    → GrowSays before answer
grown_said {R = R} before given answer same says = subst (λ (a : Grown R). GrowSays before a) same says

-- a stage after a line is made
pub later_by_line : (k : ℕ) (start made after : Course) → Takes (Made k) start made → IsLater made after → StaysReduced start after
    → Continues start after
later_by_line k start made after takes later reduced =
    record { later = later_then start made after (made_settles k start made takes).later later; reduced = reduced }

-- after a line is made and the book is settled, it has grown
pub grows_by_line : (k : ℕ) (start made after : Course) → Takes (Made k) start made → IsLater made after → StaysReduced start after
    → IsSettled after → Grows start after
grows_by_line k start made after takes later reduced settled =
    grows start after (later_by_line k start made after takes later reduced) settled (made_more k start made after takes later)

-- a book that has grown has room for fewer lines
pub fewer_left : (before after : Course) → Grows before after → IsSound after.problem after.state
    → after.problem.most_lines - length after.state.lines < before.problem.most_lines - length before.state.lines
fewer_left before after grown sound =
    let most = ap (λ (p : Problem). p.most_lines) grown.continues.later.problem in
    let more = grown.more in
    let few = sound.few in
    omega (arith, most, more, few)

-- a round is over, at a book with more lines than it began with, or at a halt
pub over_says : {R : Type 0} (start before : Course) (given : ℕ) (answer : Grown R) → Continues start before
    → length start.state.lines ≡ given → AdvanceSays given before (rounds.Over answer) → GrowSays start answer
over_says start before given (grown.More after) later count says =
    let more = says.2 in
    grows start after.course (continues_then start before after.course later says.0) says.1 (omega (arith, count, more))
over_says start before given (grown.Confluent rules after) later count says = absurd says
over_says start before given (grown.Halted after) later count says = (continues_then start before after.course later says.0, says.1)

-- and so by the round that it is
pub round_over : {R : Type 0} (start before : Course) (given : ℕ) (round : Round R) (answer : Grown R) → Continues start before
    → length start.state.lines ≡ given → round ≡ rounds.Over answer → AdvanceSays given before round → GrowSays start answer
round_over {R = R} start before given round answer later count same says =
    over_says start before given answer later count (subst (λ (r : Round R). AdvanceSays given before r) same says)

-- a round that is still open
pub round_open : {R : Type 0} (start before : Course) (given : ℕ) (round : Round R) (after : BookParts) → Continues start before
    → round ≡ rounds.Open after → AdvanceSays given before round → Continues start after.course × IsSettled after.course
round_open {R = R} start before given round after later same says =
    let own : Continues before after.course × IsSettled after.course = subst (λ (r : Round R). AdvanceSays given before r) same says in
    (continues_then start before after.course later own.0, own.1)

-- at the start nothing is live
none_contained : {X : Type 0} (list : List X) (x : X) → list ≡ [] → Contains list x → ⊥
none_contained list x empty contained =
    let within = contained.1 in
    let none = ap length empty in
    omega (arith, within, none)

pub start_is_reduced : (course : Course) → course.state ≡ start course.problem → AreReduced course
start_is_reduced course is =
    let none = ap (λ (s : State). s.live) is in
    record {
      lefts = λ k rule live numbered. absurd (none_contained course.state.live k none live);
      rights = inl (λ rule live. absurd (none_contained course.state.live live.0 none live.1));
    }

pub still_reduced : (before after : Course) → AreReduced before → Continues before after → AreReduced after
still_reduced before after was continues =
    record { lefts = continues.reduced.lefts was.lefts; rights = continues.reduced.rights was.rights }

-- the end of a completion that began with this problem
pub end_is_completed : (problem : Problem) (before after : Course) (rules : OrderedRules) → before.problem ≡ problem → Continues before after
    → IsCompleted after rules → (after.problem ≡ problem) × IsCompleted after rules
end_is_completed problem before after rules same later completed = (later.later.problem ∙ same, completed)

pub end_is_halt : (problem : Problem) (before after : Course) → before.problem ≡ problem → Continues before after
    → AreReduced before → IsHalted after → (after.problem ≡ problem) × IsHalted after × AreReduced after
end_is_halt problem before after same later reduced halted =
    (later.later.problem ∙ same, halted, still_reduced before after reduced later)

-- what a pass came to, by the answer that it is
pub pass_confluent : {R : Type 0} (before : Course) (answer : Passed R) (after : BookParts) → answer ≡ passed.Confluent after
    → PassSays before answer → (after.course ≡ before) × IsConfluent (live_rules before.state)
pass_confluent {R = R} before answer after same says = subst (λ (a : Passed R). PassSays before a) same says

pub pass_entered : {R : Type 0} (before : Course) (answer : Passed R) (after : BookParts) → answer ≡ passed.Entered after
    → PassSays before answer → EntersApart before after.course
pass_entered {R = R} before answer after same says = subst (λ (a : Passed R). PassSays before a) same says

-- the same completion is settled too, and its live rules are confluent
pub settled_same : (before after : Course) → after ≡ before → IsSettled before → IsSettled after
settled_same before after same settled = subst IsSettled (sym same) settled

pub confluent_same : (before after : Course) → after ≡ before → IsConfluent (live_rules before.state) → IsConfluent (live_rules after.state)
confluent_same before after same confluent = subst (λ (c : Course). IsConfluent (live_rules c.state)) (sym same) confluent

pub grow_same : {R : Type 0} (before after : Course) (answer : Grown R) → after ≡ before → GrowSays after answer → GrowSays before answer
grow_same {R = R} before after answer same says = subst (λ (c : Course). GrowSays c answer) same says

-- ---- what a finder knows

-- publishing leaves the lines as they are, and so does a pass
pub known_published : (finder : Finder) (before after : Course) → Takes Published before after → Knows finder before.state
    → Knows finder after.state
known_published finder before after takes =
    knows_same finder before.state after.state (ap (λ (t : State). t.lines) takes.step) (ap (λ (t : State). t.live) takes.step)

pub known_entered : (finder : Finder) (before after : Course) → EntersApart before after → Knows finder before.state
    → Knows finder after.state
known_entered finder before after enters =
    knows_same finder before.state after.state (ap (λ (t : State). t.lines) enters.state) (ap (λ (t : State). t.live) enters.state)

-- so does what waits
pub known_waiting : (finder : Finder) (waiting : ℕ) (state : State) → Knows finder state → Knows (record finder { waiting = waiting }) state
known_waiting finder waiting state knows = record { met = knows.met; agrees = knows.agrees; all = knows.all }

pub known_itself : (finder : Finder) (before after : Course) → after ≡ before → Knows finder before.state → Knows finder after.state
known_itself finder before after same = subst (λ (c : Course). Knows finder c.state) (sym same)

-- by the answer, or the round, that it is
pub known_grown : {R : Type 0} (finder : Finder) (given answer : Grown R) → given ≡ answer → KnowsGrown finder given → KnowsGrown finder answer
known_grown {R = R} finder given answer same knows = subst (λ (a : Grown R). KnowsGrown finder a) same knows

pub known_over : {R : Type 0} (finder : Finder) (round : Round R) (answer : Grown R) → round ≡ rounds.Over answer
    → KnowsRound finder round → KnowsGrown finder answer
known_over {R = R} finder round answer same knows = subst (λ (r : Round R). KnowsRound finder r) same knows
