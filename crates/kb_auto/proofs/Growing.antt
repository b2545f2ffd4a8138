-- A book from round to round.
use Rattle.std.proofs.Common.{◌≡◌, ◌-◌, ◌<◌, List, [], length, inl, ap, subst, arith}
use Rattle.std.specs.List.{Contains}
use Rattle.kb_word.specs.Presentations.{parts_of}
use Rattle.kb_word.specs.declared.presentation.Presentation.{Presentation}
use Rattle.kb_machine.specs.States.{Problem, State, start}
use Rattle.kb_machine.specs.Course.{Course, IsSound}
use Rattle.kb_share.specs.Finding.{Knows}
use Rattle.kb_share.specs.declared.finding.Finder.{Finder}
use Rattle.kb_complete.specs.Completing.{AreReduced, Continues, Grows, GrowSays, KnowsGrown}
use Rattle.kb_complete.specs.declared.answers.Grown.{Grown}
use Rattle.kb_system.specs.Evidence.{Limits}
use Rattle.kb_system.specs.Problems.{problem_of}
use Rattle.kb_auto.specs.Rounds.{IsUnderWay}

-- what is said of an answer, by the answer that it is
pub grown_said : {R : Type 0} (before : Course) (given answer : Grown R) → given ≡ answer → GrowSays before given
    → GrowSays before answer
grown_said {R = R} before given answer same says = subst (λ (a : Grown R). GrowSays before a) same says

pub known_grown : {R : Type 0} (finder : Finder) (given answer : Grown R) → given ≡ answer → KnowsGrown finder given → KnowsGrown finder answer
known_grown {R = R} finder given answer same knows = subst (λ (a : Grown R). KnowsGrown finder a) same knows

-- at the start nothing is live
none_contained : {X : Type 0} (list : List X) (x : X) → list ≡ [] → Contains list x → ⊥
none_contained list x empty contained =
    let within = contained.1 in
    let none = ap length empty in
    omega (arith, within, none)

pub start_is_reduced : (course : Course) → course.state ≡ start course.problem → AreReduced course
start_is_reduced course is =
    let none = ap (λ (s : State). s.live) is in
    record {
      lefts = λ k rule live numbered. absurd (none_contained course.state.live k none live);
      rights = inl (λ rule live. absurd (none_contained course.state.live live.0 none live.1));
    }

-- a new book, and a finder that knows it
pub begins : (limits : Limits) (presentation : Presentation) (course : Course) (finder : Finder)
    → course.problem ≡ problem_of limits (parts_of presentation) → course.state ≡ start course.problem → Knows finder course.state
    → IsUnderWay limits presentation course finder
begins limits presentation course finder problem state known =
    record { problem = problem; reduced = start_is_reduced course state; known = known }

pub still_reduced : (before after : Course) → AreReduced before → Continues before after → AreReduced after
still_reduced before after was continues =
    record { lefts = continues.reduced.lefts was.lefts; rights = continues.reduced.rights was.rights }

-- a book that has grown has room for fewer lines
pub fewer_left : (before after : Course) → Grows before after → IsSound after.problem after.state
    → after.problem.most_lines - length after.state.lines < before.problem.most_lines - length before.state.lines
fewer_left before after grown sound =
    let most = ap (λ (p : Problem). p.most_lines) grown.continues.later.problem in
    let more = grown.more in
    let few = sound.few in
    omega (arith, most, more, few)
