use Rattle.std.proofs.Common.{◌≡◌, ℕ, List, length, subst, arith}
use Rattle.kb_explore.specs.Exploration.{IsTraced}
use Rattle.kb_explore.specs.FirstAccepted.{IsLeastAccepted}
use Rattle.kb_explore.proofs.Searches.{Searched-started, empty_accepted, few_at_start, few_found, none_accepted, few_in_all}
use Rattle.kb_explore.proofs.Traces.{traced_once}
use Rattle.kb_explore.proofs.acceptance.first_accepted.Goals as goal

pub returns-then-accepts_at-clause-found : goal.returns-then-accepts_at-clause-found
returns-then-accepts_at-clause-found g c =
    let first = c.accepts_at.ensures.yes c.if-accepts_at.true in
    rw c.new.ensures.items (empty_accepted c.in_ok-seen.ensures.progress (first.0, (first.1, first.2)))

pub returns-then-accepts_at-clause-few : goal.returns-then-accepts_at-clause-few
returns-then-accepts_at-clause-few g c _ =
    let first = c.accepts_at.ensures.yes c.if-accepts_at.true in
    few_at_start c.in_ok-seen.ensures.progress (first.0, (first.1, first.2)) c.args.limit c.in_ok-seen.ensures.room

pub loop-done-init : goal.loop-done-init
loop-done-init g c =
    (c.in_ok-seen.ensures.room, Searched-started c.in_ok-seen.ensures.progress (c.accepts_at.ensures.no c.if-accepts_at.false))

pub returns-then-branch-clause-found : goal.returns-then-branch-clause-found
returns-then-branch-clause-found g c =
    let found = c.in_ok-next_accepts.ensures.found c.if-branch.true in
    let seen = c.next_accepts.new.seen in
    let last : c.len-then-branch.result ≡ length seen.states.keys = omega (arith, c.len-then-branch.ensures.len) in
    let P : ℕ → Type 0 = λ n. IsTraced seen.origins.items n c.in_ok-text.text.items in
    let Q : List (ℕ × ℕ) → Type 0 = λ os. IsTraced os c.len-then-branch.result c.in_ok-text.text.items in
    let R : List ℕ → Type 0 = λ text. IsLeastAccepted (g.M.Machine.machine c.args.machine.now) text in
    subst R (traced_once found.traced (subst P last (subst Q c.deref.ensures.value c.in_ok-text.ensures))) found.least

pub returns-then-branch-clause-few : goal.returns-then-branch-clause-few
returns-then-branch-clause-few g c _ =
    few_found (c.in_ok-next_accepts.ensures.found c.if-branch.true) c.args.limit c.in_ok-next_accepts.ensures.room

pub returns-clause-none : goal.returns-clause-none
returns-clause-none g c =
    let within = c.loop-done.invariant.0 in
    none_accepted c.loop-done.invariant.1 (λ less. omega (arith, less, c.loop-done-test.false, c.len.ensures.len))
    (omega (arith, within, c.ranges.limit.fits))

pub returns-clause-few : goal.returns-clause-few
returns-clause-few g c _ =
    let within = c.loop-done.invariant.0 in
    few_in_all c.loop-done.invariant.1 (λ less. omega (arith, less, c.loop-done-test.false, c.len.ensures.len))
    (omega (arith, within, c.ranges.limit.fits)) c.args.limit within
