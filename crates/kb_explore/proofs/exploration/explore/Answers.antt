use Rattle.std.proofs.Common.{◌≡◌, length, min, arith}
use Rattle.kb_explore.proofs.CountingLemmas.{MoreThan-fewer}
use Rattle.kb_explore.proofs.ExplorationLemmas.{no_more_than_explored}
use Rattle.kb_explore.proofs.Finishing.{IsTable-whole, HasSymbols-whole, explored}
use Rattle.kb_explore.proofs.exploration.explore.Goals as goal

pub new-requires-2 : goal.new-requires-2
new-requires-2 g c =
    let within = c.loop-seen.invariant.0 in
    let progress = c.loop-seen.invariant.1 in
    let rows_within = progress.within in
    let whole : length c.loop-seen.rows ≡ length c.loop-seen.seen.states.keys = omega arith in
    let initial : c.min-initial.result ≡ min (length c.loop-seen.rows) 1 = omega arith in
    rw c.in_ok-accepting.ensures (IsTable-whole progress whole c.min-initial.result initial (omega arith))

pub returns-clause-explored : goal.returns-clause-explored
returns-clause-explored g c =
    let within = c.loop-seen.invariant.0 in
    let progress = c.loop-seen.invariant.1 in
    let rows_within = progress.within in
    let whole : length c.loop-seen.rows ≡ length c.loop-seen.seen.states.keys = omega arith in
    let initial : c.min-initial.result ≡ min (length c.loop-seen.rows) 1 = omega arith in
    rw (c.new-2.ensures, c.in_ok-accepting.ensures) (explored progress whole c.min-initial.result initial (omega arith))

pub returns-clause-symbols : goal.returns-clause-symbols
returns-clause-symbols g c =
    let progress = c.loop-seen.invariant.1 in
    let rows_within = progress.within in
    let whole : length c.loop-seen.rows ≡ length c.loop-seen.seen.states.keys = omega arith in
    rw c.new-2.ensures (HasSymbols-whole progress whole c.min-initial.result)

pub returns-clause-few : goal.returns-clause-few
returns-clause-few g c _ more =
    let within = c.loop-seen.invariant.0 in
    let progress = c.loop-seen.invariant.1 in
    let rows_within = progress.within in
    let whole : length c.loop-seen.rows ≡ length c.loop-seen.seen.states.keys = omega arith in
    let initial : c.min-initial.result ≡ min (length c.loop-seen.rows) 1 = omega arith in
    no_more_than_explored (explored progress whole c.min-initial.result initial (omega arith)) (MoreThan-fewer more (omega arith))
