use Rattle.std.proofs.Common.{◌≡◌, length, arith}
use Rattle.kb_branching.proofs.Steps.{AreNumbers-kept, AreRows-kept, AreRows-none, AreRows-push}
use Rattle.kb_branching.proofs.Whole.{is_nondeterministic, explored, same_language, no_more_states, rows_within}
use Rattle.kb_branching.proofs.exploration.explore_branches.Goals as goal

pub loop-states-init : goal.loop-states-init
loop-states-init g c =
    let made = c.in_ok-starts.ensures in (
      made.room,
      made.reached,
      made.numbers,
      rw c.new-rows.ensures.items (AreRows-none (g.M.Branching.machine c.args.machine.now) c.number_starts.new.states.keys),
    )

pub loop-states-preserved : goal.loop-states-preserved
loop-states-preserved g c =
    let machine = g.M.Branching.machine c.args.machine.now in
    let before = c.loop-states.states.keys in
    let after = c.row_at.new.states.keys in
    let made = c.in_ok-row.ensures in (
      made.room,
      made.reached,
      AreNumbers-kept before after made.kept c.in_ok-starts.starts.items machine.starts c.loop-states.invariant.2,
      rw c.in_ok-push.ensures.items (AreRows-push machine after c.loop-states.rows.items c.in_ok-row.row
          (AreRows-kept before after made.kept machine c.loop-states.rows.items c.loop-states.invariant.3)
          c.len-in-loop-states-2.result (omega (arith, c.len-in-loop-states-2.ensures, c.loop-states.rows.ok.0)) made.row),
    )

pub new-nfa-requires : goal.new-nfa-requires
new-nfa-requires g c =
    let machine = g.M.Branching.machine c.args.machine.now in
    let states = c.loop-states.states.keys in
    let rows = c.loop-states.rows.items in
    let room = c.loop-states.invariant.0 in
    let few = rows_within machine states rows c.loop-states.invariant.3 in
    let whole : length rows ≡ length states = omega (arith, c.loop-states.rows.ok.0) in
    rw (c.alphabet.ensures, c.in_ok-accepting.ensures) (is_nondeterministic c.in_ok-starts.starts.items rows c.loop-states.invariant.1
    c.loop-states.invariant.2 c.loop-states.invariant.3 whole (g.met.M.Branching.reads_alphabet c.args.machine.now) (omega arith))

pub returns-clause-explored : goal.returns-clause-explored
returns-clause-explored g c =
    let machine = g.M.Branching.machine c.args.machine.now in
    let states = c.loop-states.states.keys in
    let rows = c.loop-states.rows.items in
    let few = rows_within machine states rows c.loop-states.invariant.3 in
    let whole : length rows ≡ length states = omega (arith, c.loop-states.rows.ok.0) in
    rw (c.new-nfa.ensures, c.alphabet.ensures, c.in_ok-accepting.ensures) (explored c.in_ok-starts.starts.items rows c.loop-states.invariant.1
    c.loop-states.invariant.2 c.loop-states.invariant.3 whole)

pub returns-clause-language : goal.returns-clause-language
returns-clause-language g c =
    let machine = g.M.Branching.machine c.args.machine.now in
    let states = c.loop-states.states.keys in
    let rows = c.loop-states.rows.items in
    let few = rows_within machine states rows c.loop-states.invariant.3 in
    let whole : length rows ≡ length states = omega (arith, c.loop-states.rows.ok.0) in
    rw (c.new-nfa.ensures, c.alphabet.ensures, c.in_ok-accepting.ensures) (same_language c.in_ok-starts.starts.items rows c.loop-states.invariant.1
    c.loop-states.invariant.2 c.loop-states.invariant.3 whole)

pub returns-clause-few : goal.returns-clause-few
returns-clause-few g c _ =
    let machine = g.M.Branching.machine c.args.machine.now in
    let states = c.loop-states.states.keys in
    let rows = c.loop-states.rows.items in
    let few = rows_within machine states rows c.loop-states.invariant.3 in
    let whole : length rows ≡ length states = omega (arith, c.loop-states.rows.ok.0) in
    no_more_states c.in_ok-starts.starts.items rows c.loop-states.invariant.1 c.loop-states.invariant.2 c.loop-states.invariant.3 whole
    c.args.limit c.loop-states.invariant.0
