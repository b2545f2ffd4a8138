use Rattle.std.proofs.Common.{◌≡◌, ℕ, ◌+◌, ◌-◌, length, get_or, sym, subst, arith}
use Rattle.std.proofs.lemmas.Result.{on_err_weaker, on_ok_weaker}
use Rattle.kb_trie.specs.LeftSides.{HasAt, IsLast, IsLeast}
use Rattle.kb_trie.specs.Lookups.{IsEntry, states_in}
use Rattle.kb_trie.proofs.HasAt.{has_within}
use Rattle.kb_trie.proofs.Entries.{entry_here, keeps_here, lookup_same, state_here}
use Rattle.kb_trie.proofs.Joining.{last_there, left_first, left_later, states_same}
use Rattle.kb_trie.proofs.Least.{least_kept}
use Rattle.kb_trie.proofs.lookup.leave.Goals as goal

pub number_at-first-requires : goal.number_at-first-requires
number_at-first-requires c = (c.requires.lookup.entries_are c.args.number c.args.entry c.requires.entry).within

pub overflow_sub-first : goal.overflow_sub-first
overflow_sub-first c =
    omega (
      arith,
      c.number_at-first.ensures,
      keeps_here c.args.trie.now c.args.entries.now c.requires.lookup c.args.entry.state c.args.number
          (state_here c.args.entries.now c.args.entry c.args.number c.requires.entry),
    )

pub set_first-requires : goal.set_first-requires
set_first-requires c =
    record {
      state = (c.requires.lookup.entries_are c.args.number c.args.entry c.requires.entry).within;
      some = keeps_here c.args.trie.now c.args.entries.now c.requires.lookup c.args.entry.state c.args.number
          (state_here c.args.entries.now c.args.entry c.args.number c.requires.entry);
    }

pub returns-then-first-number-clause-ok : goal.returns-then-first-number-clause-ok
returns-then-first-number-clause-ok c =
    let some = keeps_here c.args.trie.now c.args.entries.now c.requires.lookup c.args.entry.state c.args.number
    (state_here c.args.entries.now c.args.entry c.args.number c.requires.entry) in
    let first : get_or c.args.trie.now.numbers c.args.entry.state 0 ≡ c.args.number + 1 =
    omega (arith, some, c.number_at-first.ensures, c.if-first-number.true) in
    on_ok_weaker c.set_first.result
    (λ numbers.
    left_first c.args.trie.now c.set_first.new.trie c.args.entries.now c.requires.lookup c.args.number c.args.entry c.requires.entry first
    c.set_first.ensures.words numbers)
    c.set_first.ensures.ok

pub returns-then-first-number-clause-err : goal.returns-then-first-number-clause-err
returns-then-first-number-clause-err c =
    on_err_weaker c.set_first.result
    (λ numbers. lookup_same c.args.trie.now c.set_first.new.trie c.args.entries.now c.set_first.ensures.words numbers c.requires.lookup)
    c.set_first.ensures.err

pub last_before-before-requires : goal.last_before-before-requires
last_before-before-requires c =
    let of : IsEntry (length c.args.trie.now.words) (states_in c.args.entries.now) c.args.number c.args.entry =
    c.requires.lookup.entries_are c.args.number c.args.entry c.requires.entry in
    let here : HasAt (states_in c.args.entries.now) c.args.entry.state c.args.number =
    state_here c.args.entries.now c.args.entry c.args.number c.requires.entry in
    let some = keeps_here c.args.trie.now c.args.entries.now c.requires.lookup c.args.entry.state c.args.number here in
    let n : ℕ = get_or c.args.trie.now.numbers c.args.entry.state 0 in
    let least : IsLeast (HasAt (states_in c.args.entries.now) c.args.entry.state) 0 (n - 1) =
    least_kept (HasAt (states_in c.args.entries.now) c.args.entry.state) 0 n (c.requires.lookup.firsts c.args.entry.state of.within) some in
    let P : ℕ → Type 0 = λ k. HasAt (states_in c.args.entries.now) c.args.entry.state (k - 1) in
    record {
      entries = (length c.args.trie.now.words, c.requires.lookup.entries_are);
      has = (c.args.entry.state, subst P (sym c.number_at-first.ensures) least.is);
      before = omega (arith, c.number_at-first.ensures, least.least c.args.number (omega arith) here, c.if-first-number.false);
    }

pub bounds-entries-before : goal.bounds-entries-before
bounds-entries-before c =
    let here : HasAt (states_in c.args.entries.now) c.args.entry.state c.args.number =
    state_here c.args.entries.now c.args.entry c.args.number c.requires.entry in
    let some = keeps_here c.args.trie.now c.args.entries.now c.requires.lookup c.args.entry.state c.args.number here in
    omega (
      arith,
      has_within c.args.entries.now c.args.entry c.args.number c.requires.entry,
      (last_there c.args.trie.now c.args.entries.now c.requires.lookup c.args.number c.args.entry c.requires.entry c.number_at-first.result
          c.last_before-before.result c.number_at-first.ensures c.last_before-before.ensures).before,
    )

pub returns-clause-ok : goal.returns-clause-ok
returns-clause-ok c =
    let last : IsLast (HasAt (states_in c.args.entries.now) c.args.entry.state) c.args.number c.last_before-before.result =
    last_there c.args.trie.now c.args.entries.now c.requires.lookup c.args.number c.args.entry c.requires.entry c.number_at-first.result
    c.last_before-before.result c.number_at-first.ensures c.last_before-before.ensures in
    let there = entry_here c.args.entries.now c.args.entry.state c.last_before-before.result last.is in
    left_later c.args.trie.now c.args.entries.now c.requires.lookup c.args.number c.last_before-before.result c.args.entry there.0 c.requires.entry
    there.1 there.2 last

pub returns-clause-states : goal.returns-clause-states
returns-clause-states c =
    let last : IsLast (HasAt (states_in c.args.entries.now) c.args.entry.state) c.args.number c.last_before-before.result =
    last_there c.args.trie.now c.args.entries.now c.requires.lookup c.args.number c.args.entry c.requires.entry c.number_at-first.result
    c.last_before-before.result c.number_at-first.ensures c.last_before-before.ensures in
    let there = entry_here c.args.entries.now c.args.entry.state c.last_before-before.result last.is in
    states_same c.args.entries.now c.last_before-before.result there.0 c.args.entry there.1 (sym there.2)
