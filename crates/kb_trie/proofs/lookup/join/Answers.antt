use Rattle.std.proofs.Common.{◌≡◌, ◌+◌, Some, None, length, sym, ap, ◌∙◌, arith}
use Rattle.std.proofs.lemmas.Result.{on_err_weaker, on_ok_weaker}
use Rattle.kb_trie.specs.LeftSides.{HasAt, IsLast, IsLeast}
use Rattle.kb_trie.specs.Lookups.{kept, states_in}
use Rattle.kb_trie.proofs.HasAt.{has_within}
use Rattle.kb_trie.proofs.Entries.{entry_here, lookup_same}
use Rattle.kb_trie.proofs.Joining.{entry_by, joined_first, joined_last, states_length, states_same}
use Rattle.kb_trie.proofs.Least.{kept_none}
use Rattle.kb_trie.proofs.Looking.{looking_first}
use Rattle.kb_trie.proofs.lookup.join.Goals as goal

pub set-requires-clause-none : goal.set-requires-clause-none
set-requires-clause-none c =
    let same : None ≡ kept c.number_at.result = sym c.in_default.is ∙ c.kept.ensures in
    sym c.number_at.ensures ∙ kept_none c.number_at.result (sym same)

pub returns-in_default-clause-ok : goal.returns-in_default-clause-ok
returns-in_default-clause-ok c =
    let same : None ≡ kept c.number_at.result = sym c.in_default.is ∙ c.kept.ensures in
    on_ok_weaker c.set.result
    (λ numbers.
    joined_first c.args.trie.now c.set.new.self c.args.entries.now c.requires.lookup c.args.state c.args.number c.requires.some c.requires.state
    c.requires.number c.requires.few (same ∙ ap kept c.number_at.ensures) c.set.ensures.words numbers)
    c.set.ensures.ok

pub returns-in_default-clause-err : goal.returns-in_default-clause-err
returns-in_default-clause-err c =
    on_err_weaker c.set.result
    (λ numbers. lookup_same c.args.trie.now c.set.new.self c.args.entries.now c.set.ensures.words numbers c.requires.lookup)
    c.set.ensures.err

pub last_before-last-requires : goal.last_before-last-requires
last_before-last-requires c =
    let same : Some c.in-Some.first ≡ kept c.number_at.result = sym c.in-Some.is ∙ c.kept.ensures in
    let least : IsLeast (HasAt (states_in c.args.entries.now) c.args.state) 0 c.in-Some.first =
    looking_first c.args.trie.now c.args.entries.now c.requires.lookup c.args.state c.in-Some.first c.requires.state
    (same ∙ ap kept c.number_at.ensures) in
    record {
      entries = (length c.args.trie.now.words, c.requires.lookup.entries_are);
      has = (c.args.state, least.is);
      before = omega (arith, has_within (states_in c.args.entries.now) c.args.state c.in-Some.first least.is, states_length c.args.entries.now, c.requires.number);
    }

pub bounds-entries-last : goal.bounds-entries-last
bounds-entries-last c =
    let same : Some c.in-Some.first ≡ kept c.number_at.result = sym c.in-Some.is ∙ c.kept.ensures in
    let least : IsLeast (HasAt (states_in c.args.entries.now) c.args.state) 0 c.in-Some.first =
    looking_first c.args.trie.now c.args.entries.now c.requires.lookup c.args.state c.in-Some.first c.requires.state
    (same ∙ ap kept c.number_at.ensures) in
    let last : IsLast (HasAt (states_in c.args.entries.now) c.args.state) c.args.number c.last_before-last.result =
    c.last_before-last.ensures c.args.state least.is in
    omega (arith, last.before, c.requires.number)

pub returns-clause-ok : goal.returns-clause-ok
returns-clause-ok c =
    let same : Some c.in-Some.first ≡ kept c.number_at.result = sym c.in-Some.is ∙ c.kept.ensures in
    let least : IsLeast (HasAt (states_in c.args.entries.now) c.args.state) 0 c.in-Some.first =
    looking_first c.args.trie.now c.args.entries.now c.requires.lookup c.args.state c.in-Some.first c.requires.state
    (same ∙ ap kept c.number_at.ensures) in
    let last : IsLast (HasAt (states_in c.args.entries.now) c.args.state) c.args.number c.last_before-last.result =
    c.last_before-last.ensures c.args.state least.is in
    let here = entry_here c.args.entries.now c.args.state c.last_before-last.result last.is in
    joined_last c.args.trie.now c.args.entries.now c.requires.lookup c.args.state c.args.number c.last_before-last.result c.requires.some
    c.requires.state c.requires.number c.requires.few here.0 here.1 here.2 last

pub returns-clause-states : goal.returns-clause-states
returns-clause-states c =
    let same : Some c.in-Some.first ≡ kept c.number_at.result = sym c.in-Some.is ∙ c.kept.ensures in
    let least : IsLeast (HasAt (states_in c.args.entries.now) c.args.state) 0 c.in-Some.first =
    looking_first c.args.trie.now c.args.entries.now c.requires.lookup c.args.state c.in-Some.first c.requires.state
    (same ∙ ap kept c.number_at.ensures) in
    let last : IsLast (HasAt (states_in c.args.entries.now) c.args.state) c.args.number c.last_before-last.result =
    c.last_before-last.ensures c.args.state least.is in
    let here = entry_here c.args.entries.now c.args.state c.last_before-last.result last.is in
    states_same c.args.entries.now c.last_before-last.result here.0 (entry_by c.args.state (c.args.number + 1)) here.1 (sym here.2)
