use Rattle.std.proofs.Common.{◌+◌, List, sym, subst, ◌∙◌, arith}
use Rattle.kb_kept.specs.declared.equality.Equality.{Equality}
use Rattle.kb_kept.specs.Finding.{Standing}
use Rattle.kb_kept.specs.Listed.{AreListed, AreEqualitiesOver}
use Rattle.kb_kept.proofs.Standings.{standing_first, is_finished, finished}
use Rattle.kb_kept.proofs.listing.list_differences.Goals as goal

pub loop-index-init : goal.loop-index-init
loop-index-init g c answer adds =
    let now = c.args.differences.now in
    standing_first now.group now.most now.words answer c.args.equalities.items c.in_ok-found.found adds c.in_ok-found.ensures.kept
    c.in_ok-found.ensures.known

pub list_equality-requires-clause-over : goal.list_equality-requires-clause-over
list_equality-requires-clause-over g c =
    let P : List Equality → Type 0 = λ equalities. AreEqualitiesOver c.args.differences.now.group.n equalities in
    subst P (sym c.deref.ensures.value) c.requires.over

pub returns-then-is_some-clause-lists : goal.returns-then-is_some-clause-lists
returns-then-is_some-clause-lists g c =
    let now = c.args.differences.now in
    let answer = c.requires.kept.0 in
    let index = c.loop-index.index in
    let needed = c.in_ok-needed.needed in
    let new = c.list_equality.new.self in
    let S : List Equality → Type 0 = λ equalities. Standing now.group now.words answer equalities index 1 c.loop-index.found in
    let L : List Equality → Type 0 = λ equalities. AreListed now.group equalities new.kept.items needed in
    let standing = c.loop-index.invariant answer c.requires.kept.1 in
    let reached = c.in_ok-needed.ensures answer (subst S (sym c.deref.ensures.value) standing) in
    let end = is_finished now.group now.words answer c.deref.result.now (index + 1) 1 new needed (sym c.is_some.ensures ∙ c.if-is_some.true) reached in
    record { words_are = end.words_are; listed = subst L c.deref.ensures.value end.listed }

pub returns-clause-lists : goal.returns-clause-lists
returns-clause-lists g c =
    let now = c.args.differences.now in
    let answer = c.requires.kept.0 in
    let end = finished now.group now.words answer c.args.equalities.items c.loop-index.index 1 c.loop-index.found
    (omega (arith, c.loop-index-test.false, c.len-index-end.ensures)) (c.loop-index.invariant answer c.requires.kept.1) in
    record { words_are = end.words_are; listed = end.listed }

pub returns-clause-needed : goal.returns-clause-needed
returns-clause-needed g c answer adds =
    let now = c.args.differences.now in
    (finished now.group now.words answer c.args.equalities.items c.loop-index.index 1 c.loop-index.found
    (omega (arith, c.loop-index-test.false, c.len-index-end.ensures)) (c.loop-index.invariant answer adds)).full
