use Rattle.std.proofs.Common.{◌<◌, ◌≤◌, ◌+◌, length, sym, refl, subst, ◌∙◌, arith}
use Rattle.std.proofs.lemmas.Option.{slice_get_read}
use Rattle.kb_word.specs.Relations.{IsOver}
use Rattle.kb_diff.specs.Differences.{last_place}
use Rattle.kb_kept.specs.declared.equality.Equality.{Equality}
use Rattle.kb_kept.proofs.Standings.{place_more, equality_more, reaches_none, reaches_some}
use Rattle.kb_kept.proofs.listing.Found.list_equality.Goals as goal

pub list_place-requires-clause-first : goal.list_place-requires-clause-first
list_place-requires-clause-first g c =
    let P : Equality → Type 0 = λ equality. IsOver c.args.differences.now.group.n equality.u in
    subst P (sym c.index-equalities-index.is) (c.requires.over c.args.index c.index-equalities-index.result c.requires.within).0

pub list_place-requires-clause-second : goal.list_place-requires-clause-second
list_place-requires-clause-second g c =
    let P : Equality → Type 0 = λ equality. IsOver c.args.differences.now.group.n equality.v in
    subst P (sym c.index-equalities-index.is) (c.requires.over c.args.index c.index-equalities-index.result c.requires.within).1

pub returns-then-is_some : goal.returns-then-is_some
returns-then-is_some g c answer first =
    let now = c.args.differences.now in
    let equalities = c.args.equalities.now in
    let equality = c.index-equalities-index.result in
    let place = c.loop-place.place in
    let new = c.list_place.new.self in
    let at = slice_get_read equalities (length equalities) c.args.index equality refl c.requires.within c.index-equalities-index.is in
    let within : place + 1 ≤ last_place equality.u equality.v =
    omega (arith, c.loop-place-test.true, c.max-place-end.ensures, c.len.ensures, c.len-2.ensures) in
    let reached = place_more now.group now.words answer equalities equality c.args.index (place + 1) (place + 1 + 1) c.loop-place.self new c.in_ok-needed.needed
    (omega arith) at (omega arith) within (c.loop-place.invariant answer first) c.in_ok-needed.ensures in
    reaches_some now.group now.words answer equalities c.args.index (place + 1 + 1) (c.args.index + 1) 1 new c.in_ok-needed.needed
    (sym c.is_some.ensures ∙ c.if-is_some.true) reached

pub loop-place-preserved : goal.loop-place-preserved
loop-place-preserved g c answer first =
    let now = c.args.differences.now in
    let equalities = c.args.equalities.now in
    let equality = c.index-equalities-index.result in
    let place = c.loop-place.place in
    let new = c.list_place.new.self in
    let at = slice_get_read equalities (length equalities) c.args.index equality refl c.requires.within c.index-equalities-index.is in
    let within : place + 1 ≤ last_place equality.u equality.v =
    omega (arith, c.loop-place-test.true, c.max-place-end.ensures, c.len.ensures, c.len-2.ensures) in
    let reached = place_more now.group now.words answer equalities equality c.args.index (place + 1) (place + 1 + 1) c.loop-place.self new c.in_ok-needed.needed
    (omega arith) at (omega arith) within (c.loop-place.invariant answer first) c.in_ok-needed.ensures in
    reaches_none now.group now.words answer equalities c.args.index (place + 1 + 1) new c.in_ok-needed.needed
    (sym c.is_some.ensures ∙ c.if-is_some.false) reached

pub returns : goal.returns
returns g c answer first =
    let now = c.args.differences.now in
    let equalities = c.args.equalities.now in
    let equality = c.index-equalities-index.result in
    let at = slice_get_read equalities (length equalities) c.args.index equality refl c.requires.within c.index-equalities-index.is in
    let past : last_place equality.u equality.v < c.loop-place.place + 1 =
    omega (arith, c.loop-place-test.false, c.max-place-end.ensures, c.len.ensures, c.len-2.ensures) in
    equality_more now.group now.words answer equalities equality c.args.index (c.loop-place.place + 1) (c.args.index + 1) c.loop-place.self (omega arith) at past
    (c.loop-place.invariant answer first)
