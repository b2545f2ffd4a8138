use Rattle.kb_share.proofs.Stages.{settles_itself, settles_then}
use Rattle.kb_share.proofs.Staying.{stays_itself, stays_then}
use Rattle.kb_share.proofs.Halting.{none_is, some_is}
use Rattle.kb_share.proofs.settling.settle_part.Goals as goal
use Rattle.kb_share.specs.Work.{EndsAt}

pub making-init : goal.making-init
making-init g c = record {
  settles = settles_itself c.args.book.now.course;
  known = c.requires.known;
  reduced = stays_itself c.args.book.now.course;
}

pub returns-in_err-end-clause-settles : goal.returns-in_err-end-clause-settles
returns-in_err-end-clause-settles g c =
    settles_then c.args.book.now.course c.making.book.course c.make_next.new.book.course c.making.invariant.settles c.make_next.ensures.settles

pub returns-in-Some-clause-settles : goal.returns-in-Some-clause-settles
returns-in-Some-clause-settles g c =
    settles_then c.args.book.now.course c.making.book.course c.make_next.new.book.course c.making.invariant.settles c.make_next.ensures.settles

pub returns-in-Some-clause-ends : goal.returns-in-Some-clause-ends
returns-in-Some-clause-ends g c =
    let after = c.make_next.new.book.course in
    some_is (EndsAt after) c.in_ok-end.field-0 c.in-Some.end c.in-Some.is c.in_ok-end.ensures.ends

pub making-smaller : goal.making-smaller
making-smaller g c = none_is c.in_ok-end.field-0 c.in_default.is c.in_ok-end.ensures.falls

pub returns-in-Some-clause-reduced : goal.returns-in-Some-clause-reduced
returns-in-Some-clause-reduced g c =
    stays_then c.args.book.now.course c.making.book.course c.make_next.new.book.course c.making.invariant.reduced
    c.in_ok-end.ensures.reduced

pub returns-in-Some-clause-known : goal.returns-in-Some-clause-known
returns-in-Some-clause-known g c = c.in_ok-end.ensures.known

pub making-preserved : goal.making-preserved
making-preserved g c = record {
  settles = settles_then c.args.book.now.course c.making.book.course c.make_next.new.book.course c.making.invariant.settles
      c.make_next.ensures.settles;
  known = c.in_ok-end.ensures.known;
  reduced = stays_then c.args.book.now.course c.making.book.course c.make_next.new.book.course c.making.invariant.reduced
      c.in_ok-end.ensures.reduced;
}
