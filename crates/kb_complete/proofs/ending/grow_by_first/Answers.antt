use Rattle.std.proofs.Common.{ℕ, subst}
use Rattle.kb_machine.specs.Course.{Takes}
use Rattle.kb_machine.specs.declared.event.Event.TheVariants.{Made}
use Rattle.kb_share.proofs.Halting.{none_is, some_is}
use Rattle.kb_share.proofs.Stages.{later_then}
use Rattle.kb_complete.specs.Working.{StandsAs}
use Rattle.kb_complete.specs.declared.publishing.Standing.{Standing}
use Rattle.kb_complete.proofs.Rounds.{stays_then, grows_by_line, later_by_line}
use Rattle.kb_complete.proofs.ending.grow_by_first.Goals as goal

pub returns-in_default-clause-says : goal.returns-in_default-clause-says
returns-in_default-clause-says g c = none_is c.in_ok-k.field-0 c.in_default.is c.in_ok-k.ensures.halted

pub line_made-requires : goal.line_made-requires
line_made-requires g c = record { known = c.in_ok-k.ensures.known c.args.finder.now c.requires.known }

pub settle_and_publish-requires-after_bounds : goal.settle_and_publish-requires-after_bounds
settle_and_publish-requires-after_bounds g c κs within = c.in_ok-line_made.ensures.known

pub returns-in-Published-clause-says : goal.returns-in-Published-clause-says
returns-in-Published-clause-says g c =
    let start = c.args.book.course in
    let made = c.make_line.new.book.course in
    let alone = c.line_made.new.book.course in
    let after = c.in_ok-settled.settled.course in
    let takes = some_is (λ (k : ℕ). Takes (Made k) start made) c.in_ok-k.field-0 c.in-Some.k c.in-Some.is c.in_ok-k.ensures.made in
    let continues = c.in_ok-settled.ensures.continues in
    grows_by_line c.in-Some.k start made after takes (later_then made alone after c.line_made.ensures.goes_on.settles.later continues.later)
    (stays_then start alone after (c.in_ok-line_made.ensures.reduced start takes) continues.reduced)
    (subst (λ (s : Standing). StandsAs after s) c.in-Published.is c.in_ok-settled.ensures.stands)

pub returns-in-Halted-clause-says : goal.returns-in-Halted-clause-says
returns-in-Halted-clause-says g c =
    let start = c.args.book.course in
    let made = c.make_line.new.book.course in
    let alone = c.line_made.new.book.course in
    let after = c.in_ok-settled.settled.course in
    let takes = some_is (λ (k : ℕ). Takes (Made k) start made) c.in_ok-k.field-0 c.in-Some.k c.in-Some.is c.in_ok-k.ensures.made in
    let continues = c.in_ok-settled.ensures.continues in (
      later_by_line c.in-Some.k start made after takes (later_then made alone after c.line_made.ensures.goes_on.settles.later continues.later)
          (stays_then start alone after (c.in_ok-line_made.ensures.reduced start takes) continues.reduced),
      subst (λ (s : Standing). StandsAs after s) c.in-Halted.is c.in_ok-settled.ensures.stands,
    )

pub returns-in_default-clause-known : goal.returns-in_default-clause-known
returns-in_default-clause-known g c = c.in_ok-k.ensures.known c.args.finder.now c.requires.known

pub returns-in-Published-clause-known : goal.returns-in-Published-clause-known
returns-in-Published-clause-known g c = c.in_ok-settled.ensures.known

pub returns-in-Halted-clause-known : goal.returns-in-Halted-clause-known
returns-in-Halted-clause-known g c = c.in_ok-settled.ensures.known
