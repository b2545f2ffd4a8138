use Rattle.kb_book.specs.declared.answers.Make.TheVariants as makes
use Rattle.kb_share.proofs.Stages.{make_settles, make_said, settles_then, made_then_falls, dropped_falls, halt_given}
use Rattle.kb_share.proofs.Staying.{knows_make, dropped_stays_said, idle_stays, halted_stays_said}
use Rattle.kb_share.proofs.Halting.{idle_ends, if_none, if_some}
use Rattle.kb_share.proofs.settling.make_next.Goals as goal
use Rattle.kb_share.specs.Work.{EndsAt}

pub returns-in_err-k-clause-settles : goal.returns-in_err-k-clause-settles
returns-in_err-k-clause-settles g c =
    make_settles c.args.book.now.course c.make.new.self.course c.make.result c.make.ensures

pub returns-in-Dropped-clause-settles : goal.returns-in-Dropped-clause-settles
returns-in-Dropped-clause-settles g c =
    make_settles c.args.book.now.course c.make.new.self.course c.make.result c.make.ensures

pub returns-in-Idle-clause-settles : goal.returns-in-Idle-clause-settles
returns-in-Idle-clause-settles g c =
    make_settles c.args.book.now.course c.make.new.self.course c.make.result c.make.ensures

pub returns-in-Halted-clause-settles : goal.returns-in-Halted-clause-settles
returns-in-Halted-clause-settles g c =
    make_settles c.args.book.now.course c.make.new.self.course c.make.result c.make.ensures

pub returns-in_err-line_made-in-Made-clause-settles : goal.returns-in_err-line_made-in-Made-clause-settles
returns-in_err-line_made-in-Made-clause-settles g c =
    settles_then c.args.book.now.course c.make.new.self.course c.line_made.new.book.course
    (make_settles c.args.book.now.course c.make.new.self.course c.make.result c.make.ensures) c.line_made.ensures.goes_on.settles

pub returns-in_ok-line_made-in-Made-clause-settles : goal.returns-in_ok-line_made-in-Made-clause-settles
returns-in_ok-line_made-in-Made-clause-settles g c =
    settles_then c.args.book.now.course c.make.new.self.course c.line_made.new.book.course
    (make_settles c.args.book.now.course c.make.new.self.course c.make.result c.make.ensures) c.line_made.ensures.goes_on.settles

pub returns-in_ok-line_made-in-Made-clause-falls : goal.returns-in_ok-line_made-in-Made-clause-falls
returns-in_ok-line_made-in-Made-clause-falls g c =
    let before = c.args.book.now.course in
    let middle = c.make.new.self.course in
    let says = make_said before middle c.in_ok-k.field-0 (makes.Made c.in-Made.k) c.in-Made.is c.in_ok-k.ensures in
    if_none c.in_ok-line_made-in-Made.field-0
    (made_then_falls c.in-Made.k before middle c.line_made.new.book.course says.takes c.line_made.ensures.goes_on)

pub returns-in_ok-line_made-in-Made-clause-ends : goal.returns-in_ok-line_made-in-Made-clause-ends
returns-in_ok-line_made-in-Made-clause-ends g c =
    if_some (EndsAt c.line_made.new.book.course) c.in_ok-line_made-in-Made.field-0 c.in_ok-line_made-in-Made.ensures.none

pub returns-in-Dropped-clause-falls : goal.returns-in-Dropped-clause-falls
returns-in-Dropped-clause-falls g c =
    let before = c.args.book.now.course in
    let after = c.make.new.self.course in
    let says = make_said before after c.in_ok-k.field-0 makes.Dropped c.in-Dropped.is c.in_ok-k.ensures in
    dropped_falls before after says.takes

pub returns-in-Idle-clause-ends : goal.returns-in-Idle-clause-ends
returns-in-Idle-clause-ends g c =
    let before = c.args.book.now.course in
    let after = c.make.new.self.course in
    idle_ends before after c.book_is_sound.ensures
    (make_said before after c.in_ok-k.field-0 makes.Idle c.in-Idle.is c.in_ok-k.ensures)

pub returns-in-Halted-clause-ends : goal.returns-in-Halted-clause-ends
returns-in-Halted-clause-ends g c =
    let before = c.args.book.now.course in
    let after = c.make.new.self.course in
    halt_given before after c.in-Halted.halt
    (make_said before after c.in_ok-k.field-0 (makes.Halted c.in-Halted.halt) c.in-Halted.is c.in_ok-k.ensures)

pub line_made-requires : goal.line_made-requires
line_made-requires g c = record {
  known = knows_make c.args.finder.now c.args.book.now.course c.make.new.self.course c.make.result c.make.ensures c.requires.known;
}

pub returns-in_ok-line_made-in-Made-clause-known : goal.returns-in_ok-line_made-in-Made-clause-known
returns-in_ok-line_made-in-Made-clause-known g c = c.in_ok-line_made-in-Made.ensures.known

pub returns-in_ok-line_made-in-Made-clause-reduced : goal.returns-in_ok-line_made-in-Made-clause-reduced
returns-in_ok-line_made-in-Made-clause-reduced g c =
    let before = c.args.book.now.course in
    let middle = c.make.new.self.course in
    let says = make_said before middle c.in_ok-k.field-0 (makes.Made c.in-Made.k) c.in-Made.is c.in_ok-k.ensures in
    c.in_ok-line_made-in-Made.ensures.reduced before says.takes

pub returns-in-Dropped-clause-known : goal.returns-in-Dropped-clause-known
returns-in-Dropped-clause-known g c =
    knows_make c.args.finder.now c.args.book.now.course c.make.new.self.course c.make.result c.make.ensures c.requires.known

pub returns-in-Dropped-clause-reduced : goal.returns-in-Dropped-clause-reduced
returns-in-Dropped-clause-reduced g c =
    let before = c.args.book.now.course in
    let after = c.make.new.self.course in
    dropped_stays_said before after (make_said before after c.in_ok-k.field-0 makes.Dropped c.in-Dropped.is c.in_ok-k.ensures)

pub returns-in-Idle-clause-known : goal.returns-in-Idle-clause-known
returns-in-Idle-clause-known g c =
    knows_make c.args.finder.now c.args.book.now.course c.make.new.self.course c.make.result c.make.ensures c.requires.known

pub returns-in-Idle-clause-reduced : goal.returns-in-Idle-clause-reduced
returns-in-Idle-clause-reduced g c =
    let before = c.args.book.now.course in
    let after = c.make.new.self.course in
    idle_stays before after (make_said before after c.in_ok-k.field-0 makes.Idle c.in-Idle.is c.in_ok-k.ensures)

pub returns-in-Halted-clause-known : goal.returns-in-Halted-clause-known
returns-in-Halted-clause-known g c =
    knows_make c.args.finder.now c.args.book.now.course c.make.new.self.course c.make.result c.make.ensures c.requires.known

pub returns-in-Halted-clause-reduced : goal.returns-in-Halted-clause-reduced
returns-in-Halted-clause-reduced g c =
    let before = c.args.book.now.course in
    let after = c.make.new.self.course in
    halted_stays_said before after c.in-Halted.halt
    (make_said before after c.in_ok-k.field-0 (makes.Halted c.in-Halted.halt) c.in-Halted.is c.in_ok-k.ensures)
