use Rattle.std.proofs.Common.{◌<◌, List, length, subst}
use Rattle.kb_machine.specs.declared.line.Line.{Line}
use Rattle.kb_complete.specs.Working.{StandsAs}
use Rattle.kb_complete.specs.declared.publishing.Standing.{Standing}
use Rattle.kb_complete.proofs.Rounds.{stands_published}
use Rattle.kb_complete.proofs.growing.advance.Goals as goal

pub returns-in-Halted-clause-says : goal.returns-in-Halted-clause-says
returns-in-Halted-clause-says g c = (
  c.in_ok-settled.ensures.continues,
  subst (λ (s : Standing). StandsAs c.in_ok-settled.settled.course s) c.in-Halted.is c.in_ok-settled.ensures.stands,
)

pub returns-then-lines-given-clause-says : goal.returns-then-lines-given-clause-says
returns-then-lines-given-clause-says g c = (
  c.in_ok-settled.ensures.continues,
  stands_published c.in_ok-settled.settled.course c.in_ok-settled.standing c.in_default.not-Halted
      c.in_ok-settled.ensures.stands,
  subst (λ (given : List Line). length given < length c.in_ok-settled.settled.course.state.lines) c.lines-given.ensures
      (subst (λ (lines : List Line). length c.lines-given.result.now < length lines) c.lines.ensures c.if-lines-given.true),
)

pub returns-clause-says : goal.returns-clause-says
returns-clause-says g c = (
  c.in_ok-settled.ensures.continues,
  stands_published c.in_ok-settled.settled.course c.in_ok-settled.standing c.in_default.not-Halted
      c.in_ok-settled.ensures.stands,
)

pub returns-in-Halted-clause-known : goal.returns-in-Halted-clause-known
returns-in-Halted-clause-known g c = c.in_ok-settled.ensures.known

pub returns-then-lines-given-clause-known : goal.returns-then-lines-given-clause-known
returns-then-lines-given-clause-known g c = c.in_ok-settled.ensures.known

pub returns-clause-known : goal.returns-clause-known
returns-clause-known g c = c.in_ok-settled.ensures.known
