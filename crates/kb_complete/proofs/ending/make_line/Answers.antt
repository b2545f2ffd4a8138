use Rattle.kb_book.specs.declared.answers.Make.TheVariants as makes
use Rattle.kb_share.proofs.Stages.{make_said}
use Rattle.kb_share.proofs.Staying.{knows_make}
use Rattle.kb_complete.proofs.LastLines.{apart_stays, apart_pending}
use Rattle.kb_complete.proofs.Rounds.{halts_continues, make_halts}
use Rattle.kb_complete.proofs.ending.make_line.Goals as goal
use Rattle.kb_complete.proofs.ending.make_line.Goals.{in-Made, in-Halted}

pub returns-clause-made : goal.returns-clause-made
returns-clause-made g c =
    let before = c.args.book.now.course in
    let after = c.make.new.self.course in
    elim c.match-branch-2.branch [
      | in-Made w ↦ rw w.result-is
          (make_said before after c.in_ok-k.field-0 (makes.Made w.in-Made.k) w.in-Made.is c.in_ok-k.ensures).takes
      | in-Halted w ↦ rw w.result-is tt
    ]

pub returns-clause-halted : goal.returns-clause-halted
returns-clause-halted g c =
    let before = c.args.book.now.course in
    let after = c.make.new.self.course in
    elim c.match-branch-2.branch [
      | in-Made w ↦ rw w.result-is tt
      | in-Halted w ↦ rw w.result-is (
        halts_continues before after w.in-Halted.field-0
            (make_said before after c.in_ok-k.field-0 (makes.Halted w.in-Halted.field-0) w.in-Halted.is c.in_ok-k.ensures),
        make_halts before after c.in_ok-k.field-0 w.in-Halted.field-0 w.in-Halted.is c.in_ok-k.ensures,
      )
    ]

pub unreachable-requires : goal.unreachable-requires
unreachable-requires g c =
    let before = c.args.book.now.course in
    let after = c.make.new.self.course in
    apart_stays before after c.requires (make_said before after c.in_ok-k.field-0 makes.Dropped c.in-Dropped.is c.in_ok-k.ensures)

pub unreachable-requires-in-Idle : goal.unreachable-requires-in-Idle
unreachable-requires-in-Idle g c =
    let before = c.args.book.now.course in
    let after = c.make.new.self.course in
    let says = make_said before after c.in_ok-k.field-0 makes.Idle c.in-Idle.is c.in_ok-k.ensures in
    apart_pending before c.requires says.0

pub returns-clause-known : goal.returns-clause-known
returns-clause-known g c = λ finder. knows_make finder c.args.book.now.course c.make.new.self.course c.make.result c.make.ensures
