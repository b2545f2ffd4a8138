use Rattle.std.proofs.Common.{arith}
use Rattle.kb_record.specs.Reading.{remaining}
use Rattle.kb_record.specs.declared.cursor.Mark.TheVariants.{CloseSquare}
use Rattle.kb_record.proofs.PassedMarks.{behind-shorter}
use Rattle.kb_record.proofs.ReadRows.{number_shorter}
use Rattle.kb_record.proofs.records.range.Goals as goal

pub returns-clause-shorter : goal.returns-clause-shorter
returns-clause-shorter c =
    let number = number_shorter (remaining c.args.tokens.now) (remaining c.number.new.self) c.in_ok-to.to c.in_ok-to.ensures.reads in
    let closed = behind-shorter CloseSquare (remaining c.number.new.self) (remaining c.expect.new.self) c.in_ok-expect.ensures.passes in
    omega arith
