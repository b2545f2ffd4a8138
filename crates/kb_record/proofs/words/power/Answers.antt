use Rattle.std.proofs.Common.{arith}
use Rattle.kb_record.specs.Reading.{remaining}
use Rattle.kb_record.specs.declared.cursor.Mark.TheVariants.{Caret}
use Rattle.kb_record.proofs.PassedMarks.{behind-shorter}
use Rattle.kb_record.proofs.ReadRows.{number_shorter}
use Rattle.kb_record.proofs.words.power.Goals as goal

pub returns-clause-shorter : goal.returns-clause-shorter
returns-clause-shorter c =
    let caret = behind-shorter Caret (remaining c.args.tokens.now) (remaining c.take.new.self) c.if-not-take.ensures.passes in
    let number = number_shorter (remaining c.take.new.self) (remaining c.number.new.self) c.in_ok-number.field-0 c.in_ok-number.ensures.reads in
    omega arith
