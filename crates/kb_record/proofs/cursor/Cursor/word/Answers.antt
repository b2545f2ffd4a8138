use Rattle.std.proofs.Common.{sym, ap}
use Rattle.kb_record.specs.Nesting.{deepest}
use Rattle.kb_record.specs.Reading.{read_word}
use Rattle.kb_record.specs.View.{factors_in}
use Rattle.kb_record.proofs.cursor.Cursor.word.Goals as goal

pub returns : goal.returns
returns c = ap (λ ts. factors_in (read_word deepest ts)) (sym c.args.self.now.next.first)
