use Rattle.kb_record.specs.Reading.{remaining}
use Rattle.kb_record.proofs.Views.{view-Rows}
use Rattle.kb_record.proofs.NumberLists.{rows_spelled}
use Rattle.kb_record.proofs.numbers.rows.Goals as goal

pub returns-clause-spelled : goal.returns-clause-spelled
returns-clause-spelled c = rows_spelled _ c.in-Some.rows (remaining c.args.tokens.now) _ (view-Rows c.in-Some.rows) (rw c.in-Some.is at c.in_ok-found.ensures.spelled)
