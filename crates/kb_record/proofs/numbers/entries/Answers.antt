use Rattle.kb_record.specs.Reading.{remaining}
use Rattle.kb_record.proofs.Views.{view-Entries}
use Rattle.kb_record.proofs.NumberLists.{entries_spelled}
use Rattle.kb_record.proofs.numbers.entries.Goals as goal

pub returns-clause-spelled : goal.returns-clause-spelled
returns-clause-spelled c = entries_spelled _ c.in-Some.rows (remaining c.args.tokens.now) _ (view-Entries c.in-Some.rows) (rw c.in-Some.is at c.in_ok-found.ensures.spelled)
