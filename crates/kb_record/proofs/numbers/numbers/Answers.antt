use Rattle.kb_record.specs.Reading.{remaining}
use Rattle.kb_record.proofs.Views.{view-Numbers}
use Rattle.kb_record.proofs.NumberLists.{numbers_spelled}
use Rattle.kb_record.proofs.numbers.numbers.Goals as goal

pub returns-clause-spelled : goal.returns-clause-spelled
returns-clause-spelled c = numbers_spelled _ c.in-Some.numbers.items (remaining c.args.tokens.now) _ (view-Numbers c.in-Some.numbers) (rw c.in-Some.is at c.in_ok-found.ensures.spelled)
