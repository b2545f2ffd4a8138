use Rattle.kb_checks.proofs.Publishing.{published_is}
use Rattle.kb_checks.proofs.books.settled.Goals as goal

pub returns : goal.returns
returns c = published_is c.settle.new.book.course c.publish.new.self.course c.in_ok-publish.ensures.says.0
