use Rattle.std.proofs.Common.{◌≡◌, ◌++◌}
use Rattle.kb_publish.proofs.book_publisher.BookPublisher.tell_all.Given as goal

-- what was told and what is left are all changes
abbrev pub invariant-loop-change : goal.invariant-loop-change
invariant-loop-change g l =
    (l.self.publisher.pending ++ l.change-iterator.rest.items ≡ l.fn.self.publisher.pending ++ l.fn.changes.items)
    × (l.self.publisher.published ≡ l.fn.self.publisher.published)
    × (l.self.numbers ≡ l.fn.self.numbers)
