-- What a publisher shows of a book.
use Rattle.std.specs.Prelude.{◌≡◌, ℕ, ◌<◌, ◌≤◌, List, [], ◌++◌, Some, All, length}
use Rattle.kb_machine.specs.declared.line.Line.{Line}
use Rattle.kb_machine.specs.States.{State}
use Rattle.kb_publish.specs.Editions.{version_of}
use Rattle.kb_publish.specs.Versions.{last}
use Rattle.kb_publish.specs.declared.book_publisher.BookPublisher.{BookPublisher}

-- a state whose live lines are among its lines, and one that has the same lines, or more
pub record LeadsTo (earlier later : State) : Type 0 where
  pub numbers : All (λ k. (0 < k) × (k ≤ length earlier.lines)) earlier.live
  pub made : List Line
  pub lines : later.lines ≡ earlier.lines ++ made

-- the version that was published last has the live lines of a state, under this number, and no change is pending
pub record Shows {R N : Type 0} (publisher : BookPublisher R N) (number : ℕ)
    (state : State) : Type 0 where
  pub shown : last publisher.publisher.published ≡ Some (version_of number state)
  pub told : publisher.publisher.pending ≡ []
  pub numbers : publisher.numbers.items ≡ state.live
