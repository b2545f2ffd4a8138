-- What a publisher is in contracts, and what publishing does to it.
use Rattle.std.specs.Prelude.{◌≡◌, List, [], ◌∷◌, ◌++◌, Some, fold}
use Rattle.kb_publish.specs.Versions.{last}

-- the states of the versions that were published, in their order, and the operations that were told since
pub record Publishing (S O : Type 0) : Type 0 where
  pub published : List S
  pub pending : List O

-- The published states grow by one: what the pending operations, applied in their order, make of the last one. Then
-- nothing is pending.
pub record Grows {S O : Type 0} (applied : S → O → S) (before after : Publishing S O) : Type 0 where
  pub last_state : S
  pub was_last : last before.published ≡ Some last_state
  pub one_more : after.published ≡ before.published ++ fold applied last_state before.pending ∷ []
  pub none_pending : after.pending ≡ []
