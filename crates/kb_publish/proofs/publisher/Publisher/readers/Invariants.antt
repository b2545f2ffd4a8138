use Rattle.std.proofs.Common.{◌≡◌, length}
use Rattle.std.specs.List.{All}
use Rattle.kb_publish.specs.Readers.{seen_through}
use Rattle.kb_publish.proofs.publisher.Publisher.readers.Given as goal

abbrev pub invariant-loop : goal.invariant-loop
invariant-loop g l =
    (l.self ≡ l.initial.self) × (length l.made.items ≡ l.counter)
    × All (λ reader. seen_through reader.glass ≡ l.initial.self.published) l.made.items
