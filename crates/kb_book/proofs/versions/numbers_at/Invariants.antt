use Rattle.std.proofs.Common.{◌≡◌, take}
use Rattle.kb_book.specs.Lives.{numbers_from}
use Rattle.kb_book.proofs.versions.numbers_at.Given as goal

abbrev pub invariant-loop-index : goal.invariant-loop-index
invariant-loop-index l = l.numbers.items ≡ numbers_from 1 (take l.index l.lives) l.place
