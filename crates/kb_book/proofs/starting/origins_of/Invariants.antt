use Rattle.std.proofs.Common.{◌≡◌, take}
use Rattle.kb_machine.specs.States.{relation_origins}
use Rattle.kb_book.proofs.starting.origins_of.Given as goal

abbrev pub invariant-loop-place : goal.invariant-loop-place
invariant-loop-place l = l.origins.items ≡ relation_origins 1 (take l.place l.relations)
