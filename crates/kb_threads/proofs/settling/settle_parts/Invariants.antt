use Rattle.kb_threads.specs.Settling.{IsStageFrom}
use Rattle.kb_threads.proofs.settling.settle_parts.Given as goal

-- the book has come to a later stage
abbrev pub invariant-loop : goal.invariant-loop
invariant-loop g l = (goal.iterator-loop g).can_next l.iterator' × (goal.iterator-loop g).is_finite l.iterator'
    × IsStageFrom l.fn.settling.book.course l.settling
