use Rattle.kb_threads.proofs.settling.settle_in_parts.Given as goal

abbrev pub ghosts-settle_beside : goal.ghosts-settle_beside
ghosts-settle_beside g a = record { order = a.settling.book.course.problem.order }
