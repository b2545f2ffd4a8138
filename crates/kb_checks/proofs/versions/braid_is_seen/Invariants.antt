use Rattle.kb_checks.proofs.versions.braid_is_seen.Given as goal

abbrev pub ghosts-versions_are_seen : goal.ghosts-versions_are_seen
ghosts-versions_are_seen g a = record { order = a.book.course.problem.order }
