use Rattle.kb_threads.proofs.threads.Threads.enter.Given as goal

abbrev pub ghosts-enter_shared-S-Sharing : goal.ghosts-enter_shared-S-Sharing
ghosts-enter_shared-S-Sharing g a = record { given = a.book.course; batch = a.batch.items }

abbrev pub ghosts-enter_shared-S-Ledger : goal.ghosts-enter_shared-S-Ledger
ghosts-enter_shared-S-Ledger g a = record { name = a.blank.name; parts = a.blank.parts }
