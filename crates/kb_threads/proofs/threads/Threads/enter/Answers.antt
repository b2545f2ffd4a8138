use Rattle.kb_threads.proofs.NothingFound.{overlaps_given}
use Rattle.kb_threads.proofs.threads.Threads.enter.Goals as goal

pub enter_shared-requires-clause-overlaps : goal.enter_shared-requires-clause-overlaps
enter_shared-requires-clause-overlaps g c κs within =
    overlaps_given c.args.book.course c.args.batch.items c.book_is_sound.ensures c.requires.apart
