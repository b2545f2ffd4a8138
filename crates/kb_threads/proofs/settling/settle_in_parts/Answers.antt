use Rattle.kb_threads.proofs.Settled.{ends_if}
use Rattle.kb_threads.proofs.settling.settle_in_parts.Goals as goal

pub returns-in-None : goal.returns-in-None
returns-in-None g c =
    ends_if c.args.settling.book.course c.part.new.self c.settle_beside.result c.in_ok-settled.ensures.stage c.settle_beside.ensures
