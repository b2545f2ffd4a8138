use Rattle.kb_listing.proofs.ListLemmas.{listed-failed, listed-no_memory, stopped-before}
use Rattle.kb_task.specs.declared.status.Status.TheVariants.{Fault}
use Rattle.kb_task.specs.declared.status.Which.TheVariants.{Output}
use Rattle.kb_listing.proofs.listing.list_next.Goals as goal

pub returns-in-Err-send-clause-stops : goal.returns-in-Err-send-clause-stops
returns-in-Err-send-clause-stops g c = λ before told listed.
    let written = (g.O.Sink.state c.args.out.now).written in
    let now = (g.O.Sink.state c.send.new.out).written in
    stopped-before c.args.names.now c.args.words.now c.add_next.new.words c.in-Ok.more before now (Fault Output) c.in-Ok.ensures.steps
    (listed-failed c.args.names.now c.add_next.new.words before written c.add_next.new.pending.items now
    (c.in-Ok.ensures.listed before written listed) (c.in-Err-send.ensures.stops told))

pub returns-in-Err-clause-stops : goal.returns-in-Err-clause-stops
returns-in-Err-clause-stops g c = λ before told listed.
    listed-no_memory c.args.names.now c.args.words.now before (g.O.Sink.state c.args.out.now).written c.args.pending.now.items listed
