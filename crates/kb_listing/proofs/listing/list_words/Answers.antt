use Rattle.std.proofs.Common.{refl, arith, ◌∙◌, ap}
use Rattle.kb_io.specs.Outside.{outside}
use Rattle.kb_fsarat.specs.Enumeration.{Enumeration}
use Rattle.kb_task.proofs.RunLemmas.{counted_after}
use Rattle.kb_listing.proofs.ListLemmas.{listed-start, listing-ended}
use Rattle.kb_listing.proofs.listing.list_words.Goals as goal

pub loop-pending-init : goal.loop-pending-init
loop-pending-init g c = record {
  listed = λ told. rw (c.new-words.ensures, c.new-pending.ensures.items)
      (listed-start c.args.names.now c.args.fsa.now c.args.min c.args.max (g.O.Sink.state c.args.out.now).written);
  is = rw c.new-words.ensures;
  letters = rw c.new-words.ensures tt;
  within = rw c.new-words.ensures (omega arith);
  goes_on = record { told = refl; faults = omega arith };
}

pub returns-in-Ok-false-clause-printed : goal.returns-in-Ok-false-clause-printed
returns-in-Ok-false-clause-printed g c = λ told.
    let so_far = c.loop-pending.invariant in
    let before = (g.O.Sink.state c.args.out.now).written in
    let after = c.list_next.new.words in
    let ended = c.in-Ok-false.field-0-test in
    listing-ended c.args.names.now c.args.fsa.now c.args.min c.args.max after before (g.O.Sink.state c.list_next.new.out).written
    c.list_next.new.pending.items
    (c.in-Ok-false.ensures.steps.same ∙ ap (λ (e : Enumeration). let over : Enumeration = record e { given = after.given } in over) so_far.is)
    (c.in-Ok-false.ensures.listed before (rw so_far.goes_on.told told) (so_far.listed told))
    (c.in-Ok-false.ensures.sent ended) (c.in-Ok-false.ensures.steps.ended ended)

pub returns-in-Err-clause-fault : goal.returns-in-Err-clause-fault
returns-in-Err-clause-fault g c = λ shelf input.
    counted_after (outside shelf input (g.O.Sink.state c.args.out.now)) (outside shelf input (g.O.Sink.state c.loop-pending.out))
    (outside shelf input (g.O.Sink.state c.list_next.new.out)) c.in-Err.status
    (record {
      shelf = record { told = refl; load_faults = omega arith; store_faults = omega arith };
      input = record { told = refl; faults = omega arith };
      output = c.loop-pending.invariant.goes_on;
    })
    (c.in-Err.ensures.fault shelf input)
