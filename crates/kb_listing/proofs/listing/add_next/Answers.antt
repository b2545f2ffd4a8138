use Rattle.kb_listing.proofs.ListLemmas.{listed-more, steps-more}
use Rattle.kb_listing.proofs.listing.add_next.Goals as goal

pub returns-clause-listed : goal.returns-clause-listed
returns-clause-listed c = λ before written listed.
    let step = rw c.in-Some.is at c.in_ok-word.ensures.step in
    listed-more c.args.names.now c.args.words.now c.next_word.new.self before written c.args.pending.now.items c.print_word.new.out.items c.push.new.self.items c.in-Some.word
    listed step.0 step.1 c.in_ok-print_word.ensures.printed c.in_ok-push.ensures.items

pub returns-clause-steps : goal.returns-clause-steps
returns-clause-steps c =
    let step = rw c.in-Some.is at c.in_ok-word.ensures.step in
    steps-more c.rank_falls_along_shortlex.ensures c.args.words.now c.next_word.new.self c.in-Some.word c.requires
    (rw (← c.word.view_is) c.word.invariant) step.0 step.1
