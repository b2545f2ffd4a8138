use Rattle.kb_confluence.proofs.confluence.verdict_on.Goals as goal

pub returns-then-branch : goal.returns-then-branch
returns-then-branch g c =
    c.composite_overlaps_need_no_look.ensures c.args.rules.now.order c.args.rules.now.rules c.as_slice-list.ensures.decreasing
    (c.in_ok-primes_are_joined.ensures c.if-branch.true)
