use Rattle.std.proofs.Common.{rules, sym, subst}
use Rattle.kb_share.specs.Finding.{Knows}
use Rattle.kb_share.specs.declared.finding.Finder.{Finder}
use Rattle.kb_share.proofs.Balanced.{known_inverses}
use Rattle.kb_threads.proofs.Settled.{settled_so}
use Rattle.kb_threads.proofs.settling.settle_by.Goals as goal

pub settle_in_parts-requires-after_bounds : goal.settle_in_parts-requires-after_bounds
settle_in_parts-requires-after_bounds g c κs within =
    let state = c.args.book.course.state in
    subst (λ (finder : Finder). Knows finder state) (sym c.replace-finder_of_book.ensures.value)
    (known_inverses c.args.finder.now c.balance.new.self state c.requires)

pub returns-clause-settles : goal.returns-clause-settles
returns-clause-settles g c =
    settled_so c.args.book.course (c.in_ok-settling.settling, c.in_ok-settling.settled) (λ none. search rules) c.in_ok-settling.ensures
