use Rattle.kb_share.proofs.Staying.{knows_thins, knows_ages, simplified_left, simplified_right}
use Rattle.kb_share.proofs.Stages.{goes_on_itself, goes_on_then}
use Rattle.kb_share.proofs.simplifying.simplify.Goals as goal

pub returns-in_err-find_longer-clause-goes_on : goal.returns-in_err-find_longer-clause-goes_on
returns-in_err-find_longer-clause-goes_on g c = goes_on_itself c.args.book.now.course

pub returns-in_err-kill_each-clause-goes_on : goal.returns-in_err-kill_each-clause-goes_on
returns-in_err-kill_each-clause-goes_on g c = c.kill_each.ensures.goes_on

pub returns-in_err-find_reducible-clause-goes_on : goal.returns-in_err-find_reducible-clause-goes_on
returns-in_err-find_reducible-clause-goes_on g c = c.kill_each.ensures.goes_on

pub returns-in_err-shorten_each-clause-goes_on : goal.returns-in_err-shorten_each-clause-goes_on
returns-in_err-shorten_each-clause-goes_on g c =
    goes_on_then c.args.book.now.course c.kill_each.new.book.course c.shorten_each.new.book.course c.kill_each.ensures.goes_on
    c.shorten_each.ensures.goes_on

pub returns-clause-goes_on : goal.returns-clause-goes_on
returns-clause-goes_on g c =
    goes_on_then c.args.book.now.course c.kill_each.new.book.course c.shorten_each.new.book.course c.kill_each.ensures.goes_on
    c.shorten_each.ensures.goes_on

pub find_reducible-requires : goal.find_reducible-requires
find_reducible-requires g c =
    knows_thins c.find_longer.new.self c.args.book.now.course c.kill_each.new.book.course c.kill_each.ensures.thins
    c.in_ok-find_longer.ensures.known

pub returns-clause-known : goal.returns-clause-known
returns-clause-known g c =
    knows_ages c.find_reducible.new.self c.kill_each.new.book.course.state c.shorten_each.new.book.course.state
    c.shorten_each.ensures.ages c.in_ok-find_reducible.ensures.known

pub returns-clause-reduced : goal.returns-clause-reduced
returns-clause-reduced g c = λ start takes.
    let old = c.args.book.now.course in
    let middle = c.kill_each.new.book.course in
    let new = c.shorten_each.new.book.course in
    record {
      lefts = simplified_left c.args.k start old middle new c.find_longer.new.self.found.items c.found.result.now takes
          c.in_ok-find_longer.ensures.all c.found.ensures c.in_ok-kill_each.ensures.lefts c.shorten_each.ensures.lefts;
      rights = simplified_right c.args.k start old middle new c.find_reducible.new.self.found.items c.found-2.result.now takes
          c.kill_each.ensures.thins c.in_ok-find_reducible.ensures.all c.found-2.ensures c.in_ok-shorten_each.ensures.rights
          c.book_is_sound.ensures;
    }
