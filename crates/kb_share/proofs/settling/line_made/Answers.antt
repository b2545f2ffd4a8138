use Rattle.kb_share.proofs.Balanced.{balances_goes_on, balances_stays, goes_on_by, goes_on_then_by, known_inverses, knows_balanced}
use Rattle.kb_share.proofs.settling.line_made.Goals as goal

pub returns-in_err-simplify-clause-goes_on : goal.returns-in_err-simplify-clause-goes_on
returns-in_err-simplify-clause-goes_on g c =
    goes_on_by 2 c.args.book.now.course c.simplify.new.book.course c.simplify.ensures.goes_on

pub returns-in_err-balance-clause-goes_on : goal.returns-in_err-balance-clause-goes_on
returns-in_err-balance-clause-goes_on g c =
    let middle = c.simplify.new.book.course in
    let after = c.balance.new.book.course in
    goes_on_then_by 2 c.args.book.now.course middle after c.simplify.ensures.goes_on (balances_goes_on 2 middle after c.balance.ensures)

pub returns-clause-goes_on : goal.returns-clause-goes_on
returns-clause-goes_on g c =
    let middle = c.simplify.new.book.course in
    let after = c.balance.new.book.course in
    goes_on_then_by 2 c.args.book.now.course middle after c.simplify.ensures.goes_on (balances_goes_on 2 middle after c.balance.ensures)

pub returns-clause-known : goal.returns-clause-known
returns-clause-known g c =
    let finder = c.simplify.new.finder in
    let middle = c.simplify.new.book.course in
    let after = c.balance.new.book.course in
    known_inverses finder c.balance.new.inverses after.state
    (knows_balanced 2 finder middle after c.balance.ensures c.in_ok-simplify.ensures.known)

pub returns-clause-reduced : goal.returns-clause-reduced
returns-clause-reduced g c = λ start takes.
    balances_stays 2 start c.simplify.new.book.course c.balance.new.book.course c.balance.ensures
    (c.in_ok-simplify.ensures.reduced start takes)
