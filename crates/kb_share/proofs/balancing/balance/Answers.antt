use Rattle.kb_share.proofs.Balanced.{balances_fewer, balances_then}
use Rattle.kb_share.proofs.balancing.balance.Goals as goal

pub returns-in_err-balance_by : goal.returns-in_err-balance_by
returns-in_err-balance_by g c = balances_fewer c.args.book.now.course c.balance_by.new.book.course c.balance_by.ensures

pub returns : goal.returns
returns g c =
    balances_then c.args.book.now.course c.balance_by.new.book.course c.balance_by-2.new.book.course c.balance_by.ensures
    c.balance_by-2.ensures
