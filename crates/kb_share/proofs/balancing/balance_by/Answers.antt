use Rattle.kb_share.proofs.Balanced.{balances_one}
use Rattle.kb_share.proofs.balancing.balance_by.Goals as goal

pub returns-in_ok-balance : goal.returns-in_ok-balance
returns-in_ok-balance g c =
    balances_one c.in-Some.one c.args.book.now.course c.balance.new.self.course c.balance.result c.balance.ensures
