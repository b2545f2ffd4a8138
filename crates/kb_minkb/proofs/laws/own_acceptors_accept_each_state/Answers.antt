use Rattle.kb_minkb.proofs.OwnRules.{each_state_accepts}
use Rattle.kb_minkb.proofs.laws.own_acceptors_accept_each_state.Goals as goal

pub returns : goal.returns
returns c order relations acceptor multipliers own canonical = each_state_accepts own canonical
