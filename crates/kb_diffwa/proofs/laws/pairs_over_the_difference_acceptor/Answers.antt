use Rattle.kb_diffwa.proofs.laws.pairs_over_the_difference_acceptor.Goals as goal

pub returns : goal.returns
returns c group words acceptor x u v same = (
  λ is. record { first = (same u).0 is.first; second = (same v).0 is.second; end = is.end; normal = is.normal; leads = is.leads },
  λ is. record { first = (same u).1 is.first; second = (same v).1 is.second; end = is.end; normal = is.normal; leads = is.leads },
)
