use Rattle.std.proofs.Common.{ℕ, nat_eq, not, rules, tests}
use Rattle.std.proofs.lemmas.Iterator.{YieldsList-from_slice}
use Rattle.std.proofs.lemmas.Iterator.Search.{any_from_yields_List}
use Rattle.kb_minkb.proofs.state_list.StateList.has_state.Goals as goal

pub returns : goal.returns
returns c =
    any_from_yields_List (λ (state : ℕ). not (nat_eq state 0)) _ _ c.any.result c.any.ensures.ran
    (YieldsList-from_slice c.args.self.now cc) (λ x b q k. search (rules, tests))
