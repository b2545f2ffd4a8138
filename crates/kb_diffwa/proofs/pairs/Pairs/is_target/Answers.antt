use Rattle.std.proofs.Common.{ℕ, nat_eq, rules, tests}
use Rattle.std.proofs.lemmas.Iterator.{YieldsList-from_slice}
use Rattle.std.proofs.lemmas.Iterator.Search.{any_from_yields_List}
use Rattle.kb_diffwa.proofs.pairs.Pairs.is_target.Goals as goal

pub returns : goal.returns
returns c =
    any_from_yields_List (λ (target : ℕ). nat_eq target c.args.difference) _ _ c.any.result c.any.ensures.ran
    (YieldsList-from_slice c.args.self.now.targets.now cc) (λ x b q k. search (rules, tests))
