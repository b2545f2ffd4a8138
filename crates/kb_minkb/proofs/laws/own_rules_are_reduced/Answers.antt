use Rattle.kb_minkb.proofs.OwnRules.{rule_is_reduced, reduced_is_rule, reduced_no_longer}
use Rattle.kb_minkb.proofs.laws.own_rules_are_reduced.Goals as goal

pub returns : goal.returns
returns c relations acceptor multipliers own left right =
    ((λ rule. rule_is_reduced own left right rule), λ is. reduced_is_rule own left right is (reduced_no_longer relations left right is))
