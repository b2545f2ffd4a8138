use Rattle.kb_rules.proofs.Lists.{from_end}
use Rattle.kb_minkb.proofs.OwnRules.{left_side_of_rule, rule_of_left_side}
use Rattle.kb_minkb.proofs.laws.own_left_sides_are_reduced.Goals as goal

pub returns : goal.returns
returns c order relations acceptor multipliers own images w =
    ((λ left. rule_of_left_side own images w (from_end w) left), λ rule. left_side_of_rule own (w, rule.0) rule.1)
