use Rattle.std.proofs.Common.{◌++◌, ◌∙◌, ap, arith}
use Rattle.kb_layout.specs.Layout.{text_of_value}
use Rattle.kb_layout.proofs.PrintedPieces.{table_end}
use Rattle.kb_presprint.proofs.Writings.{rule_place, rules_listed, rules_are_table}
use Rattle.kb_presprint.proofs.writer.write_rule_lines.Goals as goal

pub returns : goal.returns
returns c =
    let names = c.args.names.now in
    let rules = c.args.rules.now in
    table_end 1 (rule_place names) rules _ _ _ c.loop-rule.rule-index c.extend_from_slice-2.new.self.items (rules_are_table names rules c.requires)
    c.loop-rule.invariant (omega arith) c.in_ok-extend_from_slice-2.ensures.items
    ∙ ap (λ v. c.args.out.now.items ++ text_of_value 1 v) (rules_listed names rules)
