use Rattle.std.proofs.Common.{◌++◌, ◌∷◌, ◌∙◌, ap}
use Rattle.kb_word.specs.Printed.{text_of_word}
use Rattle.kb_layout.specs.Layout.{indent}
use Rattle.kb_layout.proofs.WrittenTexts.{to_come, text_more, all_texts}
use Rattle.kb_presprint.proofs.Writings.{rule_texts, rule_line}
use Rattle.kb_presprint.proofs.writer.write_rule.Goals as goal

pub returns : goal.returns
returns c =
    let names = c.args.names.now in
    let rule = c.args.rule.now in
    let left = c.in_ok-print_word.ensures.printed ∙ ap (λ w. c.push.new.self.items ++ text_of_word names w) c.left-left.ensures in
    let right = c.in_ok-print_word-2.ensures.printed ∙ ap (λ w. c.push-2.new.self.items ++ text_of_word names w) c.right-right.ensures in
    all_texts (text_more (text_more (text_more (text_more (text_more (text_more
    (to_come c.args.out.now.items (indent 2 ∷ rule_texts names rule))
    c.in_ok-print_indent.ensures.printed) c.in_ok-push.ensures.items) left) c.in_ok-push-2.ensures.items) right)
    c.in_ok-push-3.ensures.items)
    ∙ ap (λ t. c.args.out.now.items ++ (indent 2 ++ t)) (rule_line names rule)
