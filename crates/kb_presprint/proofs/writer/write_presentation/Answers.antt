use Rattle.std.proofs.Common.{◌≡◌, ◌++◌, ◌∙◌, sym, ap}
use Rattle.kb_word.specs.Presentations.{parts_of}
use Rattle.kb_record.specs.Tree.{list_value}
use Rattle.kb_layout.specs.Layout.{text_of_value}
use Rattle.kb_fields.specs.Fields.{list_of_names}
use Rattle.kb_layout.proofs.WrittenTexts.{to_come, text_more, all_texts, names_text}
use Rattle.kb_presprint.specs.Printed.{truth_name, order_name, inverses_value, rules_value, text_of_presentation}
use Rattle.kb_presprint.proofs.Writings.{whole_texts, whole_text}
use Rattle.kb_presprint.proofs.writer.write_presentation.Goals as goal

pub returns : goal.returns
unfolding text_of_presentation
returns c =
    let parts = parts_of c.args.presentation.now in
    let names = list_value (list_of_names parts.names) in
    let inverses = inverses_value parts.names parts.inverses in
    let equations = rules_value parts.names c.args.rules.now in
    let truth : c.extend_from_slice-2.new.self.items ≡ c.extend_from_slice.new.self.items ++ truth_name c.args.confluent =
    c.in_ok-extend_from_slice-2.ensures.items ∙ ap (λ t. c.extend_from_slice.new.self.items ++ t) (c.as_bytes.ensures.value ∙ c.truth_name.ensures) in
    let order : c.extend_from_slice-4.new.self.items ≡ c.extend_from_slice-3.new.self.items ++ order_name parts.order =
    c.in_ok-extend_from_slice-4.ensures.items ∙ ap (λ t. c.extend_from_slice-3.new.self.items ++ t) (c.as_bytes-2.ensures.value ∙ c.order_name.ensures) in
    let generators = c.in_ok-print_names.ensures ∙ ap (λ t. c.extend_from_slice-5.new.self.items ++ t) (sym (names_text 1 parts.names)) in
    let inverted = c.in_ok-write_inverses.ensures
    ∙ ap (λ is. c.extend_from_slice-6.new.self.items ++ text_of_value 1 (inverses_value parts.names is)) c.as_slice.ensures in
    let written = all_texts (text_more (text_more (text_more (text_more (text_more (text_more (text_more (text_more (text_more (text_more (text_more (text_more
    (to_come c.args.out.now.items (whole_texts (truth_name c.args.confluent) parts.order names inverses equations))
    c.in_ok-extend_from_slice.ensures.items) truth) c.in_ok-extend_from_slice-3.ensures.items) order) c.in_ok-extend_from_slice-5.ensures.items)
    generators) c.in_ok-write_weight_line.ensures) c.in_ok-extend_from_slice-6.ensures.items) inverted) c.in_ok-extend_from_slice-7.ensures.items)
    c.in_ok-write_rules.ensures) c.in_ok-extend_from_slice-8.ensures.items) in
    written ∙ ap (λ t. c.args.out.now.items ++ t) (whole_text (truth_name c.args.confluent) parts.order names inverses equations)
