use Rattle.std.proofs.Common.{◌≡◌, ◌++◌, ◌∙◌, ap}
use Rattle.kb_record.specs.Tree.{list_value}
use Rattle.kb_layout.specs.Layout.{text_of_value}
use Rattle.kb_fsaprint.specs.Printed.{format_name, rows_places, move_count}
use Rattle.kb_fsaprint.specs.Writing.{number_text}
use Rattle.kb_layout.proofs.WrittenTexts.{to_come, text_more, all_texts}
use Rattle.kb_fsaprint.proofs.Writings.{table_texts, table_record}
use Rattle.kb_fsaprint.proofs.writer.write_table.Goals as goal

pub returns : goal.returns
returns c =
    let format = c.args.format in
    let rows = c.args.table.now.rows in
    let transitions = list_value (rows_places format rows) in
    let name : c.extend_from_slice-2.new.self.items ≡ c.extend_from_slice.new.self.items ++ format_name format =
    c.in_ok-extend_from_slice-2.ensures.items ∙ ap (λ t. c.extend_from_slice.new.self.items ++ t) (c.as_bytes.ensures.value ∙ c.name.ensures) in
    let count : c.write_move_count.new.out.items ≡ c.extend_from_slice-3.new.self.items ++ number_text (move_count rows) =
    c.in_ok-write_move_count.ensures ∙ ap (λ rs. c.extend_from_slice-3.new.self.items ++ number_text (move_count rs)) c.rows.ensures.rows in
    let written = c.in_ok-write_rows.ensures
    ∙ ap (λ rs. c.extend_from_slice-4.new.self.items ++ text_of_value 2 (list_value (rows_places format rs))) c.rows-2.ensures.rows in
    all_texts (text_more (text_more (text_more (text_more (text_more (text_more (text_more
    (to_come c.args.out.now.items (table_texts (format_name format) (move_count rows) transitions))
    c.in_ok-extend_from_slice.ensures.items) name) c.in_ok-extend_from_slice-3.ensures.items) count) c.in_ok-extend_from_slice-4.ensures.items) written)
    c.in_ok-extend_from_slice-5.ensures.items)
    ∙ ap (λ t. c.args.out.now.items ++ t) (table_record (format_name format) (move_count rows) transitions)
