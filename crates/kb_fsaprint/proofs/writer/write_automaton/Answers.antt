use Rattle.std.proofs.Common.{◌++◌, ◌∙◌, length, ap}
use Rattle.kb_record.specs.Tree.{record_value}
use Rattle.kb_layout.specs.Layout.{text_of_value}
use Rattle.kb_fsaprint.specs.Printed.{alphabet_fields, accepting_value, format_of, table_fields, text_of_automaton}
use Rattle.kb_fsaprint.specs.Writing.{number_text}
use Rattle.kb_layout.proofs.WrittenTexts.{to_come, text_more, all_texts}
use Rattle.kb_fsaprint.proofs.Writings.{whole_texts, whole_text}
use Rattle.kb_fsaprint.proofs.writer.write_automaton.Goals as goal

pub returns : goal.returns
unfolding text_of_automaton
returns c =
    let automaton = c.args.fsa.now in
    let names = c.args.names.now in
    let rows = automaton.table.rows in
    let alphabet = record_value (alphabet_fields automaton.alphabet names) in
    let accepting = accepting_value automaton.table.accepting in
    let table = record_value (table_fields (format_of automaton.alphabet) rows) in
    let letters = c.in_ok-write_alphabet.ensures
    ∙ ap (λ a. c.extend_from_slice.new.self.items ++ text_of_value 1 (record_value (alphabet_fields a names))) c.alphabet-alphabet.ensures.alphabet in
    let count = c.in_ok-write_number.ensures ∙ ap (λ n. c.extend_from_slice-2.new.self.items ++ number_text n) c.len.ensures in
    let states = c.in_ok-write_accepting.ensures
    ∙ ap (λ a. c.extend_from_slice-3.new.self.items ++ text_of_value 1 (accepting_value a)) (c.accepting.ensures.accepting ∙ ap (λ t. t.accepting) c.table.ensures.table) in
    let moves = c.in_ok-write_table.ensures
    ∙ ap (λ f. c.extend_from_slice-4.new.self.items ++ text_of_value 1 (record_value (table_fields f c.table-2.result.now.rows)))
    (c.of_alphabet.ensures ∙ ap format_of c.alphabet-alphabet.ensures.alphabet)
    ∙ ap (λ t. c.extend_from_slice-4.new.self.items ++ text_of_value 1 (record_value (table_fields (format_of automaton.alphabet) t.rows))) c.table-2.ensures.table in
    let written = all_texts (text_more (text_more (text_more (text_more (text_more (text_more (text_more (text_more (text_more
    (to_come c.args.out.now.items (whole_texts alphabet accepting table (length rows)))
    c.in_ok-extend_from_slice.ensures.items) letters) c.in_ok-extend_from_slice-2.ensures.items) count) c.in_ok-extend_from_slice-3.ensures.items)
    states) c.in_ok-extend_from_slice-4.ensures.items) moves) c.in_ok-extend_from_slice-5.ensures.items) in
    written ∙ ap (λ t. c.args.out.now.items ++ t) (whole_text alphabet accepting table (length rows))
