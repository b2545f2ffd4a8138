use Rattle.std.proofs.Common.{◌++◌, ◌∙◌, ap}
use Rattle.kb_record.specs.Tree.{record_value}
use Rattle.kb_fsa.specs.Language.{symbols}
use Rattle.kb_fsa.specs.declared.alphabet.Alphabet.TheVariants.{Pair}
use Rattle.kb_fsaprint.specs.Printed.{names_fields}
use Rattle.kb_fsaprint.specs.Writing.{number_text}
use Rattle.kb_layout.proofs.WrittenTexts.{to_come, text_more, all_texts}
use Rattle.kb_fsaprint.proofs.Writings.{pairs_texts, pairs_record}
use Rattle.kb_fsaprint.proofs.writer.write_pairs.Goals as goal

pub returns : goal.returns
returns c =
    let base = record_value (names_fields c.args.names.now) in
    let size = symbols (Pair c.args.n) in
    let count = c.in_ok-write_number.ensures ∙ ap (λ n. c.extend_from_slice.new.self.items ++ number_text n) c.symbols.ensures in
    all_texts (text_more (text_more (text_more (text_more (text_more
    (to_come c.args.out.now.items (pairs_texts size base))
    c.in_ok-extend_from_slice.ensures.items) count) c.in_ok-extend_from_slice-2.ensures.items) c.in_ok-write_names.ensures)
    c.in_ok-extend_from_slice-3.ensures.items)
    ∙ ap (λ t. c.args.out.now.items ++ t) (pairs_record size base)
