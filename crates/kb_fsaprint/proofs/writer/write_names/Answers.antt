use Rattle.std.proofs.Common.{◌≡◌, ◌++◌, ◌+◌, ◌∙◌, suc, ap, arith}
use Rattle.kb_layout.proofs.PrintedPieces.{ok_then}
use Rattle.kb_fsaprint.specs.Writing.{number_text}
use Rattle.kb_layout.proofs.WrittenTexts.{to_come, text_more, all_texts}
use Rattle.kb_fsaprint.proofs.Writings.{names_texts, names_record}
use Rattle.kb_fsaprint.proofs.writer.write_names.Goals as goal

pub returns : goal.returns
returns c =
    let level = c.args.level in
    let names = c.args.names.now in
    let next : level + 1 ≡ suc level = omega arith in
    let count = c.in_ok-write_number.ensures ∙ ap (λ n. c.write_line-2.new.out.items ++ number_text n) c.len.ensures.count in
    let so_far =
    text_more (text_more (text_more (text_more (text_more (text_more (text_more (text_more (text_more
    (to_come c.args.out.now.items (names_texts level (level + 1) names))
    c.in_ok-extend_from_slice.ensures.items) c.in_ok-write_line.ensures) c.in_ok-write_line-2.ensures) count)
    c.in_ok-extend_from_slice-2.ensures.items) c.in_ok-write_line-3.ensures) c.in_ok-write_line-4.ensures) c.in_ok-print_names.ensures)
    c.in_ok-extend_from_slice-3.ensures.items in
    ok_then c.write_line-5.result c.write_line-5.ensures (λ e.
    all_texts (text_more so_far e) ∙ ap (λ t. c.args.out.now.items ++ t) (names_record level (level + 1) names next))
