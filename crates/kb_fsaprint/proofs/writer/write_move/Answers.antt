use Rattle.kb_layout.proofs.WrittenTexts.{to_come, text_more, all_texts}
use Rattle.kb_fsaprint.proofs.Writings.{move_texts}
use Rattle.kb_fsaprint.proofs.writer.write_move.Goals as goal

pub returns : goal.returns
returns c =
    all_texts (text_more (text_more (text_more (text_more (text_more
    (to_come c.args.out.now.items (move_texts c.args.symbol c.args.target))
    c.in_ok-push.ensures.items) c.in_ok-write_number.ensures) c.in_ok-push-2.ensures.items) c.in_ok-write_number-2.ensures)
    c.in_ok-push-3.ensures.items)
