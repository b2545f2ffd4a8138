use Rattle.std.proofs.Common.{◌++◌, ◌∙◌, ap, arith}
use Rattle.kb_layout.proofs.PrintedPieces.{pieces_end}
use Rattle.kb_fsaprint.proofs.Writings.{move_pieces}
use Rattle.kb_fsaprint.proofs.writer.write_moves.Goals as goal

pub returns : goal.returns
returns c =
    let moves = c.args.moves.now in
    pieces_end _ _ _ moves _ _ _ _ c.loop-entry.entry-index c.push-2.new.self.items c.loop-entry.invariant (omega arith)
    c.in_ok-push-2.ensures.items
    ∙ ap (λ t. c.args.out.now.items ++ t) (move_pieces moves)
