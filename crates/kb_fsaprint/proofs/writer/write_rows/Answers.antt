use Rattle.std.proofs.Common.{◌++◌, ◌∙◌, ap, arith}
use Rattle.kb_layout.proofs.PrintedPieces.{pieces_end}
use Rattle.kb_fsaprint.proofs.Writings.{row_lines}
use Rattle.kb_fsaprint.proofs.writer.write_rows.Goals as goal

pub returns : goal.returns
returns c =
    let rows = c.args.rows.now in
    pieces_end _ _ _ rows _ _ _ _ c.loop-place.place c.extend_from_slice-2.new.self.items c.loop-place.invariant
    (omega (arith, c.len-place-end.ensures)) c.in_ok-extend_from_slice-2.ensures.items
    ∙ ap (λ t. c.args.out.now.items ++ t) (row_lines c.args.format rows c.requires)
