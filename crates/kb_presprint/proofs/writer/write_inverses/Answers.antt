use Rattle.std.proofs.Common.{◌++◌, ◌∙◌, ap, arith}
use Rattle.kb_layout.proofs.PrintedPieces.{pieces_end}
use Rattle.kb_presprint.proofs.Writings.{inverses_line}
use Rattle.kb_presprint.proofs.writer.write_inverses.Goals as goal

pub returns : goal.returns
returns c =
    let inverses = c.args.inverses.now in
    pieces_end _ _ _ inverses _ _ _ _ c.loop-inverse.inverse-index c.push-2.new.self.items c.loop-inverse.invariant (omega arith)
    c.in_ok-push-2.ensures.items
    ∙ ap (λ t. c.args.out.now.items ++ t) (inverses_line c.args.names.now inverses)
