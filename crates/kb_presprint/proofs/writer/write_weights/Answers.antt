use Rattle.std.proofs.Common.{◌++◌, ◌∙◌, ap, arith}
use Rattle.kb_layout.proofs.PrintedPieces.{list_end}
use Rattle.kb_presprint.proofs.Writings.{weight_place, weights_line}
use Rattle.kb_presprint.proofs.writer.write_weights.Goals as goal

pub returns : goal.returns
returns c =
    let weights = c.args.weights.now in
    list_end weight_place weights _ _ _ c.loop-weight.weight-index c.push-2.new.self.items c.loop-weight.invariant (omega arith) c.in_ok-push-2.ensures.items
    ∙ ap (λ t. c.args.out.now.items ++ t) (weights_line weights)
