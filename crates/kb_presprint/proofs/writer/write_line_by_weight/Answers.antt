use Rattle.std.proofs.Common.{◌++◌, ◌∙◌, ap, append_assoc}
use Rattle.std.specs.Prelude.{codes}
use Rattle.kb_layout.specs.Layout.{text_of_value}
use Rattle.kb_layout.proofs.PrintedPieces.{ok_then}
use Rattle.kb_presprint.specs.Printed.{weights_value}
use Rattle.kb_presprint.proofs.writer.write_line_by_weight.Goals as goal

pub returns : goal.returns
returns c =
    let line = text_of_value 1 (weights_value c.args.order.now) in
    ok_then c.write_weights.result c.write_weights.ensures (λ e.
    e ∙ ap (λ ws. c.extend_from_slice.new.self.items ++ text_of_value 1 (weights_value ws)) c.weights.ensures.weights
    ∙ ap (λ t. t ++ line) c.in_ok-extend_from_slice.ensures.items ∙ append_assoc c.args.out.now.items (codes ",\n  weight := ") line)
