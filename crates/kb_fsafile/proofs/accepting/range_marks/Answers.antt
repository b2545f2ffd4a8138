use Rattle.std.proofs.Common.{false, length, ap, ◌∙◌}
use Rattle.std.proofs.lemmas.List.{length-replicate}
use Rattle.kb_fsafile.proofs.NumberLemmas.{range_unmarked}
use Rattle.kb_fsafile.proofs.accepting.range_marks.Goals as goal

pub loop-place-init : goal.loop-place-init
loop-place-init c =
    let none = c.in_ok-marks.ensures.items_if_clones_equal (λ y is. is) in record {
      one_each = ap length none ∙ length-replicate c.args.count false;
      each = range_unmarked c.args.count c.in_ok-marks.marks.items c.args.from c.args.to c.requires.first none;
    }
