use Rattle.std.proofs.Common.{◌≡◌, ◌++◌, ◌+◌, ◌-◌, ◌∙◌, ℕ, suc, [], ap, subst, arith}
use Rattle.std.specs.Prelude.{codes}
use Rattle.kb_layout.specs.Printing.{pieces}
use Rattle.kb_layout.proofs.PrintedPieces.{pieces_start}
use Rattle.kb_fsaprint.specs.Printed.{targets_from}
use Rattle.kb_fsaprint.specs.Writing.{number_text, IsRowPrinted}
use Rattle.kb_fsaprint.proofs.Writings.{number_pieces, pieces_done, row_begun, row_next}
use Rattle.kb_fsaprint.proofs.writer.write_targets.Goals as goal

pub loop-place-init : goal.loop-place-init
loop-place-init c =
    let row = c.args.row.now in
    let symbols = c.args.symbols in
    let old = c.args.out.now.items in
    let whole = codes "[" ++ (pieces number_text [] (codes ",") (targets_from row 1 symbols) ++ codes "]") in
    let begun = row_begun row symbols whole old [] c.push.new.self.items c.requires
    (pieces_start number_text [] (codes ",") (codes "]") (targets_from row 1 symbols) old (codes "[") c.push.new.self.items c.in_ok-push.ensures.items) in
    let same : symbols ≡ symbols - 0 = omega arith in
    subst (λ (columns : ℕ). IsRowPrinted row 1 columns row whole old [] c.push.new.self.items) same begun

pub loop-place-preserved : goal.loop-place-preserved
loop-place-preserved c =
    let row = c.args.row.now in
    let symbols = c.args.symbols in
    let place = c.loop-place.place in
    let old = c.args.out.now.items in
    let whole = codes "[" ++ (pieces number_text [] (codes ",") (targets_from row 1 symbols) ++ codes "]") in
    let more : symbols - place ≡ suc (symbols - (place + 1)) = omega arith in
    row_next c.extend_from_slice.new.self.items c.write_number.new.out.items
    (subst (λ (columns : ℕ). IsRowPrinted row (place + 1) columns c.loop-place.left.now whole old c.loop-place.before.now c.loop-place.out.items) more
    c.loop-place.invariant)
    c.split_at_symbol-target.ensures c.in_ok-extend_from_slice.ensures.items c.in_ok-write_number.ensures

pub returns : goal.returns
returns c =
    let row = c.args.row.now in
    let symbols = c.args.symbols in
    let place = c.loop-place.place in
    let none : symbols - place ≡ 0 = omega arith in
    pieces_done c.push-2.new.self.items c.loop-place.invariant.printed (ap (targets_from row (place + 1)) none) c.in_ok-push-2.ensures.items
    ∙ ap (λ t. c.args.out.now.items ++ t) (number_pieces (targets_from row 1 symbols))
