use Rattle.std.proofs.Common.{arith, ◌≡◌, ◌≤◌, length, slice_get, slice_index_or, Some, ap, ◌∙◌, sym}
use Rattle.std.specs.List.{slice_range}
use Rattle.std.proofs.lemmas.Option.{slice_get_past, slice_get-get_or}
use Rattle.kb_ragged.specs.Cuts.{cut}
use Rattle.kb_ragged.proofs.RaggedLemmas.{length-cut, cut-at, end-after, end-within}
use Rattle.kb_ragged.proofs.ragged.piece.Goals as goal

pub returns-then-place-ends : goal.returns-then-place-ends
returns-then-place-ends g c =
    let past : length c.args.ends.now ≤ c.args.place = omega (arith, c.if-place-ends.true) in
    let pieces = length-cut 0 c.args.ends.now c.args.items.now in
    slice_get_past (cut 0 c.args.ends.now c.args.items.now) c.args.place (omega (arith, past, pieces))

pub range-requires : goal.range-requires
range-requires g c =
    let end = slice_index_or c.args.ends.now c.args.place 0 in
    let found : slice_get c.args.ends.now c.args.place ≡ Some end = slice_get-get_or c.args.ends.now c.args.place 0 (omega (arith, c.if-place-ends.false)) in
    let after = end-after 0 c.args.ends.now (length c.args.items.now) c.args.place end c.requires found in
    let within = end-within 0 c.args.ends.now (length c.args.items.now) c.args.place end c.requires found in
    let begins = c.beginning.ensures in
    (omega (arith, after, begins), within)

pub returns : goal.returns
returns g c =
    let end = slice_index_or c.args.ends.now c.args.place 0 in
    let found : slice_get c.args.ends.now c.args.place ≡ Some end = slice_get-get_or c.args.ends.now c.args.place 0 (omega (arith, c.if-place-ends.false)) in
    cut-at 0 c.args.ends.now c.args.items.now c.args.place end found
    ∙ ap (λ start. Some (slice_range c.args.items.now start end)) (sym c.beginning.ensures)
    ∙ ap Some (sym c.range.ensures)
