use Rattle.std.proofs.Common.{◌≡◌, ℕ, true, false, length, get_or, set, sym, ap, ◌∙◌, subst, arith}
use Rattle.std.specs.Slice.Iter.{iter_rest}
use Rattle.std.specs.Iterator.Adapters.{zip_first, zip_second}
use Rattle.std.proofs.lemmas.List.{length_push}
use Rattle.std.proofs.lemmas.Slice.Zip.{zip_turn}
use Rattle.kb_padding.specs.Cleaning.{pads, ArePaddedTargets}
use Rattle.kb_padding.proofs.PaddingReach.{ArePaddedTargets-marked}
use Rattle.kb_padding.proofs.misplaced.padded_targets.Goals as goal

pub loop-target-preserved-then-pads : goal.loop-target-preserved-then-pads
loop-target-preserved-then-pads c =
    let edges = c.args.moves.now.edges.items in
    let symbols = c.args.moves.now.symbols.items in
    let marks = c.args.marks.now in
    let place = length c.loop-target.yielded in
    let first : iter_rest (zip_first c.into_iter-target-iterator.result) ≡ edges = cc in
    let second : iter_rest (zip_second c.into_iter-target-iterator.result) ≡ symbols = cc in
    let turn = zip_turn edges symbols c.loop-target.yielded c.into_iter-target-iterator.result c.loop-target.target-iterator c.next.new.self c.next.result
    first second c.loop-target.yielded_by (c.in-Some.field-0-0, c.in-Some.symbol) c.in-Some.is c.next.ensures.steps in
    let edge : c.in-Some.field-0-0.now ≡ get_or edges place (0, 0) = turn.2 (0, 0) in
    let symbol : c.in-Some.symbol.now ≡ get_or symbols place 0 = turn.3 0 in
    let bound = c.requires.targets place (0, 0) turn.0 in
    let target = ap (λ e. e.0) edge in
    let one_each = c.loop-target.invariant.one_each in
    let marked = ArePaddedTargets-marked c.loop-target.invariant c.in-Some.field-0-0.now.0 (sym target) (omega arith) (record {
      from_marked = sym (ap (λ e. get_or marks e.1 false) edge) ∙ sym c.is_marked.ensures ∙ c.if-is_marked.true;
      is_padded = sym (ap (pads c.args.track c.args.n) symbol) ∙ sym c.pads.ensures ∙ c.if-pads.true;
    }) in
    subst (λ (done : ℕ). ArePaddedTargets c.args.track c.args.n edges symbols marks done (set c.loop-target.targets.items c.in-Some.field-0-0.now.0 true))
    (sym (length_push c.loop-target.yielded (c.in-Some.field-0-0, c.in-Some.symbol))) marked
