use Rattle.std.proofs.Common.{◌≡◌, false, length, get_or, refl, sym, ap, ◌∙◌}
use Rattle.std.specs.Slice.Iter.{iter_rest}
use Rattle.std.specs.Iterator.Adapters.{zip_first, zip_second}
use Rattle.std.proofs.lemmas.Slice.Zip.{zip_turn}
use Rattle.kb_padding.specs.Cleaning.{is_misplaced}
use Rattle.kb_padding.proofs.misplaced.accepts_misplaced.Goals as goal

pub returns-then-is_misplaced : goal.returns-then-is_misplaced
returns-then-is_misplaced c =
    let edges = c.args.moves.now.edges.items in
    let symbols = c.args.moves.now.symbols.items in
    let reach = c.args.reach.now in
    let place = length c.loop-target.yielded in
    let first : iter_rest (zip_first c.into_iter-target-iterator.result) ≡ edges = cc in
    let second : iter_rest (zip_second c.into_iter-target-iterator.result) ≡ symbols = cc in
    let turn = zip_turn edges symbols c.loop-target.yielded c.into_iter-target-iterator.result c.loop-target.target-iterator c.next.new.self c.next.result
    first second c.loop-target.yielded_by (c.in-Some.field-0-0, c.in-Some.symbol) c.in-Some.is c.next.ensures.steps in
    let edge : c.in-Some.field-0-0.now ≡ get_or edges place (0, 0) = turn.2 (0, 0) in
    let symbol : c.in-Some.symbol.now ≡ get_or symbols place 0 = turn.3 0 in
    let found = sym c.is_misplaced.ensures ∙ c.if-is_misplaced.true in
    let live = sym c.is_marked.ensures ∙ c.if-is_marked.true in (
      λ _. (
        place,
        record {
          within = turn.0;
          misplaced =
              sym (ap (λ e. is_misplaced c.args.n reach.marks.items reach.first.items reach.second.items e.1 c.in-Some.symbol.now) edge
              ∙ ap (is_misplaced c.args.n reach.marks.items reach.first.items reach.second.items (get_or edges place (0, 0)).1) symbol)
              ∙ found;
          live_target = sym (ap (λ e. get_or c.args.live.now e.0 false) edge) ∙ live;
        },
      ),
      λ _. refl,
    )
