use Rattle.std.proofs.Common.{◌≡◌, ◌&&◌, nat_lt, ap, ◌∙◌}
use Rattle.std.specs.List.{find}
use Rattle.std.specs.Option.{MatchOption}
use Rattle.kb_fsa.specs.Table.{Moves, Table, moves_of}
use Rattle.kb_fsadet.specs.SubsetConstruction.{is_member}
use Rattle.kb_fsarat.specs.Layers.{Layering, NoMove, IsFirstMove}
use Rattle.kb_fsarat.proofs.LayerLemmas.{first_move_from_find, IfSome-from_match, IfNone-from_match}
use Rattle.kb_fsarat.proofs.layers.Layers.first_move.Goals as goal
use Rattle.kb_fsarat.proofs.layers.Layers.first_move.Goals.{After-first_move_into}

found : (c : After-first_move_into) → MatchOption c.first_move_into.result (NoMove c.args.self.now.table c.args.length c.args.state c.args.floor)
    (IsFirstMove c.args.self.now.table c.args.length c.args.state c.args.floor)
found c =
    let own : c.self.inside.table.now ≡ c.args.self.now.table = ap (λ (layers : Layering). layers.table) c.self.view_is in
    let moves = c.as_slice.ensures.value ∙ c.moves.ensures.moves ∙ ap (λ (table : Table). moves_of table c.args.state) own in
    first_move_from_find c.args.self.now.table c.set.result.now c.args.length c.args.state c.args.floor c.first_move_into.result c.set.ensures.table
    c.set.ensures.symbols c.set.ensures.layer
    (c.first_move_into.ensures ∙ ap (λ (moves : Moves). find (λ move. nat_lt c.args.floor move.0 && is_member c.set.result.now move.1) moves) moves)

pub returns-clause-some : goal.returns-clause-some
returns-clause-some c =
    IfSome-from_match (NoMove c.args.self.now.table c.args.length c.args.state c.args.floor)
    (IsFirstMove c.args.self.now.table c.args.length c.args.state c.args.floor) c.first_move_into.result (found c)

pub returns-clause-none : goal.returns-clause-none
returns-clause-none c =
    IfNone-from_match (NoMove c.args.self.now.table c.args.length c.args.state c.args.floor)
    (IsFirstMove c.args.self.now.table c.args.length c.args.state c.args.floor) c.first_move_into.result (found c)
