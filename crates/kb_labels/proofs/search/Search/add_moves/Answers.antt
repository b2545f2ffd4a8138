use Rattle.std.proofs.Common.{◌≡◌, ℕ, ◌<◌, length, get_or, sym, ap, ◌∙◌, subst, arith}
use Rattle.kb_fsa.specs.Table.{IsRow, Moves, Table, moves_of, step}
use Rattle.kb_fsa.specs.PairSymbols.{pair_symbols}
use Rattle.kb_diff.specs.Groups.{group_of}
use Rattle.kb_labels.proofs.LayerMoves.{move_symbol, move_target, moves_begin, moves_more, moves_end}
use Rattle.kb_labels.proofs.search.Search.add_moves.Goals as goal

pub loop-symbol-init : goal.loop-symbol-init
loop-symbol-init g c =
    let it = c.args.self.now in
    let group = group_of it.presentation.now (g.R.Reducer.rules it.reducer.now) in
    let table = it.multiplier.now.table in
    moves_begin group table c.args.config.now c.args.word.now c.args.next.now.configs.keys c.args.next.now.words.items c.requires.one_each

pub add_move-requires-clause-symbol : goal.add_move-requires-clause-symbol
add_move-requires-clause-symbol g c =
    let it = c.args.self.now in
    let group = group_of it.presentation.now (g.R.Reducer.rules it.reducer.now) in
    let table = it.multiplier.now.table in
    let state = c.args.config.now.state in
    let items : Moves = c.as_slice-symbol-items.result.now in
    let is : items ≡ moves_of table state =
    c.as_slice-symbol-items.ensures.value ∙ c.moves.ensures.moves ∙ ap (λ (t : Table). moves_of t state) c.table.ensures.table in
    let place : ℕ = c.loop-symbol.symbol-index in
    let P : Moves → Type 0 = λ moves. place < length moves in
    let k : ℕ = pair_symbols it.presentation.now.n in
    let low = move_symbol table state k place c.requires.symbols (subst P is c.loop-symbol-test.true) in
    let same = ap (λ (moves : Moves). (get_or moves place (0, 0)).0) is in omega arith

pub add_move-requires-clause-target : goal.add_move-requires-clause-target
add_move-requires-clause-target g c =
    let it = c.args.self.now in
    let group = group_of it.presentation.now (g.R.Reducer.rules it.reducer.now) in
    let table = it.multiplier.now.table in
    let state = c.args.config.now.state in
    let items : Moves = c.as_slice-symbol-items.result.now in
    let is : items ≡ moves_of table state =
    c.as_slice-symbol-items.ensures.value ∙ c.moves.ensures.moves ∙ ap (λ (t : Table). moves_of t state) c.table.ensures.table in
    let place : ℕ = c.loop-symbol.symbol-index in
    let P : Moves → Type 0 = λ moves. place < length moves in
    let T : Table → Type 0 = λ t. IsRow (moves_of t state) in
    let Q : Moves → Type 0 = λ moves. step table state (get_or moves place (0, 0)).0 ≡ (get_or moves place (0, 0)).1 in
    subst Q (sym is)
    (move_target (moves_of table state) place (subst T c.table.ensures.table c.moves.ensures.row) (subst P is c.loop-symbol-test.true))

pub add_move-requires-clause-one_each : goal.add_move-requires-clause-one_each
add_move-requires-clause-one_each g c = c.loop-symbol.invariant.one_each

pub loop-symbol-preserved : goal.loop-symbol-preserved
loop-symbol-preserved g c =
    let it = c.args.self.now in
    let group = group_of it.presentation.now (g.R.Reducer.rules it.reducer.now) in
    let table = it.multiplier.now.table in
    let from = c.args.config.now in
    let items : Moves = c.as_slice-symbol-items.result.now in
    let is : items ≡ moves_of table from.state =
    c.as_slice-symbol-items.ensures.value ∙ c.moves.ensures.moves ∙ ap (λ (t : Table). moves_of t from.state) c.table.ensures.table in
    let place : ℕ = c.loop-symbol.symbol-index in
    moves_more group table from c.args.word.now place (get_or items place (0, 0)).0 c.args.next.now.configs.keys c.args.next.now.words.items
    c.loop-symbol.next.configs.keys c.loop-symbol.next.words.items c.add_move.new.next.configs.keys c.add_move.new.next.words.items
    (ap (λ (moves : Moves). (get_or moves place (0, 0)).0) is) c.loop-symbol.invariant c.in_ok-add_move.ensures

pub returns : goal.returns
returns g c =
    let it = c.args.self.now in
    let group = group_of it.presentation.now (g.R.Reducer.rules it.reducer.now) in
    let table = it.multiplier.now.table in
    let from = c.args.config.now in
    let items : Moves = c.as_slice-symbol-items.result.now in
    let is : items ≡ moves_of table from.state =
    c.as_slice-symbol-items.ensures.value ∙ c.moves.ensures.moves ∙ ap (λ (t : Table). moves_of t from.state) c.table.ensures.table in
    moves_end group table from c.args.word.now c.loop-symbol.symbol-index c.args.next.now.configs.keys c.args.next.now.words.items
    c.loop-symbol.next.configs.keys c.loop-symbol.next.words.items (let count = ap length is in omega (arith, c.loop-symbol-test.false))
    c.loop-symbol.invariant
