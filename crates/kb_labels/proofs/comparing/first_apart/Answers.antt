use Rattle.std.proofs.Common.{◌≡◌, ◌<◌, ◌≤◌, length, ℕ, suc, ◌+◌, List, get_or, sym, ap, ◌∙◌, subst, refl, arith}
use Rattle.std.proofs.lemmas.List.{get_or_default}
use Rattle.kb_fsa.specs.Table.{HasSymbols}
use Rattle.kb_fsa.specs.Language.{generators, symbols}
use Rattle.kb_fsa.specs.Graphs.{source, end}
use Rattle.kb_fsa.specs.PairSymbols.{pair_symbols}
use Rattle.kb_diff.specs.Groups.{group_of}
use Rattle.kb_labels.specs.Comparing.{Compares, IsMoveWord}
use Rattle.kb_labels.proofs.MoveWords.{no_moves, one_more_move, move_symbol}
use Rattle.kb_labels.proofs.comparing.first_apart.Goals as goal

pub loop-number-init : goal.loop-number-init
loop-number-init g c =
    no_moves (group_of c.args.presentation.now (g.R.Reducer.rules c.args.reducer.now)) c.args.presentation.now.order
    c.args.placed.now.states.keys c.args.placed.now.labels.items c.args.multiplier.now.table c.args.x
    c.args.moves.now.edges.items c.args.moves.now.symbols.items c.in_ok-found.found c.in_ok-found.ensures

pub compare_move-requires-clause-generators : goal.compare_move-requires-clause-generators
compare_move-requires-clause-generators g c =
    omega (arith, c.requires.automaton.generators, ap generators c.requires.alphabet)

pub compare_move-requires-clause-symbol : goal.compare_move-requires-clause-symbol
compare_move-requires-clause-symbol g c =
    let moves = c.args.moves.now in
    let number : ℕ = c.loop-number.number in
    let n : ℕ = c.args.presentation.now.n in
    let P : ℕ → Type 0 = λ k. HasSymbols k c.args.multiplier.now.table in
    let has : HasSymbols (pair_symbols n) c.args.multiplier.now.table = subst P (ap symbols c.requires.alphabet) c.requires.automaton.symbols in
    let within : number < length moves.edges.items = omega (arith, c.loop-number-test.true, c.len-number-end.ensures, moves.edges.ok.0) in
    let symbol_within : number < length moves.symbols.items = omega (arith, within, c.requires.moves.one_each) in
    let is = c.index-in-loop-number.ensures ∙ get_or_default moves.symbols.items number c.index-in-loop-number.result.now 0 symbol_within in
    let most = move_symbol c.args.multiplier.now.table moves.edges.items moves.symbols.items (pair_symbols n)
    (suc (length c.args.multiplier.now.table.rows)) 0 number has c.requires.moves within in
    let Q : ℕ → Type 0 = λ s. s ≤ pair_symbols n in
    subst Q (sym is) most

pub loop-number-preserved : goal.loop-number-preserved
loop-number-preserved g c =
    let group = group_of c.args.presentation.now (g.R.Reducer.rules c.args.reducer.now) in
    let order = c.args.presentation.now.order in
    let states : List ℕ = c.args.placed.now.states.keys in
    let labels : List (List ℕ) = c.args.placed.now.labels.items in
    let moves = c.args.moves.now in
    let edges = moves.edges.items in
    let symbols : List ℕ = moves.symbols.items in
    let number : ℕ = c.loop-number.number in
    let within : number < length edges = omega (arith, c.loop-number-test.true, c.len-number-end.ensures, moves.edges.ok.0) in
    let symbol_within : number < length symbols = omega (arith, within, c.requires.moves.one_each) in
    let edge : c.index.result.now ≡ get_or edges number (0, 0) =
    c.index.ensures ∙ get_or_default edges number c.index.result.now (0, 0) within in
    let symbol : c.index-in-loop-number.result.now ≡ get_or symbols number 0 =
    c.index-in-loop-number.ensures ∙ get_or_default symbols number c.index-in-loop-number.result.now 0 symbol_within in
    let P : ℕ × ℕ → Type 0 = λ e.
    Compares order labels (IsMoveWord group states labels e.1 c.index-in-loop-number.result.now e.0) c.loop-number.found c.compare_move.new.found in
    let Q : ℕ → Type 0 = λ s.
    Compares order labels (IsMoveWord group states labels (end edges number) s (source edges number)) c.loop-number.found c.compare_move.new.found in
    one_more_move group order states labels c.args.multiplier.now.table c.args.x edges symbols number (number + 1) c.loop-number.found
    c.compare_move.new.found refl c.loop-number.invariant (subst Q symbol (subst P edge c.in_ok-compare_move.ensures))
