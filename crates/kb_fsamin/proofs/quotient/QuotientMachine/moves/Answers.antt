use Rattle.std.proofs.Common.{◌≡◌, Ok, sym, subst, rules}
use Rattle.std.proofs.lemmas.Iterator.{YieldsList-from_slice, items_from_collect}
use Rattle.std.proofs.lemmas.Iterator.Consumers.{YieldsList-at, YieldsList-from_filter_map}
use Rattle.std.specs.declared.alloc.AllocError.{AllocError}
use borrow.Author.Tests.{tests}
use Rattle.kb_fsa.specs.Table.{Moves, moves_of}
use Rattle.kb_fsa.specs.Language.{symbols}
use Rattle.kb_explore.specs.Machine.{AreMovesOf}
use Rattle.kb_fsamin.specs.Quotient.{quotient_of, represented_move, represented_moves}
use Rattle.kb_fsamin.proofs.RepresentedMoves.{quotient_moves}
use Rattle.kb_fsamin.proofs.quotient.QuotientMachine.moves.Goals as goal

pub returns : goal.returns
returns c =
    let automaton = c.args.self.now.fsa.now in
    let listed = c.args.self.now.representatives.now in
    let state = c.args.state.now in
    let source = YieldsList-at c.filter_map.ensures.source (YieldsList-from_slice (moves_of automaton.table state) (search rules)) in
    let is : c.in_ok-moves.moves.items ≡ represented_moves listed (moves_of automaton.table state) =
    items_from_collect {E = AllocError} (Ok c.in_ok-moves.moves) c.in_ok-moves.ensures.ran
    (YieldsList-from_filter_map _ (represented_move listed) source c.filter_map.ensures.closure (λ x r q k. search (rules, tests))) in
    let P : Moves → Type 0 = λ moves. AreMovesOf (quotient_of automaton.table listed) (symbols automaton.alphabet) state moves in
    subst P (sym is) (quotient_moves automaton c.table.ensures.automaton listed state)
