use Rattle.std.proofs.Common.{◌≡◌, Ok, sym, subst, rules}
use Rattle.std.proofs.lemmas.Iterator.{YieldsList-from_slice, items_from_collect}
use Rattle.std.proofs.lemmas.Iterator.Consumers.{YieldsList-at, YieldsList-from_filter_map}
use Rattle.std.specs.declared.alloc.AllocError.{AllocError}
use borrow.Author.Tests.{tests}
use Rattle.kb_fsa.specs.Table.{Moves, moves_of}
use Rattle.kb_fsa.specs.Language.{symbols}
use Rattle.kb_explore.specs.Machine.{AreMovesOf}
use Rattle.kb_labels.specs.LivePart.{marked_part, marked_move, marked_moves}
use Rattle.kb_labels.proofs.MarkedMoves.{part_moves}
use Rattle.kb_labels.proofs.live_part.MarkedPartMachine.moves.Goals as goal

pub returns : goal.returns
returns c =
    let automaton = c.args.self.now.fsa.now in
    let marks = c.args.self.now.marks.now in
    let state = c.args.state.now in
    let source = YieldsList-at c.filter_map.ensures.source (YieldsList-from_slice (moves_of automaton.table state) (search rules)) in
    let is : c.in_ok-moves.moves.items ≡ marked_moves marks (moves_of automaton.table state) =
    items_from_collect {E = AllocError} (Ok c.in_ok-moves.moves) c.in_ok-moves.ensures.ran
    (YieldsList-from_filter_map _ (marked_move marks) source c.filter_map.ensures.closure (λ x r q k. search (rules, tests))) in
    let P : Moves → Type 0 = λ moves. AreMovesOf (marked_part automaton.table marks) (symbols automaton.alphabet) state moves in
    subst P (sym is) (part_moves automaton c.table.ensures.automaton marks state)
