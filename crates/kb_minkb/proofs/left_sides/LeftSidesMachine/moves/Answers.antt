use Rattle.std.proofs.Common.{◌≡◌, ℕ, ◌+◌, List, sym, ap, ◌∙◌, subst, arith}
use Rattle.kb_fsa.specs.Language.{generators}
use Rattle.kb_minkb.specs.declared.place.LeftPlace.{LeftPlace}
use Rattle.kb_minkb.specs.LeftMachine.{left_sides}
use Rattle.kb_minkb.specs.Progress.{AreMovesBefore}
use Rattle.kb_minkb.proofs.Moves.{no_moves_yet, moves_with, moves_without, all_moves}
use Rattle.kb_minkb.proofs.Places.{no_letter_zero, no_letter_above, letter_follows}
use Rattle.kb_minkb.proofs.left_sides.LeftSidesMachine.moves.Goals as goal
use Rattle.kb_minkb.proofs.left_sides.LeftSidesMachine.moves.Goals.{in-Some+in_ok-push, in_default}

pub loop-letter-init : goal.loop-letter-init
loop-letter-init c =
    let acceptor = c.args.self.now.acceptor.now in
    let place = c.args.place.now in
    subst (AreMovesBefore (left_sides acceptor) place 1) (sym c.new-moves.ensures.items)
    (no_moves_yet (left_sides acceptor) place (no_letter_zero acceptor place))

pub loop-letter-preserved : goal.loop-letter-preserved
loop-letter-preserved c =
    let acceptor = c.args.self.now.acceptor.now in
    let place = c.args.place.now in
    let letter : ℕ = c.loop-letter.letter in
    let count : c.generators.result ≡ generators acceptor.alphabet = c.generators.ensures ∙ ap generators c.alphabet.ensures.alphabet in
    let follows = c.next_place.ensures ∙ letter_follows acceptor place letter (omega arith) (omega arith) in
    let P = λ (moves : List (ℕ × LeftPlace)). AreMovesBefore (left_sides acceptor) place (letter + 1) moves in
    elim c.match-next_place.branch [
      | in-Some+in_ok-push w ↦
          subst P (sym w.in_ok-push.ensures.items ∙ ap (λ v. v.items) (sym w.moves-is))
          (moves_with c.loop-letter.invariant w.in-Some.next (omega arith) (sym w.in-Some.is ∙ follows))
      | in_default w ↦
          subst P (ap (λ v. v.items) (sym w.moves-is)) (moves_without c.loop-letter.invariant (sym w.in_default.is ∙ follows))
    ]

pub returns : goal.returns
returns c =
    let acceptor = c.args.self.now.acceptor.now in
    let place = c.args.place.now in
    let count : c.generators.result ≡ generators acceptor.alphabet = c.generators.ensures ∙ ap generators c.alphabet.ensures.alphabet in
    all_moves c.loop-letter.invariant (generators acceptor.alphabet) (omega arith) (λ other above. no_letter_above acceptor place other above)
