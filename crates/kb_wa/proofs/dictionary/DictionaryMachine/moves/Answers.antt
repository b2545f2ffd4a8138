use Rattle.std.proofs.Common.{◌≡◌, ℕ, ◌+◌, List, sym, ap, ◌∙◌, subst, arith}
use Rattle.kb_wa.specs.Dictionary.{LeftSides, AreMovesBefore}
use Rattle.kb_wa.proofs.Moves.{no_moves_yet, moves_with, moves_without, all_moves}
use Rattle.kb_wa.proofs.dictionary.DictionaryMachine.moves.Goals as goal
use Rattle.kb_wa.proofs.dictionary.DictionaryMachine.moves.Goals.{in-Some+in_ok-push, in_default}

pub loop-symbol-init : goal.loop-symbol-init
loop-symbol-init c =
    let given = c.args.self.now in
    subst (AreMovesBefore given.n given.trie c.args.state.now 1) (sym c.in_ok-moves.ensures.items)
    (no_moves_yet given.n given.trie c.args.state.now)

pub loop-symbol-preserved : goal.loop-symbol-preserved
loop-symbol-preserved c =
    let given = c.args.self.now in
    let symbol : ℕ = c.loop-symbol.symbol in
    let n : c.self.inside.n ≡ given.n = ap (λ (sides : LeftSides). sides.n) c.self.view_is in
    let P = λ (moves : List (ℕ × ℕ)). AreMovesBefore given.n given.trie c.args.state.now (symbol + 1) moves in
    elim c.match-follow.branch [
      | in-Some+in_ok-push w ↦
          subst P (sym w.in_ok-push.ensures.items ∙ ap (λ v. v.items) (sym w.moves-is))
          (moves_with c.loop-symbol.invariant w.in-Some.next (omega arith) (omega arith) (sym w.in-Some.is ∙ c.follow.ensures))
      | in_default w ↦
          subst P (ap (λ v. v.items) (sym w.moves-is)) (moves_without c.loop-symbol.invariant (omega arith) (sym w.in_default.is ∙ c.follow.ensures))
    ]

pub returns : goal.returns
returns c =
    let n : c.self.inside.n ≡ c.args.self.now.n = ap (λ (sides : LeftSides). sides.n) c.self.view_is in
    all_moves c.loop-symbol.invariant (omega arith)
