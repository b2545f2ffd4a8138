use Rattle.std.proofs.Common.{◌≡◌, ℕ, ◌+◌, List, [], sym, ap, ◌∙◌, subst, arith}
use Rattle.kb_fsa.specs.Language.{symbols}
use Rattle.kb_fsabool.specs.declared.place.Place.{Place}
use Rattle.kb_fsa.specs.EndedWords.{ended_after, first_after, stride_after}
use Rattle.kb_fsabool.specs.Complements.{AreMovesBefore}
use Rattle.kb_fsa.proofs.PaddedRuns.{stride_positive}
use Rattle.kb_fsabool.proofs.ComplementLemmas.{no_moves_before, moves_with, moves_without, all_moves}
use Rattle.kb_fsabool.proofs.complement.ComplementMachine.moves.Goals as goal
use Rattle.kb_fsabool.proofs.complement.ComplementMachine.moves.Goals.{in-Some+in_ok-push, in_default}

pub loop-symbol-init : goal.loop-symbol-init
loop-symbol-init c =
    let automaton = c.args.self.now.fsa.now in let place = c.args.place.now in
    let first : first_after automaton.alphabet place.ended ≡ c.progression-symbol.result.0 =
    ap (λ a. first_after a place.ended) (sym c.alphabet-alphabet.ensures.alphabet) ∙ sym c.progression-symbol.ensures.first in
    subst (AreMovesBefore automaton place c.progression-symbol.result.0) (sym c.new-moves.ensures.items)
    (subst (λ (symbol : ℕ). AreMovesBefore automaton place symbol []) first (no_moves_before automaton place))

pub loop-symbol-smaller : goal.loop-symbol-smaller
loop-symbol-smaller c =
    omega (arith, c.progression-symbol.ensures.stride, stride_positive c.alphabet-alphabet.result c.args.place.now.ended)

pub loop-symbol-preserved : goal.loop-symbol-preserved
loop-symbol-preserved c =
    let automaton = c.args.self.now.fsa.now in let place = c.args.place.now in
    let symbol = c.loop-symbol.symbol in
    let alphabet = c.alphabet-alphabet.ensures.alphabet in
    let stride : stride_after automaton.alphabet place.ended ≡ c.progression-symbol.result.1 =
    ap (λ a. stride_after a place.ended) (sym alphabet) ∙ sym c.progression-symbol.ensures.stride in
    let after = ap (λ a. ended_after a place.ended symbol) (sym alphabet) ∙ sym c.after.ensures in
    let P = λ (moves : List (ℕ × Place)). AreMovesBefore automaton place (symbol + c.progression-symbol.result.1) moves in
    let Q = λ (moves : List (ℕ × Place)) (s : ℕ). AreMovesBefore automaton place (symbol + s) moves in
    elim c.match-after.branch [
      | in-Some+in_ok-push w ↦
          let pushed = moves_with c.loop-symbol.invariant w.in-Some.ended w.step-state.result (after ∙ w.in-Some.is) w.step-state.ensures.step in
          subst P (sym w.in_ok-push.ensures.items ∙ ap (λ v. v.items) (sym w.moves-is)) (subst (Q _) stride pushed)
      | in_default w ↦
          let same = moves_without c.loop-symbol.invariant (after ∙ w.in_default.is) in
          subst P (ap (λ v. v.items) (sym w.moves-is)) (subst (Q _) stride same)
    ]

pub returns : goal.returns
returns c =
    let last = c.symbols-last.ensures ∙ ap symbols c.alphabet-alphabet.ensures.alphabet in
    all_moves c.loop-symbol.invariant (omega (arith, c.loop-symbol-test.false))
