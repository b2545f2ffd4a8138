use Rattle.std.proofs.Common.{◌≡◌, ℕ, ◌+◌, Bool, List, Some, None, sym, ap, ◌∙◌, subst, arith}
use Rattle.kb_fsa.specs.Language.{generators}
use Rattle.kb_fsa.specs.PairSymbols.{pair_symbols, first_letter}
use Rattle.kb_minkb.specs.declared.pair_place.PairPlace.{PairPlace}
use Rattle.kb_minkb.specs.LeftMachine.{next_place}
use Rattle.kb_minkb.specs.RuleMachine as rule_machine
use Rattle.kb_minkb.specs.Progress.{AreMovesBefore}
use Rattle.kb_minkb.specs.Marks.{AreAllMarked}
use Rattle.kb_minkb.proofs.Moves.{no_moves_yet, moves_with, moves_without, all_moves}
use Rattle.kb_minkb.proofs.RuleSteps.{no_symbol_zero, no_symbol_above}
use Rattle.kb_minkb.proofs.rules.RulesMachine.moves.Goals.{in-Some+in_ok-push, in_default}
use Rattle.kb_minkb.proofs.rules.RulesMachine.moves.Goals as goal

pub loop-symbol-init : goal.loop-symbol-init
loop-symbol-init c =
    let it = c.args.self.now in
    let place = c.args.place.now in
    let machine = rule_machine.rules it.acceptor.now it.multipliers.now in
    record {
      moves = subst (AreMovesBefore machine place 1) (sym c.new-moves.ensures.items)
          (no_moves_yet machine place (no_symbol_zero it.acceptor.now it.multipliers.now place));
      known = c.next_place.ensures;
    }

pub next-requires-clause-marks : goal.next-requires-clause-marks
next-requires-clause-marks c =
    let it = c.args.self.now in
    let place = c.args.place.now in
    let P : List Bool → Type 0 = λ marks. AreAllMarked it.multipliers.now place.states marks in
    let Q : List ℕ → Type 0 = λ states. AreAllMarked it.multipliers.now states c.in_ok-marks.marks.items in
    subst P (sym c.as_slice.ensures.value) (subst Q c.as_slice-states.ensures c.in_ok-marks.ensures)

pub next-requires-clause-left : goal.next-requires-clause-left
next-requires-clause-left c =
    let it = c.args.self.now in
    let place = c.args.place.now in
    let symbol : ℕ = c.loop-symbol.symbol in
    let count : c.generators.result ≡ generators it.acceptor.now.alphabet = c.generators.ensures ∙ ap generators c.alphabet.ensures.alphabet in
    let letter : c.first-letter.result ≡ first_letter (generators it.acceptor.now.alphabet) symbol =
    c.first-letter.ensures ∙ ap (λ (n : ℕ). first_letter n symbol) count in
    c.place_by_letter-known.ensures.place ∙ ap (next_place it.acceptor.now.table place.left) letter

pub loop-symbol-preserved : goal.loop-symbol-preserved
loop-symbol-preserved c =
    let it = c.args.self.now in
    let place = c.args.place.now in
    let machine = rule_machine.rules it.acceptor.now it.multipliers.now in
    let symbol : ℕ = c.loop-symbol.symbol in
    let P = λ (moves : List (ℕ × PairPlace)). AreMovesBefore machine place (symbol + 1) moves in
    record {
      moves = elim c.match-next.branch [
        | in-Some+in_ok-push w ↦
            let follows : Some w.in-Some.next ≡ machine.follow place symbol = sym w.in-Some.is ∙ c.in_ok-next.ensures in
            subst P (sym w.in_ok-push.ensures.items ∙ ap (λ v. v.items) (sym w.moves-is))
            (moves_with c.loop-symbol.invariant.moves w.in-Some.next (omega arith) follows)
        | in_default w ↦
            let follows : None ≡ machine.follow place symbol = sym w.in_default.is ∙ c.in_ok-next.ensures in
            subst P (ap (λ v. v.items) (sym w.moves-is)) (moves_without c.loop-symbol.invariant.moves follows)
      ];
      known = c.place_by_letter-known.ensures.place ∙ ap (next_place it.acceptor.now.table place.left) (sym c.place_by_letter-known.ensures.letter);
    }

pub returns : goal.returns
returns c =
    let it = c.args.self.now in
    let acceptor = it.acceptor.now in
    let multipliers = it.multipliers.now in
    let place = c.args.place.now in
    let n = generators acceptor.alphabet in
    let count : c.generators.result ≡ n = c.generators.ensures ∙ ap generators c.alphabet.ensures.alphabet in
    let symbols : c.count-symbol-end.result ≡ pair_symbols n = c.count-symbol-end.ensures ∙ ap pair_symbols count in
    let last : c.loop-symbol.symbol ≡ c.count-symbol-end.result + 1 = omega arith in
    all_moves c.loop-symbol.invariant.moves (pair_symbols n) (last ∙ ap (λ (k : ℕ). k + 1) symbols)
    (λ other above. no_symbol_above acceptor multipliers place other above)
