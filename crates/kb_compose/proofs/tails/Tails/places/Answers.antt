use Rattle.std.proofs.Common.{◌≡◌, ℕ, suc, ◌+◌, max, List, [], ◌∷◌, ◌++◌, length, get_or, slice_get, Option, Some, refl, sym, ap, ◌∙◌, subst, arith}
use Rattle.std.proofs.lemmas.Option.{slice_get-get_or}
use Rattle.kb_explore.specs.Exploration.{numbered}
use Rattle.kb_compose.specs.declared.tail.Tail.{Tail}
use Rattle.kb_compose.specs.declared.tail.Tail.TheVariants.{Begin, At}
use Rattle.kb_compose.specs.Tails.{tail_of, tails}
use Rattle.kb_compose.specs.Progress.{AreMovesBelow}
use Rattle.kb_compose.proofs.Endings.{move_more, moves_whole, no_place_past}
use Rattle.kb_compose.proofs.tails.Tails.places.Goals as goal

pub loop-pair-preserved : goal.loop-pair-preserved
loop-pair-preserved c =
    let pairs = c.args.self.now.pairs.now in
    let follow : ℕ → Option Tail = λ number. tail_of (numbered pairs number) in
    let number = c.loop-pair.number in
    let index = c.loop-pair.pair-index in
    let before = c.loop-pair.invariant in
    let tail = At (get_or pairs index 0) in
    let is : follow (suc number) ≡ Some tail =
    ap tail_of (ap (slice_get pairs) before.number_is ∙ slice_get-get_or pairs index 0 c.loop-pair-test.true) in
    let more = move_more follow (suc number) c.loop-pair.moves.items before.below (omega arith) tail is in
    let one : suc number ≡ number + 1 = omega arith in
    let P : ℕ → Type 0 = λ k. AreMovesBelow follow (suc k) (c.loop-pair.moves.items ++ (k, tail) ∷ []) in
    let Q : List (ℕ × Tail) → Type 0 = λ l. AreMovesBelow follow (suc (number + 1)) l in
    record {
      number_is = omega (arith, before.number_is);
      below = subst Q (sym c.in_ok-push.ensures.items) (subst P one more);
    }

pub returns : goal.returns
returns c =
    let self = c.args.self.now in
    let pairs = self.pairs.now in
    let follow : ℕ → Option Tail = λ number. tail_of (numbered pairs number) in
    let number = c.loop-pair.number in
    let before = c.loop-pair.invariant in
    moves_whole follow (suc number) c.loop-pair.moves.items before.below (omega arith)
    (tails self.symbols.n self.first.now self.second.now pairs) Begin (max self.symbols.n (length pairs)) (λ k. refl)
    (omega (arith, before.number_is, c.loop-pair.auto.pair-index-end))
    (λ k past. no_place_past pairs k (omega (arith, before.number_is, c.loop-pair-test.false)))
