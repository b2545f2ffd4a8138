use Rattle.std.proofs.Common.{◌≡◌, ◌+◌, ◌<◌, ℕ, pos, List, All, length, map, take, get_or, sym, subst, w64, SFits, rules, arith}
use Rattle.std.proofs.lemmas.Int.{to_z-of_z}
use Rattle.std.proofs.lemmas.List.{get_or_default}
use Rattle.std.proofs.lemmas.List.Elements.{All-push}
use Rattle.kb_word.specs.Weights.{IsWeight}
use Rattle.kb_presfile.proofs.WeightLemmas.{are_no_weights, weights_more}
use Rattle.kb_presfile.proofs.order.weights_of.Goals as goal

pub returns-in_default-clause-none : goal.returns-in_default-clause-none
returns-in_default-clause-none c =
    let numbers = c.args.numbers.now in
    let k = c.loop-number.number-index in
    let z = get_or numbers k (pos 0) in
    let fits : SFits w64 (get_or c.args.numbers.now c.loop-number.number-index (pos 0)) = search rules in
    let within : k < length numbers = omega arith in
    let none = simp to_z-of_z at c.in_default.ensures.none in
    are_no_weights c.args.count numbers k z within (get_or_default numbers k (pos 0) z within) none

pub loop-number-preserved : goal.loop-number-preserved
loop-number-preserved c =
    let numbers = c.args.numbers.now in
    let k = c.loop-number.number-index in
    let z = get_or numbers k (pos 0) in
    let fits : SFits w64 (get_or c.args.numbers.now c.loop-number.number-index (pos 0)) = search rules in
    let within : k < length numbers = omega arith in
    let is = simp to_z-of_z at c.in-Some.ensures.weight in
    let weights = c.loop-number.weights.items in
    let Are : List ℕ → Type 0 = λ ws. take (k + 1) numbers ≡ map pos ws in
    let In : List ℕ → Type 0 = λ ws. All IsWeight ws in
    record {
      are = subst Are (sym c.in_ok-push.ensures.items)
          (weights_more numbers k z weights c.in-Some.weight within (get_or_default numbers k (pos 0) z within) is.0 c.loop-number.invariant.are);
      range = subst In (sym c.in_ok-push.ensures.items) (All-push IsWeight weights c.in-Some.weight c.loop-number.invariant.range is.1);
    }
