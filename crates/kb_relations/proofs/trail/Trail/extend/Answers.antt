use Rattle.std.proofs.Common.{◌≡◌, ◌∙◌, ◌+◌, ◌<◌, ℕ, List, get_or, length, sym, ap, subst, arith}
use Rattle.std.proofs.lemmas.List.{get_or_read, length_push}
use Rattle.kb_fsa.specs.Table.{step}
use Rattle.kb_fsa.specs.PairSymbols.{pair_symbol}
use Rattle.kb_fsa.specs.Language.{generators}
use Rattle.kb_relations.specs.Trails.{IsTrail}
use Rattle.kb_relations.proofs.TrailLemmas.{trail_next}
use Rattle.kb_relations.proofs.trail.Trail.extend.Goals as goal

pub loop-place-preserved : goal.loop-place-preserved
loop-place-preserved c =
    let multiplier = c.args.multiplier.now in
    let word = c.args.word.now in
    let states = c.loop-place.self-inside.states.items in
    let place : ℕ = c.loop-place.place in
    let letter : ℕ = c.from-letter.result in
    let state : ℕ = c.step-state.result in
    let n : ℕ = generators multiplier.alphabet in
    let before = c.loop-place.invariant in
    let known : c.generators.result ≡ n = c.generators.ensures ∙ ap generators c.alphabet.ensures.alphabet in
    let within : place < length word = subst (λ w. place < length w) c.letters-letters.ensures.letters c.loop-place-test.true in
    let one : letter ≡ c.index-letters-place.result = c.from-letter.ensures ∙ c.number.ensures in
    let read : c.index-letters-place.result ≡ get_or word place c.index-letters-place.result =
    c.index-letters-place.is ∙ ap (λ w. get_or w place c.index-letters-place.result) c.letters-letters.ensures.letters in
    let is_letter : letter ≡ get_or word place letter = subst (λ x. x ≡ get_or word place x) (sym one) read in
    let from : c.index.result.now ≡ get_or states place 0 =
    get_or_read states place c.index.result.now (omega (arith, before.1)) c.index.ensures 0 in
    let is : state ≡ step multiplier.table c.index.result.now (pair_symbol n letter letter) =
    c.step-state.ensures.step ∙ ap (step multiplier.table c.index.result.now)
    (c.symbol.ensures ∙ ap (λ k. pair_symbol k letter letter) known) in
    let next = trail_next multiplier word states place letter c.index.result.now state before.0 before.1 within is_letter from is in
    let long = length_push states state in
    let Goal : List ℕ → Type 0 = λ items. IsTrail multiplier word items × (length items ≡ place + 1 + 1) in
    subst Goal (sym c.in_ok-push-2.ensures.items) (next, omega (arith, before.1))
