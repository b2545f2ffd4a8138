use Rattle.std.proofs.Common.{◌≡◌, ℕ, ◌≤◌, List, Option, IfOk, sym, ap, ◌∙◌, subst, arith}
use Rattle.kb_fsa.specs.Language.{generators}
use Rattle.kb_fsa.specs.PairSymbols.{first_letter}
use Rattle.kb_minkb.specs.declared.pair_place.PairPlace.{PairPlace}
use Rattle.kb_minkb.specs.RuleMachine.{place_by}
use Rattle.kb_minkb.specs.Marks.{AreAllMarked}
use Rattle.kb_minkb.proofs.RuleSteps.{letter_leads, first_low}
use Rattle.kb_minkb.proofs.rules.Rules.next.Goals as goal

pub place_by-requires : goal.place_by-requires
place_by-requires c =
    let multipliers = c.args.self.now.multipliers.now in
    let P : List ℕ → Type 0 = λ states. AreAllMarked multipliers states c.args.marks.now in
    subst P (sym c.as_slice-states.ensures) c.requires.marks

pub returns : goal.returns
returns c =
    let acceptor = c.args.self.now.acceptor.now in
    let multipliers = c.args.self.now.multipliers.now in
    let place = c.args.place.now in
    let symbol : ℕ = c.args.symbol in
    let n = generators acceptor.alphabet in
    let letter = c.first.result in
    let count : c.generators.result ≡ n = c.generators.ensures ∙ ap generators c.alphabet.ensures.alphabet in
    let is_first : letter ≡ first_letter n symbol = c.first.ensures ∙ ap (λ k. first_letter k symbol) count in
    let low = first_low acceptor multipliers place symbol c.requires.positive c.requires.symbol in
    let is_letter : first_letter n symbol ≤ n = omega (arith, count, is_first, low) in
    let same = ap (λ k. place_by k multipliers c.as_slice-states.result.now symbol c.args.left) count
    ∙ ap (λ (states : List ℕ). place_by n multipliers states symbol c.args.left) c.as_slice-states.ensures
    ∙ ap (place_by n multipliers place.states symbol) c.requires.left
    ∙ letter_leads acceptor multipliers place symbol c.requires.positive c.requires.symbol is_letter in
    let P : Option PairPlace → Type 0 = λ target. IfOk c.place_by.result (λ next. next ≡ target) in
    subst P same c.place_by.ensures
