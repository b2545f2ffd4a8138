use Rattle.std.proofs.Common.{◌≡◌, ℕ, true, false, sym, ap, ◌∙◌, subst, arith}
use Rattle.std.proofs.lemmas.Bool.{true≢false}
use Rattle.std.specs.Option.{is_some}
use Rattle.kb_word.specs.Relations.{inverse_letter}
use Rattle.kb_axioms.proofs.GroupAutomata.{next_inverts, one_lacks}
use Rattle.kb_axioms.proofs.fitting.is_group.Goals as goal

pub returns-then-is_none : goal.returns-then-is_none
returns-then-is_none c =
    let inverses = c.args.presentation.now.inv in
    let P : ℕ → Type 0 = λ x. is_some (inverse_letter inverses x) ≡ false in
    let lacks = subst P c.new-generator.ensures (ap is_some (sym c.letter_inverse.ensures) ∙ c.if-is_none.ensures) in
    (λ yes. absurd (true≢false (sym yes)), λ each. absurd (one_lacks inverses c.args.presentation.now.n c.loop-place.place (omega (arith, c.loop-place-test.true)) lacks each))

pub loop-place-preserved : goal.loop-place-preserved
loop-place-preserved c =
    let inverses = c.args.presentation.now.inv in
    let P : ℕ → Type 0 = λ x. is_some (inverse_letter inverses x) ≡ true in
    let has = subst P c.new-generator.ensures (ap is_some (sym c.letter_inverse.ensures) ∙ c.if-is_none.ensures) in
    next_inverts inverses c.loop-place.place c.loop-place.invariant has
