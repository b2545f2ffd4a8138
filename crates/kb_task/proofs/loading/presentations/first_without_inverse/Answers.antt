use Rattle.std.proofs.Common.{◌≡◌, ℕ, true, sym, ap, ◌∙◌, subst, arith}
use Rattle.std.specs.Option.{is_some}
use Rattle.kb_word.specs.Relations.{inverse_letter}
use Rattle.kb_task.proofs.InverseLemmas.{next_inverts, inverts-some}
use Rattle.kb_task.proofs.loading.presentations.first_without_inverse.Goals as goal

pub returns-then-is_none-clause-earlier : goal.returns-then-is_none-clause-earlier
returns-then-is_none-clause-earlier c = λ x positive before.
    inverts-some c.args.presentation.now.inv c.loop-place.place x c.loop-place.invariant positive
    (omega (arith, before, c.new-generator.ensures))

pub loop-place-preserved : goal.loop-place-preserved
loop-place-preserved c =
    let inverses = c.args.presentation.now.inv in
    let P : ℕ → Type 0 = λ x. is_some (inverse_letter inverses x) ≡ true in
    let has = subst P c.new-generator.ensures (ap is_some (sym c.letter_inverse.ensures) ∙ c.if-is_none.ensures) in
    next_inverts inverses c.loop-place.place c.loop-place.invariant has
