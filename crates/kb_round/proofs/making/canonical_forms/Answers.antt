use Rattle.std.proofs.Common.{ℕ, List, length, subst}
use Rattle.std.proofs.lemmas.Result.{IfOk-weaker}
use Rattle.kb_round.specs.Reduced.{AreCanonicalForms}
use Rattle.kb_round.proofs.CanonicalForms.{forms_kept}
use Rattle.kb_round.proofs.making.canonical_forms.Goals as goal

pub returns : goal.returns
returns g c =
    let reduced = c.in_ok-reduced.reduced in
    let labels = c.as_slice.result.now in
    IfOk-weaker c.canonical_each.result (λ forms. AreCanonicalForms reduced labels (length labels) forms.items) _
    (λ forms are.
    let P : List ℕ → Type 0 = λ l. AreCanonicalForms reduced l (length l) forms.items in
    forms_kept c.in_ok-reduced.ensures.labels c.in_ok-reduced.ensures.alphabet (subst P c.as_slice.ensures.value are))
    c.canonical_each.ensures
