use Rattle.std.proofs.Common.{get_or, length}
use Rattle.std.proofs.lemmas.Result.{IfOk-weaker}
use Rattle.kb_draw.specs.Made.{AreMadeInOrder}
use Rattle.kb_round.specs.Reduced.{AreCanonicalForms, IsCanonicalForm}
use Rattle.kb_round.proofs.making.canonical_each.Goals as goal

pub returns : goal.returns
returns g c =
    let labelled = c.args.labelled.now in
    let labels = c.args.labels.now in
    IfOk-weaker c.make_all.result
    (λ forms. AreMadeInOrder (length labels) (λ place form. IsCanonicalForm labelled (get_or labels place 0) form) forms.items)
    (λ forms. AreCanonicalForms labelled labels (length labels) forms.items)
    (λ forms are. record { count = are.count; each = are.each })
    c.make_all.ensures
