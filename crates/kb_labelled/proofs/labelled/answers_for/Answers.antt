use Rattle.std.proofs.Common.{Bool, List, sym, subst}
use Rattle.kb_labelled.proofs.OneLabel.{AreAnswersTo, no_answers}
use Rattle.kb_labelled.proofs.labelled.answers_for.Goals as goal

pub loop-place-init : goal.loop-place-init
loop-place-init c =
    let P : List Bool → Type 0 = λ answers. AreAnswersTo c.args.accepting.now c.args.labels.now c.args.label 0 answers in
    subst P (sym c.in_ok-answers.ensures.items) (no_answers c.args.accepting.now c.args.labels.now c.args.label)
