use Rattle.kb_labelled.proofs.OneLabel.{AreAnswersTo}
use Rattle.kb_labelled.proofs.labelled.answers_for.Given as goal

-- the answers are those of the states that are passed
abbrev pub invariant-loop-place : goal.invariant-loop-place
invariant-loop-place l = AreAnswersTo l.accepting l.labels l.label l.place l.answers.items
