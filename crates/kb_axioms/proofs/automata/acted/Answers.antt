use Rattle.kb_axioms.specs.Checked.IsFirstCertificate.{n8}
use Rattle.kb_axioms.specs.Checked.IsFirstCount.{relation}
use Rattle.kb_axioms.proofs.automata.acted.Goals as goal

pub returns-in-Broken : goal.returns-in-Broken
returns-in-Broken c checked passes acting = n8 passes (rw c.in-Broken.is at acting)

pub returns-in-TooManyStates : goal.returns-in-TooManyStates
returns-in-TooManyStates c checked passes acting = relation passes (rw c.in-TooManyStates.is at acting)
