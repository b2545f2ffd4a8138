use Rattle.kb_structure.proofs.Holding.{axioms_hold}
use Rattle.kb_structure.proofs.laws.axioms_hold_without_certificate.Goals as goal

pub returns : goal.returns
returns c structure none images true_to_group = axioms_hold structure none images true_to_group
