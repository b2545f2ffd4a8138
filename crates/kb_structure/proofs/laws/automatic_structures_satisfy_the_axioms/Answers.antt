use Rattle.kb_structure.proofs.Refuting.{no_certificate, own_is_true}
use Rattle.kb_structure.proofs.Holding.{axioms_hold}
use Rattle.kb_structure.proofs.laws.automatic_structures_satisfy_the_axioms.Goals as goal

pub returns : goal.returns
returns c structure over own images =
    axioms_hold structure (no_certificate structure own over) images (own_is_true structure own)
