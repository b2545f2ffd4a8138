use Rattle.kb_structure.proofs.Refuting.{no_certificate}
use Rattle.kb_structure.proofs.laws.automatic_structures_have_no_certificate.Goals as goal

pub returns : goal.returns
returns c structure over own = no_certificate structure own over
