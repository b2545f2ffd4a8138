use Rattle.kb_fields.proofs.NameFaults.{no_names_fault}
use Rattle.kb_fields.proofs.laws.names_of_generators_have_no_fault.Goals as goal

pub returns : goal.returns
returns c value names fault listed are has = no_names_fault value names fault listed are has
