use Rattle.kb_structure.proofs.OwnStructure.{own_structure}
use Rattle.kb_structure.proofs.laws.axioms_make_automatic_structures.Goals as goal

pub returns : goal.returns
returns c structure over axioms = own_structure structure over axioms
