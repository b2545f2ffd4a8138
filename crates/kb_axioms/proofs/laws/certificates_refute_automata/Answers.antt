use Rattle.kb_structure.proofs.Refuting.{no_certificate}
use Rattle.kb_axioms.specs.Checked.{own_structure}
use Rattle.kb_axioms.proofs.Own.{certificate_of_all_refutes}
use Rattle.kb_axioms.proofs.laws.certificates_refute_automata.Goals as goal

pub returns : goal.returns
returns c checked cert over certificate own =
    certificate_of_all_refutes checked cert (no_certificate (own_structure checked) own over) certificate
