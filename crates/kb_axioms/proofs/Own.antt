-- What passing and certificates say of the group's own structure.
use Rattle.std.proofs.Common.{◌<◌, length}
use Rattle.std.proofs.lemmas.Option.{slice_get_within}
use Rattle.kb_word.specs.declared.word_order.WordOrder.TheVariants.{ShortLex}
use Rattle.kb_structure.specs.Structure.{AreOverGenerators, IsAutomaticStructure}
use Rattle.kb_structure.specs.Certificates.{HasNoCertificate, IsTrueToGroup}
use Rattle.kb_structure.proofs.Holding.{axioms_hold}
use Rattle.kb_structure.proofs.OwnStructure as own
use Rattle.kb_structure.specs.declared.cert.Cert.{Cert}
use Rattle.kb_axioms.specs.Checked.{Checked, IsFirstCertificate, PassesRelations, own_structure}
use Rattle.kb_axioms.specs.Answered.{IsFirstOfAll}
use Rattle.kb_axioms.specs.Answered.IsFirstOfAll.{of_automata, of_elements}
use Rattle.kb_axioms.specs.Checked.IsFirstCertificate.{n1, n2, n4, n5, n6, n7, n8}

module _ (checked : Checked) where
  -- where automata pass and are true to the group there is no certificate
  no_certificate : PassesRelations checked → IsTrueToGroup (own_structure checked) → HasNoCertificate (own_structure checked)
  no_certificate passes true_to_group = record {
    n1 = passes.earlier.earlier.earlier.earlier.earlier.earlier.prefixes ShortLex checked.relations;
    n2 = passes.earlier.earlier.earlier.earlier.earlier.inside ShortLex checked.relations;
    n3 = λ x u v certificate. certificate.different (true_to_group x u v certificate.generator certificate.multiplies);
    n4 = λ x u certificate.
        let image = passes.earlier.earlier.earlier.earlier.images ShortLex checked.relations x u certificate.generator certificate.accepted in
        certificate.no_image image.0 image.1;
    n5 = passes.earlier.earlier.earlier.single ShortLex checked.relations;
    n6 = passes.earlier.earlier.extensions ShortLex checked.relations;
    n7 = passes.earlier.least checked.relations;
    n8 = λ index u a b certificate.
        let within : index < length checked.relations = slice_get_within checked.relations index certificate.relation certificate.is_relation in
        certificate.different
        (passes.alike.alike index certificate.relation within certificate.is_relation ShortLex checked.relations u a b certificate.accepted
        certificate.left certificate.right);
  }

  pub passing_is_own : AreOverGenerators (own_structure checked) → PassesRelations checked → IsTrueToGroup (own_structure checked)
      → IsAutomaticStructure (own_structure checked)
  passing_is_own over passes true_to_group =
      own.own_structure (own_structure checked) over
      (axioms_hold (own_structure checked) (no_certificate passes true_to_group)
      (passes.earlier.earlier.earlier.earlier.images ShortLex checked.relations) true_to_group)

  certificate_refutes : (cert : Cert) → HasNoCertificate (own_structure checked) → ¬ IsFirstCertificate checked cert
  certificate_refutes cert none (n1 least) = none.n1 _ (least ShortLex checked.relations).holds
  certificate_refutes cert none (n2 passes first) = none.n2 _ _ _ (first ShortLex checked.relations).least.holds
  certificate_refutes cert none (n4 passes first few) = none.n4 _ _ (first ShortLex checked.relations).least.holds
  certificate_refutes cert none (n5 passes first) = none.n5 _ _ _ _ (first ShortLex checked.relations).least.holds
  certificate_refutes cert none (n6 passes first) = none.n6 _ _ (first ShortLex checked.relations).least.holds
  certificate_refutes cert none (n7 passes first) = none.n7 _ _ _ (first checked.relations).least.holds
  certificate_refutes cert none (n8 passes at) = none.n8 _ _ _ _ (at.holds.broken ShortLex)

  pub certificate_of_all_refutes : (cert : Cert) → HasNoCertificate (own_structure checked) → ¬ IsFirstOfAll checked cert
  certificate_of_all_refutes cert none (of_automata first) = certificate_refutes cert none first
  certificate_of_all_refutes cert none (of_elements passes first) = none.n3 _ _ _ first.least.holds
