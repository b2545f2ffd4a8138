-- Automata that are checked for a group that is presented.
use Rattle.std.proofs.Common.{◌≡◌, ℕ, List, ap, sym, ◌∙◌, subst}
use Rattle.std.specs.Prelude.{Bool}
use Rattle.kb_word.specs.Relations.{IsOver, relations_of}
use Rattle.kb_word.specs.declared.presentation.Presentation.{Presentation}
use Rattle.kb_word.specs.declared.word_order.WordOrder.{WordOrder}
use Rattle.kb_word.specs.declared.word_order.WordOrder.TheVariants.{ShortLex}
use Rattle.kb_machine.proofs.Relations.{relations_over}
use Rattle.kb_fsa.specs.Language.{Automaton, generators}
use Rattle.kb_fsa.specs.declared.alphabet.Alphabet.TheVariants.{Pair, Plain}
use Rattle.kb_structure.specs.Structure.{IsAutomaticStructure}
use Rattle.kb_structure.specs.StructureOf.{FitTogether, structure_of}
use Rattle.kb_structure.specs.Certificates.{IsTrueToGroup, PairOfDifferentElements}
use Rattle.kb_certificates.specs.First.{IsFirstPair}
use Rattle.kb_relations.specs.Acts.{AreOver}
use Rattle.kb_axioms.specs.Answered.{IsFirstOfAll, IsFoundBy, checked_in}
use Rattle.kb_axioms.specs.Answered.IsFirstOfAll.{of_elements}
use Rattle.kb_axioms.specs.Checked.{Checked, IsFirstCertificate, PassesRelations, own_structure}
use Rattle.kb_axioms.specs.Checked.IsFirstCertificate.{n1, n2, n4, n5, n6, n7, n8}
use Rattle.kb_axioms.specs.Truth.{AreMultipliers, IsFirstDifferent}
use Rattle.kb_structure.specs.declared.cert.Cert.{Cert}
use Rattle.kb_structure.specs.declared.cert.Cert.TheVariants.{N3}
use Rattle.kb_axioms.proofs.Own.{passing_is_own}

-- what automata show by themselves is found by any rules
pub found_by_any : {checked : Checked} {cert : Cert} (confluent : Bool) → IsFirstCertificate checked cert → IsFoundBy confluent cert
found_by_any confluent (n1 least) = tt
found_by_any confluent (n2 passes first) = tt
found_by_any confluent (n4 passes first few) = tt
found_by_any confluent (n5 passes first) = tt
found_by_any confluent (n6 passes first) = tt
found_by_any confluent (n7 passes first) = tt
found_by_any confluent (n8 passes at) = tt

module _ (presentation : Presentation) (acceptor : Automaton) (multipliers : List Automaton)
    (plain : acceptor.alphabet ≡ Plain presentation.n) where
  number : generators acceptor.alphabet ≡ presentation.n
  number = ap generators plain

  pub fit : AreMultipliers presentation.n multipliers → FitTogether acceptor multipliers
  fit are = record {
    words = plain ∙ ap Plain (sym number);
    one_each = are.one_each ∙ sym number;
    pairs = λ x multiplier at. are.pairs x multiplier at ∙ ap Pair (sym number);
  }

  -- the relations are over the acceptor's generators
  pub over : AreOver acceptor (relations_of presentation.inv presentation.eqs)
  over relation one =
      let P : ℕ → Type 0 = λ n. IsOver n relation.0 × IsOver n relation.1 in
      subst P (sym number) (relations_over presentation.is_presentation relation one)

  module _ (limit : ℕ) (shortlex : presentation.order ≡ ShortLex) (passes : PassesRelations (checked_in presentation acceptor multipliers limit)) where
    -- where the multipliers relate only words that differ by their generators, the automata are the group's own
    pub own : IsTrueToGroup (structure_of presentation.order (relations_of presentation.inv presentation.eqs) acceptor multipliers)
        → IsAutomaticStructure (own_structure (checked_in presentation acceptor multipliers limit))
    own true_to_group =
        let P : WordOrder → Type 0 =
        λ order. IsTrueToGroup (structure_of order (relations_of presentation.inv presentation.eqs) acceptor multipliers) in
        passing_is_own (checked_in presentation acceptor multipliers limit) over passes (subst P shortlex true_to_group)

    -- and the first pair of words that don't is a certificate
    pub first_of_all : (x : ℕ) (u v : List ℕ) → IsFirstDifferent presentation multipliers x u v
        → IsFirstOfAll (checked_in presentation acceptor multipliers limit) (N3 x u v)
    first_of_all x u v first =
        let P : WordOrder → Type 0 =
        λ order. IsFirstPair (PairOfDifferentElements (structure_of order (relations_of presentation.inv presentation.eqs) acceptor multipliers)) x u v in
        of_elements passes (subst P shortlex (first acceptor number))
