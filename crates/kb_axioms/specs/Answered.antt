-- What the whole check answers.
-- Epstein et al., Word Processing in Groups, chapter 5; Holt, Eick, O'Brien, Handbook of Computational Group Theory,
-- chapter 13.
use Rattle.std.specs.Prelude.{ℕ, Bool, IsTrue, List, length}
use Rattle.kb_word.specs.Relations.{relations_of}
use Rattle.kb_word.specs.Words.{Pair as Sides}
use Rattle.kb_word.specs.declared.presentation.Presentation.{Presentation}
use Rattle.kb_fsa.specs.Language.{Automaton}
use Rattle.kb_structure.specs.Certificates.{PairOfDifferentElements}
use Rattle.kb_structure.specs.declared.cert.Cert.{Cert}
use Rattle.kb_structure.specs.declared.cert.Cert.TheVariants.{N3}
use Rattle.kb_certificates.specs.First.{IsFirstPair}
use Rattle.kb_axioms.specs.Checked.{Checked, IsFirstCertificate, IsFirstCount, PassesRelations, checked_of, own_structure}
use Rattle.kb_axioms.specs.Truth.{AgreeUpTo, IsFirstUnresolved}
use Rattle.kb_axioms.specs.declared.answers.Axioms.{Axioms}
use Rattle.kb_axioms.specs.declared.answers.Axioms.TheVariants.{Yes, No, Unresolved, TooManyStates}

-- The certificate is the first of all kinds, in the order N1, N2, N4 to N8, N3.
pub data IsFirstOfAll (checked : Checked) : Cert → Type 0 where
  of_automata : {cert : Cert} → IsFirstCertificate checked cert → IsFirstOfAll checked cert
  of_elements : {x : ℕ} {u v : List ℕ} → PassesRelations checked
      → IsFirstPair (PairOfDifferentElements (own_structure checked)) x u v
      → IsFirstOfAll checked (N3 x u v)

-- the automata as a structure of the group that is presented
abbrev pub checked_in : Presentation → Automaton → List Automaton → ℕ → Checked
checked_in presentation acceptor multipliers limit =
    checked_of acceptor multipliers (relations_of presentation.inv presentation.eqs) limit

-- a certificate of the kind N3 is found only by rules that are known to be confluent; the others need no rules
abbrev pub IsFoundBy : Bool → Cert → Type 0
IsFoundBy confluent (N3 x u v) = IsTrue confluent
IsFoundBy confluent _ = Unit {0}

-- what each answer says, by rules that may be known to be confluent
abbrev pub AxiomsSay : Presentation → List Sides → Bool → Automaton → List Automaton → ℕ → Axioms
    → Type 0
AxiomsSay presentation rules confluent acceptor multipliers limit Yes =
    PassesRelations (checked_in presentation acceptor multipliers limit)
    × AgreeUpTo presentation rules multipliers (length multipliers)
AxiomsSay presentation rules confluent acceptor multipliers limit (No cert) =
    IsFirstOfAll (checked_in presentation acceptor multipliers limit) cert × IsFoundBy confluent cert
AxiomsSay presentation rules confluent acceptor multipliers limit (Unresolved x state label other) =
    PassesRelations (checked_in presentation acceptor multipliers limit) × (¬ IsTrue confluent)
    × IsFirstUnresolved presentation rules multipliers x state label other
AxiomsSay presentation rules confluent acceptor multipliers limit (TooManyStates which) =
    IsFirstCount (checked_in presentation acceptor multipliers limit) which
