-- What the check finds of automata, whatever the rules of the group are, and in which order it looks.
-- Epstein et al., Word Processing in Groups, chapter 5; Holt, Eick, O'Brien, Handbook of Computational Group Theory,
-- chapter 13.
use Rattle.std.specs.Prelude.{ℕ, List, length}
use Rattle.kb_word.specs.Words.{Pair as Sides}
use Rattle.kb_word.specs.declared.word_order.WordOrder.TheVariants.{ShortLex}
use Rattle.kb_fsa.specs.Language.{Automaton}
use Rattle.kb_leastpair.specs.LeastPair.{IsLeastWord}
use Rattle.kb_structure.specs.Structure.{Structure}
use Rattle.kb_structure.specs.StructureOf.{OfAutomata, structure_of}
use Rattle.kb_structure.specs.Certificates.{PrefixNotAccepted, PairOutsideAcceptor, WordWithoutImage, TwoImages, MissingExtension, ImageNotLeast, HasImages}
use Rattle.kb_certificates.specs.First.{HasNone, HasNoPair, HasNoTriple, IsFirstWord, IsFirstPair, IsFirstTriple, NoneCountedUpTo}
use Rattle.kb_certificates.specs.Images.{IsFirstCounted as IsFirstCountedImages}
use Rattle.kb_relations.specs.Acts.{ActAlikeBefore, AtNumber, IsFirstBroken, IsFirstCounted as IsFirstCountedRelation}
use Rattle.kb_structure.specs.declared.cert.Cert.{Cert}
use Rattle.kb_structure.specs.declared.cert.Cert.TheVariants.{N1, N2, N4, N5, N6, N7, N8}
use Rattle.kb_axioms.specs.declared.answers.Construction.{Construction}
use Rattle.kb_axioms.specs.declared.answers.Construction.TheVariants.{Images, Relation}
use Rattle.kb_axioms.specs.declared.answers.Automata.{Automata}
use Rattle.kb_axioms.specs.declared.answers.Automata.TheVariants.{Pass, No, TooManyStates}

-- what is checked: a word acceptor and a multiplier for each generator, with the relations of the group, and how many
-- states a construction may have
pub record Checked : Type 0 where
  pub acceptor : Automaton
  pub multipliers : List Automaton
  pub relations : List Sides
  pub limit : ℕ

abbrev pub checked_of : Automaton → List Automaton → List Sides → ℕ → Checked
checked_of acceptor multipliers relations limit =
    record {
      acceptor = acceptor;
      multipliers = multipliers;
      relations = relations;
      limit = limit;
    }

-- the structure that the automata are, with the shortlex order and these relations
abbrev pub own_structure : Checked → Structure
own_structure checked =
    structure_of ShortLex checked.relations checked.acceptor checked.multipliers

-- the fact holds of the structure that the automata are, whatever the order and the relations
abbrev pub Of : Checked → (Structure → Type 0) → Type 0
Of checked = OfAutomata checked.acceptor checked.multipliers

-- the fact holds of the structure that the automata are with the shortlex order, whatever the relations
abbrev pub OfShortlex : Checked → (Structure → Type 0) → Type 0
OfShortlex checked Holds = (relations : List Sides)
    → Holds (structure_of ShortLex relations checked.acceptor checked.multipliers)

-- there is no certificate N1
pub record PassesPrefixes (checked : Checked) : Type 0 where
  pub prefixes : Of checked (λ structure. (u : List ℕ) → ¬ PrefixNotAccepted structure u)

-- nor N2
pub record PassesPairs (checked : Checked) : Type 0 where
  pub earlier : PassesPrefixes checked
  pub inside : Of checked (λ structure. HasNoPair (PairOutsideAcceptor structure))

-- nor N4: each accepted word has images; and no multiplier's first words are counted above the limit
pub record PassesImages (checked : Checked) : Type 0 where
  pub earlier : PassesPairs checked
  pub images : Of checked HasImages
  pub few : NoneCountedUpTo checked.multipliers checked.limit (length checked.multipliers)

-- nor N5
pub record PassesSingle (checked : Checked) : Type 0 where
  pub earlier : PassesImages checked
  pub single : Of checked (λ structure. HasNoTriple (TwoImages structure))

-- nor N6
pub record PassesExtensions (checked : Checked) : Type 0 where
  pub earlier : PassesSingle checked
  pub extensions : Of checked (λ structure. HasNone (MissingExtension structure))

-- nor N7
pub record PassesLeast (checked : Checked) : Type 0 where
  pub earlier : PassesExtensions checked
  pub least : OfShortlex checked (λ structure. HasNoPair (ImageNotLeast structure))

-- nor N8: both sides of each relation act alike, and none is counted above the limit
pub record PassesRelations (checked : Checked) : Type 0 where
  pub earlier : PassesLeast checked
  pub alike : ActAlikeBefore checked.relations checked.acceptor checked.multipliers checked.limit
      (length checked.relations)

-- The certificate is the first of the kinds N1, N2 and N4 to N8, in this order; within one kind of the first
-- generator or relation, and of that with the least words. No count before it is above the limit.
pub data IsFirstCertificate (checked : Checked) : Cert → Type 0 where
  n1 : {u : List ℕ}
      → Of checked (λ structure. IsLeastWord (PrefixNotAccepted structure) u)
      → IsFirstCertificate checked (N1 u)
  n2 : {x : ℕ} {u v : List ℕ} → PassesPrefixes checked
      → Of checked (λ structure. IsFirstPair (PairOutsideAcceptor structure) x u v)
      → IsFirstCertificate checked (N2 x u v)
  n4 : {x : ℕ} {u : List ℕ} → PassesPairs checked
      → Of checked (λ structure. IsFirstWord (WordWithoutImage structure) x u)
      → NoneCountedUpTo checked.multipliers checked.limit x
      → IsFirstCertificate checked (N4 x u)
  n5 : {x : ℕ} {u v other : List ℕ} → PassesImages checked
      → Of checked (λ structure. IsFirstTriple (TwoImages structure) x u v other)
      → IsFirstCertificate checked (N5 x u v other)
  n6 : {x : ℕ} {u : List ℕ} → PassesSingle checked
      → Of checked (λ structure. IsFirstWord (MissingExtension structure) x u)
      → IsFirstCertificate checked (N6 x u)
  n7 : {x : ℕ} {u v : List ℕ} → PassesExtensions checked
      → OfShortlex checked (λ structure. IsFirstPair (ImageNotLeast structure) x u v)
      → IsFirstCertificate checked (N7 x u v)
  n8 : {number : ℕ} {u a b : List ℕ} → PassesLeast checked
      → AtNumber (λ index. IsFirstBroken checked.relations checked.acceptor checked.multipliers
      checked.limit index u a b) number
      → IsFirstCertificate checked (N8 number u a b)

-- the construction is the first that is counted above the limit, and no certificate comes before it
pub data IsFirstCount (checked : Checked) : Construction → Type 0 where
  images : {x : ℕ} → PassesPairs checked
      → IsFirstCountedImages checked.acceptor checked.multipliers checked.limit x
      → IsFirstCount checked (Images x)
  relation : {number : ℕ} → PassesLeast checked
      → AtNumber (IsFirstCountedRelation checked.relations checked.acceptor checked.multipliers
      checked.limit) number
      → IsFirstCount checked (Relation number)

-- what is answered of the automata
abbrev pub AutomataSay : Checked → Automata → Type 0
AutomataSay checked Pass = PassesRelations checked
AutomataSay checked (No cert) = IsFirstCertificate checked cert
AutomataSay checked (TooManyStates which) = IsFirstCount checked which
