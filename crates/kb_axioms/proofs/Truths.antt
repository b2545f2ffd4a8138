-- From multiplier to multiplier, while label words agree.
use Rattle.std.proofs.Common.{◌≡◌, ℕ, suc, ◌+◌, ◌<◌, ◌≤◌, IsTrue, List, [], ◌∷◌, ◌++◌, length, Option, None, Some, refl, sym, ap, ◌∙◌, subst, inl, inr, add-one, arith}
use Rattle.std.proofs.lemmas.Bool.{cases_lt, true≢false}
use Rattle.std.proofs.lemmas.Option.{none-some, same_Some, slice_get_within}
use Rattle.kb_word.specs.Relations.{IsOver, relations_of}
use Rattle.kb_word.specs.declared.presentation.Presentation.{Presentation}
use Rattle.kb_fsa.specs.Language.{Automaton, generators}
use Rattle.kb_leastpair.specs.LeastPair.{IsLeastPair}
use Rattle.kb_structure.specs.Structure.{Structure, AreEqual, IsGenerator, Multiplies}
use Rattle.kb_structure.specs.StructureOf.{accepts_pair, multiplier_of, structure_of}
use Rattle.kb_structure.specs.Certificates.{IsTrueToGroup, PairOfDifferentElements}
use Rattle.kb_structure.specs.Labels.{RelatesProducts}
use Rattle.kb_structure.proofs.OfAutomata.{multiplied_pair, pair_multiplied}
use Rattle.kb_certificates.specs.First.{IsFirstPair}
use Rattle.kb_labels.specs.Labels.{labelling_of}
use Rattle.kb_axioms.specs.Truth.{AreMultipliers, IsDifferentPair}

-- each multiplier up to this generator's relates only words that differ by its generator
abbrev pub RelateProductsUpTo : Presentation → List Automaton → ℕ → Type 0
RelateProductsUpTo presentation multipliers most = (x : ℕ) (multiplier : Automaton) → x ≤ most
    → multiplier_of multipliers x ≡ Some multiplier → (label : ℕ → List ℕ) → RelatesProducts (labelling_of presentation x multiplier label)

-- a fact of each multiplier up to a generator's, and of that of the next
pub one_more : (P : ℕ → Automaton → Type 0) (multipliers : List Automaton) (x : ℕ) (multiplier : Automaton)
    → multiplier_of multipliers (x + 1) ≡ Some multiplier
    → ((y : ℕ) (other : Automaton) → y ≤ x → multiplier_of multipliers y ≡ Some other → P y other) → P (x + 1) multiplier
    → (y : ℕ) (other : Automaton) → y ≤ x + 1 → multiplier_of multipliers y ≡ Some other → P y other
one_more P multipliers x multiplier at earlier here y other low is = elim (cases_lt x y) [
  | inl above ↦
      let same : x + 1 ≡ y = omega arith in
      let Q : ℕ → Type 0 = λ z. P z other in
      subst Q same (subst (P (x + 1)) (same_Some multiplier other (sym at ∙ ap (multiplier_of multipliers) same ∙ is)) here)
  | inr within ↦ earlier y other within is
]

-- none comes before the first
pub none_before : (P : ℕ → Automaton → Type 0) (multipliers : List Automaton) (y : ℕ) (other : Automaton) → y ≤ 0
    → multiplier_of multipliers y ≡ Some other → P y other
none_before P multipliers y other low is =
    let none : y ≡ 0 = omega arith in absurd (none-some other (sym (ap (multiplier_of multipliers) none) ∙ is))

module _ (presentation : Presentation) (multipliers : List Automaton) (are : AreMultipliers presentation.n multipliers)
    (most : ℕ) (all : RelateProductsUpTo presentation multipliers most) (acceptor : Automaton)
    (same : generators acceptor.alphabet ≡ presentation.n) where
  abbrev structure : Structure
  structure = structure_of presentation.order (relations_of presentation.inv presentation.eqs) acceptor multipliers

  -- the pair has a multiplier
  has_multiplier : (found : Option Automaton) (u v : List ℕ) → IsTrue (accepts_pair found u v) → (multiplier : Automaton) × (found ≡ Some multiplier)
  has_multiplier None u v accepted = absurd (true≢false (sym accepted))
  has_multiplier (Some multiplier) u v accepted = (multiplier, refl)

  -- a pair of one of the multipliers so far differs by its generator
  true_so_far : (x : ℕ) (u v : List ℕ) → x ≤ most → Multiplies structure x u v → AreEqual structure (u ++ x ∷ []) v
  true_so_far x u v within multiplies =
      let has = has_multiplier (multiplier_of multipliers x) u v multiplies.accepted in
      let multiplier = has.0 in
      let reads : presentation.n ≡ generators multiplier.alphabet = sym (ap generators (are.pairs x multiplier has.1)) in
      let P : ℕ → Type 0 = λ n. IsOver n u in
      let Q : ℕ → Type 0 = λ n. IsOver n v in
      all x multiplier within has.1 (λ state. []) u v
      (subst P (same ∙ reads) multiplies.first_letters) (subst Q (same ∙ reads) multiplies.second_letters)
      (multiplied_pair presentation.order (relations_of presentation.inv presentation.eqs) acceptor multipliers x multiplier has.1 u v multiplies)

  pub true_to_group : length multipliers ≤ most → IsTrueToGroup structure
  true_to_group whole x u v generator multiplies =
      true_so_far x u v (omega (arith, generator.1, are.one_each, same, whole)) multiplies

  -- the next multiplier's least pair of words that don't differ by its generator is the first of all
  module _ (multiplier : Automaton) (at : multiplier_of multipliers (most + 1) ≡ Some multiplier) where
    abbrev x : ℕ
    x = most + 1

    generator : IsGenerator structure x
    generator =
        let next : multiplier_of multipliers (suc most) ≡ Some multiplier = sym (ap (multiplier_of multipliers) (add-one most)) ∙ at in
        let within : most < length multipliers = slice_get_within multipliers most multiplier next in
        (omega arith, omega (arith, within, are.one_each, same))

    different_elements : (u v : List ℕ) → IsDifferentPair presentation multiplier x u v → PairOfDifferentElements structure x u v
    different_elements u v pair =
        let U : ℕ → Type 0 = λ n. IsOver n u in
        let V : ℕ → Type 0 = λ n. IsOver n v in
        record {
          generator = generator;
          multiplies = pair_multiplied presentation.order (relations_of presentation.inv presentation.eqs) acceptor multipliers x multiplier at u v
              (subst U (sym same) pair.first_over) (subst V (sym same) pair.second_over) pair.accepted;
          different = pair.different;
        }

    different_pair : (u v : List ℕ) → PairOfDifferentElements structure x u v → IsDifferentPair presentation multiplier x u v
    different_pair u v elements =
        let U : ℕ → Type 0 = λ n. IsOver n u in
        let V : ℕ → Type 0 = λ n. IsOver n v in
        record {
          first_over = subst U same elements.multiplies.first_letters;
          second_over = subst V same elements.multiplies.second_letters;
          accepted =
              multiplied_pair presentation.order (relations_of presentation.inv presentation.eqs) acceptor multipliers x multiplier at u v elements.multiplies;
          different = elements.different;
        }

    pub first_different : (u v : List ℕ) → IsLeastPair (IsDifferentPair presentation multiplier x) u v
        → IsFirstPair (PairOfDifferentElements structure) x u v
    first_different u v is = record {
      no_earlier = λ y first second less elements.
          elements.different (true_so_far y first second (omega (arith, less)) elements.multiplies);
      least = record {
        holds = different_elements u v is.holds;
        least_first = λ first second elements less. is.least_first first second (different_pair first second elements) less;
        least_second = λ second elements less. is.least_second second (different_pair u second elements) less;
      };
    }
