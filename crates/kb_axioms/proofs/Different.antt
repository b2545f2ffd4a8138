-- By confluent rules of the group, words are the same element where they have one normal form.
use Rattle.std.proofs.Common.{◌≡◌, ℕ, List, [], ◌∷◌, ◌++◌, ap, sym, subst, inl, inr}
use Rattle.kb_word.specs.Words.{OneOf, Pair as Sides}
use Rattle.kb_word.specs.Relations.{IsOver, relations_of}
use Rattle.kb_word.specs.WordOrders.{Below}
use Rattle.kb_word.specs.WordOrderLaws.{word_orders}
use Rattle.kb_word.specs.Congruence.{Congruent}
use Rattle.kb_word.specs.Rewriting.{AreDecreasing, NormalForm}
use Rattle.kb_word.specs.declared.word_order.WordOrder.{WordOrder}
use Rattle.kb_word.specs.declared.presentation.Presentation.{Presentation}
use Rattle.kb_word.proofs.PathLemmas.{congruent_covered, congruent_same, congruent_symmetric, congruent_transitive}
use Rattle.kb_rules.proofs.Exists.{normal_form_exists}
use Rattle.kb_rules.proofs.Lists.{cases_list}
use Rattle.kb_rules.proofs.Reducts.{normal_form_congruent}
use Rattle.kb_confluence.proofs.LeastWords.{normal_form_least}
use Rattle.kb_fsa.specs.Language.{Automaton, generators}
use Rattle.kb_fsa.specs.declared.alphabet.Alphabet.TheVariants.{Pair}
use Rattle.kb_leastpair.specs.LeastPair.{IsLeastPair}
use Rattle.kb_structure.specs.Labels.{RelatesProducts}
use Rattle.kb_labels.specs.Labels.{AreEqualSides, HaveOneNormalForm, labelling_of}
use Rattle.kb_labels.specs.Unequal.{IsUnequalPair}
use Rattle.kb_axioms.specs.Truth.{AreConfluentRulesOf, IsDifferentPair}

module _ (presentation : Presentation) (rules : List Sides) (order : WordOrder) (decreasing : AreDecreasing (Below order) rules)
    (are : AreConfluentRulesOf presentation rules) where
  abbrev relations : List Sides
  relations = relations_of presentation.inv presentation.eqs

  pub equal_sides : AreEqualSides relations rules
  equal_sides = are.same.covers

  -- no word of the element is below its normal form
  least : (u v m n : List ℕ) → Congruent (OneOf rules) u v → NormalForm rules u m → NormalForm rules v n → ¬ Below order n m
  least u v m n same first second =
      normal_form_least (word_orders order) rules decreasing are.confluent u m first n (congruent_transitive same (normal_form_congruent second))

  -- words that are the same element have one normal form
  pub one_normal_form : HaveOneNormalForm relations rules
  one_normal_form u v m n congruent first second =
      let same : Congruent (OneOf rules) u v = congruent_same are.same congruent in
      elim ((word_orders order).total m n) [
        | inl one ↦ one
        | inr below ↦ elim below [
          | inl lower ↦ absurd (least v u n m (congruent_symmetric same) second first lower)
          | inr greater ↦ absurd (least u v m n same first second greater)
        ]
      ]

  -- and words with one normal form are the same element
  same_element : (u v m n : List ℕ) → NormalForm rules u m → NormalForm rules v n → m ≡ n → Congruent (OneOf relations) u v
  same_element u v m n first second one =
      let P : List ℕ → Type 0 = λ w. Congruent (OneOf rules) u w in
      congruent_covered equal_sides (congruent_transitive (subst P one (normal_form_congruent first)) (congruent_symmetric (normal_form_congruent second)))

  module _ (multiplier : Automaton) (x : ℕ) (alphabet : multiplier.alphabet ≡ Pair presentation.n) where
    number : generators multiplier.alphabet ≡ presentation.n
    number = ap generators alphabet

    different_of_unequal : (u v : List ℕ) → IsUnequalPair rules multiplier x u v → IsDifferentPair presentation multiplier x u v
    different_of_unequal u v unequal =
        let U : ℕ → Type 0 = λ n. IsOver n u in
        let V : ℕ → Type 0 = λ n. IsOver n v in
        record {
          first_over = subst U number unequal.first_over;
          second_over = subst V number unequal.second_over;
          accepted = unequal.accepted;
          different = λ same. unequal.different
              (one_normal_form (u ++ x ∷ []) v unequal.product unequal.other same unequal.product_normal unequal.other_normal);
        }

    unequal_of_different : (u v : List ℕ) → IsDifferentPair presentation multiplier x u v → IsUnequalPair rules multiplier x u v
    unequal_of_different u v pair =
        let U : ℕ → Type 0 = λ n. IsOver n u in
        let V : ℕ → Type 0 = λ n. IsOver n v in
        let product = normal_form_exists (word_orders order) rules decreasing (u ++ x ∷ []) in
        let other = normal_form_exists (word_orders order) rules decreasing v in
        record {
          first_over = subst U (sym number) pair.first_over;
          second_over = subst V (sym number) pair.second_over;
          accepted = pair.accepted;
          product = product.0;
          other = other.0;
          product_normal = product.1;
          other_normal = other.1;
          different = λ one. pair.different (same_element (u ++ x ∷ []) v product.0 other.0 product.1 other.1 one);
        }

    -- the least pair of different normal forms is that of different elements
    pub least_different : (u v : List ℕ) → IsLeastPair (IsUnequalPair rules multiplier x) u v
        → IsLeastPair (IsDifferentPair presentation multiplier x) u v
    least_different u v is = record {
      holds = different_of_unequal u v is.holds;
      least_first = λ first second pair less. is.least_first first second (unequal_of_different first second pair) less;
      least_second = λ second pair less. is.least_second second (unequal_of_different u second pair) less;
    }

    -- a multiplier without a pair of different normal forms relates only words that differ by its generator
    pub none_different : ((u v : List ℕ) → ¬ IsUnequalPair rules multiplier x u v) → (label : ℕ → List ℕ)
        → RelatesProducts (labelling_of presentation x multiplier label)
    none_different none label u v first_over second_over accepted =
        let product = normal_form_exists (word_orders order) rules decreasing (u ++ x ∷ []) in
        let other = normal_form_exists (word_orders order) rules decreasing v in
        elim (cases_list product.0 other.0) [
          | inl one ↦ same_element (u ++ x ∷ []) v product.0 other.0 product.1 other.1 one
          | inr different ↦ absurd (none u v (record {
            first_over = first_over;
            second_over = second_over;
            accepted = accepted;
            product = product.0;
            other = other.0;
            product_normal = product.1;
            other_normal = other.1;
            different = different;
          }))
        ]
