-- Least words, one of each class.
use Rattle.std.proofs.Common.{◌≡◌, ℕ, List, [], ◌++◌, inl, inr}
use Rattle.kb_word.specs.Words.{Pair, OneOf}
use Rattle.kb_word.specs.Order.{IsReductionOrder, Accessible}
use Rattle.kb_word.specs.Order.Accessible.{accessible}
use Rattle.kb_word.specs.WordOrders.{Below}
use Rattle.kb_word.specs.WordOrderLaws.{word_orders}
use Rattle.kb_word.specs.Congruence.{Congruent, IsLeast}
use Rattle.kb_word.specs.Relations.{IsOver}
use Rattle.kb_word.proofs.PathLemmas.{congruent_reflexive, congruent_symmetric, congruent_transitive}
use Rattle.kb_structure.specs.Structure.{Structure, AreEqual, IsRepresentative}
use Rattle.kb_structure.proofs.Words.{congruent_before}
use Rattle.kb_structure.proofs.Letters.{over_empty, over_front}

no_descent : {below : List ℕ → List ℕ → Type 0} → IsReductionOrder below → (v : List ℕ) → below v []
    → (u : List ℕ) → Accessible below u → ⊥
no_descent {below = below} order v least u (accessible lower) =
    let P : List ℕ → Type 0 = λ w. below (v ++ u) w in
    no_descent order v least (v ++ u) (lower (v ++ u) (order.kept [] u v [] least))

-- nothing is below the empty word
nothing_below_empty : {below : List ℕ → List ℕ → Type 0} → IsReductionOrder below → (v : List ℕ) → ¬ below v []
nothing_below_empty order v least = no_descent order v least [] (order.well_founded [])

-- It can't be that a class has no least word. Which one it is, nobody says: the congruence needn't be decidable.
pub not_without_least : {below : List ℕ → List ℕ → Type 0} (pairs : List Pair) (w u : List ℕ) → Accessible below u
    → Congruent (OneOf pairs) w u → ((m : List ℕ) → ¬ IsLeast below pairs w m) → ⊥
not_without_least pairs w u (accessible lower) congruent none =
    none u (record {
      congruent = congruent;
      least = λ v other less. not_without_least pairs w v (lower v less) other none;
    })

module _ (structure : Structure) where
  pub empty_representative : IsRepresentative structure []
  empty_representative = record {
    letters = over_empty structure.n;
    least = record {
      congruent = congruent_reflexive [];
      least = λ v equal less. nothing_below_empty (word_orders structure.order) v less;
    };
  }

  -- a prefix of a least word is least
  pub prefix_representative : (u w : List ℕ) → IsRepresentative structure (u ++ w) → IsRepresentative structure u
  prefix_representative u w whole =
      let order = word_orders structure.order in
      record {
        letters = over_front structure.n u w whole.letters;
        least = record {
          congruent = congruent_reflexive u;
          least = λ v equal less. whole.least.least (v ++ w) (congruent_before w equal) (order.kept [] w v u less);
        };
      }

  -- two least words of one class are the same
  pub one_representative : (u v : List ℕ) → IsRepresentative structure u → IsRepresentative structure v
      → AreEqual structure u v → u ≡ v
  one_representative u v first second equal =
      let order = word_orders structure.order in
      elim (order.total u v) [
        | inl same ↦ same
        | inr apart ↦ elim apart [
          | inl lower ↦ absurd (second.least.least u (congruent_symmetric equal) lower)
          | inr upper ↦ absurd (first.least.least v equal upper)
        ]
      ]

  -- the least word of a class is least
  pub least_of_class : (w m : List ℕ) → IsOver structure.n m → IsLeast (Below structure.order) structure.relations w m
      → IsRepresentative structure m
  least_of_class w m letters least = record {
    letters = letters;
    least = record {
      congruent = congruent_reflexive m;
      least = λ v equal. least.least v (congruent_transitive least.congruent equal);
    };
  }
