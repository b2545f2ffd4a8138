-- Least words: by confluent rules they are the irreducible ones. Proved of any reduction order.
use Rattle.std.proofs.Common.{◌≡◌, ℕ, List, ◌++◌, refl, inl, inr}
use Rattle.kb_word.specs.Words.{Pair, OneOf}
use Rattle.kb_word.specs.Order.{IsReductionOrder}
use Rattle.kb_word.specs.Congruence.{Congruent, Replaces, IsLeast}
use Rattle.kb_word.specs.Rewriting.{AreDecreasing, IsIrreducible, NormalForm}
use Rattle.kb_word.specs.Overlap.{IsConfluent}
use Rattle.kb_word.proofs.PathLemmas.{congruent_reflexive, congruent_symmetric, congruent_transitive, congruent_by_replacement, congruent_covered}
use Rattle.kb_rules.proofs.Unique.{irreducible_is_normal}
use Rattle.kb_rules.proofs.Reducts.{normal_form_congruent, replaced_below}
use Rattle.kb_confluence.proofs.LeastWords.{normal_form_least}
use Rattle.kb_reduced.specs.Reduced.{IsLeastWord}

module _ {below : List ℕ → List ℕ → Type 0} (order : IsReductionOrder below) where
  -- congruent least words are equal
  pub least_equal : {pairs : List Pair} (u v : List ℕ) → Congruent (OneOf pairs) u v → IsLeastWord below pairs u
      → IsLeastWord below pairs v → u ≡ v
  least_equal u v congruent first second =
      elim (order.total u v) [
        | inl same ↦ same
        | inr apart ↦ elim apart [
          | inl lower ↦ absurd (second.least u (congruent_symmetric congruent) lower)
          | inr lower ↦ absurd (first.least v congruent lower)
        ]
      ]

  -- the least word that is congruent to a word is least
  pub least_of_class : {pairs : List Pair} (w m : List ℕ) → IsLeast below pairs w m → IsLeastWord below pairs m
  least_of_class w m least = record {
    congruent = congruent_reflexive m;
    least = λ v congruent. least.least v (congruent_transitive least.congruent congruent);
  }

  -- what a least word is congruent to has it as its least word
  pub least_from_word : {pairs : List Pair} (w m : List ℕ) → Congruent (OneOf pairs) w m → IsLeastWord below pairs m
      → IsLeast below pairs w m
  least_from_word w m congruent least = record {
    congruent = congruent;
    least = λ v other. least.least v (congruent_transitive (congruent_symmetric congruent) other);
  }

  -- a word has one least word
  pub one_least : {pairs : List Pair} (w m n : List ℕ) → IsLeast below pairs w m → IsLeast below pairs w n → m ≡ n
  one_least w m n first second =
      least_equal m n (congruent_transitive (congruent_symmetric first.congruent) second.congruent) (least_of_class w m first)
      (least_of_class w n second)

  -- a least word is irreducible by decreasing pairs that keep the congruence
  pub least_irreducible : {pairs : List Pair} (rules : List Pair) → AreDecreasing below rules
      → ((rule : Pair) → OneOf rules rule → Congruent (OneOf pairs) rule.0 rule.1)
      → (w : List ℕ) → IsLeastWord below pairs w → IsIrreducible (OneOf rules) w
  least_irreducible {pairs = pairs} rules decreasing kept w least before rule after one whole =
      let v : List ℕ = before ++ rule.1 ++ after in
      let step : Replaces (OneOf rules) w v =
      record { before = before; pair = rule; after = after; is_allowed = one; from = whole; to = refl } in
      least.least v (congruent_covered kept (congruent_by_replacement step)) (replaced_below order decreasing step)

  module _ (rules : List Pair) (decreasing : AreDecreasing below rules) (confluent : IsConfluent rules) where
    -- the normal form is least
    pub normal_least : (w m : List ℕ) → NormalForm rules w m → IsLeast below rules w m
    normal_least w m normal = record {
      congruent = normal_form_congruent normal;
      least = normal_form_least order rules decreasing confluent w m normal;
    }

    -- an irreducible word is least
    pub irreducible_least : (w : List ℕ) → IsIrreducible (OneOf rules) w → IsLeastWord below rules w
    irreducible_least w irreducible = normal_least w w (irreducible_is_normal rules w irreducible)
