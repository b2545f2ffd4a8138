-- Following words where each accepted word has exactly one image under each generator.
use Rattle.std.proofs.Common.{◌≡◌, ◌∙◌, ℕ, Bool, true, false, IsTrue, List, [], ◌∷◌, refl, sym, subst, inl, inr}
use Rattle.std.proofs.lemmas.Bool.{true≢false}
use Rattle.kb_word.specs.Words.{Less}
use Rattle.kb_word.specs.ShortlexLaws.{shortlex_total, shortlex_irreflexive}
use Rattle.kb_word.specs.Relations.{IsOver}
use Rattle.kb_structure.specs.Structure.{Structure, IsGenerator, Accepts, Follows, Multiplies}
use Rattle.kb_structure.proofs.Letters.{over_first, over_later}
use Rattle.kb_relations.specs.Images.{HasUniqueImages}

pub decided : (b : Bool) → (¬ IsTrue b → ⊥) → IsTrue b
decided true never = refl
decided false never = absurd (never (λ is. true≢false (sym is)))

same_word : (u v : List ℕ) → ((u ≡ v → ⊥) → ⊥) → u ≡ v
same_word u v never = elim (shortlex_total u v) [
  | inl same ↦ same
  | inr apart ↦ absurd (never (λ same. elim apart [
    | inl lower ↦ let P : List ℕ → Type 0 = λ w. Less w v in shortlex_irreflexive v (subst P same lower)
    | inr upper ↦ let P : List ℕ → Type 0 = λ w. Less v w in shortlex_irreflexive v (subst P same upper)
  ]))
]

module _ (structure : Structure) (unique : HasUniqueImages structure) where
  pub image_accepted : (x : ℕ) (u v : List ℕ) → IsGenerator structure x → Multiplies structure x u v → Accepts structure v
  image_accepted x u v generator multiplies = record {
    letters = multiplies.second_letters;
    accepted = decided (structure.acceptor v) (λ refused. unique.none_outside x u v
        (record { generator = generator; multiplies = multiplies; outside = inr (λ accepts. refused accepts.accepted) }));
  }

  pub one_image : (x : ℕ) (u v other : List ℕ) → IsGenerator structure x → Multiplies structure x u v
      → Multiplies structure x u other → v ≡ other
  one_image x u v other generator one two = same_word v other
      (λ different. unique.no_two x u v other (record { generator = generator; one = one; two = two; different = different }))

  pub leads_somewhere : (w u : List ℕ) → IsOver structure.n w → Accepts structure u → (v : List ℕ) × Follows structure w u v
  leads_somewhere [] u over accepted = (u, refl)
  leads_somewhere (x ∷ w) u over accepted =
      let generator = over_first structure.n x w over in
      let image = unique.images x u generator accepted in
      let rest = leads_somewhere w image.0 (over_later structure.n x w over) (image_accepted x u image.0 generator image.1) in
      (rest.0, (image.0, (image.1, rest.1)))

  pub leads_inside : (w u v : List ℕ) → IsOver structure.n w → Accepts structure u → Follows structure w u v → Accepts structure v
  leads_inside [] u v over accepted same = let P : List ℕ → Type 0 = Accepts structure in subst P same accepted
  leads_inside (x ∷ w) u v over accepted follows =
      let inside = image_accepted x u follows.0 (over_first structure.n x w over) follows.1.0 in
      leads_inside w follows.0 v (over_later structure.n x w over) inside follows.1.1

  pub leads_to_one : (w u v other : List ℕ) → IsOver structure.n w → Follows structure w u v → Follows structure w u other → v ≡ other
  leads_to_one [] u v other over same also = sym same ∙ also
  leads_to_one (x ∷ w) u v other over follows also =
      let same = one_image x u follows.0 also.0 (over_first structure.n x w over) follows.1.0 also.1.0 in
      let P : List ℕ → Type 0 = λ z. Follows structure w z v in
      leads_to_one w also.0 v other (over_later structure.n x w over) (subst P same follows.1.1) also.1.1
