-- In a group two words are in one right coset exactly where the first, followed by the inverse of the second, is in the
-- subgroup.
use Rattle.std.proofs.Common.{◌≡◌, ◌↔◌, ℕ, List, [], ◌++◌, Option, Some, refl, sym, ap, ◌∙◌, subst, append_assoc}
use Rattle.std.specs.List.{All}
use Rattle.std.proofs.lemmas.List.{append-nil}
use Rattle.kb_word.specs.Words.{Pair, OneOf}
use Rattle.kb_word.specs.Congruence.{Congruent}
use Rattle.kb_word.specs.Relations.{IsOver, inverse_word}
use Rattle.kb_word.specs.Presentations.{PresentationParts}
use Rattle.kb_word.proofs.PathLemmas.{path_none, path_append, path_step, path_one, path_keeps, path_implied, congruent_reflexive, congruent_symmetric, congruent_transitive}
use Rattle.kb_coset.specs.Subgroups.{EachInverts, IsGenerator, IsSubgroupProduct, empty, by_generator, by_inverse, IsInSubgroup}
use Rattle.kb_coset.specs.Cosets.{CosetStep, by_relation, comes, goes, SameCoset}
use Rattle.kb_coset.specs.Marked.{AreCongruent, ArePresentation, relations}
use Rattle.kb_coset.proofs.Letters.{generator_over}
use Rattle.kb_coset.proofs.Inverting.{congruent_behind, congruent_before, word_inverts, inverse_before, inverse_behind}

-- products one after the other are a product
product_append : (inverses : List (Option ℕ)) (generators : List (List ℕ)) (p q : List ℕ) → IsSubgroupProduct inverses generators p
    → IsSubgroupProduct inverses generators q → IsSubgroupProduct inverses generators (p ++ q)
product_append inverses generators p q empty second = second
product_append inverses generators p q (by_generator {w = w} h is first) second =
    let P : List ℕ → Type 0 = λ z. IsSubgroupProduct inverses generators z in
    subst P (sym (append_assoc h w q)) (by_generator h is (product_append inverses generators w q first second))
product_append inverses generators p q (by_inverse {w = w} h inverse is inverts first) second =
    let P : List ℕ → Type 0 = λ z. IsSubgroupProduct inverses generators z in
    subst P (sym (append_assoc inverse w q)) (by_inverse h inverse is inverts (product_append inverses generators w q first second))

-- a generator of the subgroup is a product, and so is its inverse
one_generator : (inverses : List (Option ℕ)) (generators : List (List ℕ)) (h : List ℕ) → IsGenerator generators h
    → IsSubgroupProduct inverses generators h
one_generator inverses generators h is =
    let P : List ℕ → Type 0 = λ z. IsSubgroupProduct inverses generators z in subst P (append-nil h) (by_generator h is empty)

one_inverse : (inverses : List (Option ℕ)) (generators : List (List ℕ)) (h inverse : List ℕ) → IsGenerator generators h
    → inverse_word inverses h ≡ Some inverse → IsSubgroupProduct inverses generators inverse
one_inverse inverses generators h inverse is inverts =
    let P : List ℕ → Type 0 = λ z. IsSubgroupProduct inverses generators z in
    subst P (append-nil inverse) (by_inverse h inverse is inverts empty)

-- u is a product of the subgroup in front of w
record IsBeforeBy (parts : PresentationParts) (generators : List (List ℕ)) (u w : List ℕ) : Type 0 where
  product : List ℕ
  is_product : IsSubgroupProduct parts.inverses generators product
  equal : AreCongruent parts u (product ++ w)

coset_of_congruent : (given : List Pair) (generators : List (List ℕ)) (u v : List ℕ) → Congruent (OneOf given) u v → SameCoset given generators u v
coset_of_congruent given generators u v equal = path_implied (λ x y touches. by_relation touches) equal

module _ (n : ℕ) (generators : List (List ℕ)) (parts : PresentationParts) (is : ArePresentation n parts) where
  -- a product in front goes, by steps within the coset
  product_goes : (p w : List ℕ) → IsSubgroupProduct parts.inverses generators p → SameCoset (relations parts) generators (p ++ w) w
  product_goes p w empty = path_none w
  product_goes p w (by_generator {w = rest} h is_generator more) =
      path_step (goes h is_generator (append_assoc h rest w)) (product_goes rest w more)
  product_goes p w (by_inverse {w = rest} h inverse is_generator inverts more) =
      let cancels : AreCongruent parts (h ++ ((inverse ++ rest) ++ w)) (rest ++ w) =
      let P : List ℕ → Type 0 = λ z. AreCongruent parts z (rest ++ w) in
      subst P (append_assoc h inverse (rest ++ w) ∙ ap (λ z. h ++ z) (sym (append_assoc inverse rest w)))
      (congruent_before (rest ++ w) (inverse_behind n parts is h inverse inverts)) in
      path_step (comes h is_generator refl)
      (path_append (coset_of_congruent (relations parts) generators (h ++ ((inverse ++ rest) ++ w)) (rest ++ w) cancels)
      (product_goes rest w more))

  -- where u v^-1 is in the subgroup, u and v are in one coset
  pub coset_of_subgroup : (u v inverse : List ℕ) → inverse_word parts.inverses v ≡ Some inverse
      → IsInSubgroup parts.inverses (relations parts) generators (u ++ inverse) → SameCoset (relations parts) generators u v
  coset_of_subgroup u v inverse inverts inside =
      let P : List ℕ → Type 0 = λ z. AreCongruent parts z (u ++ (inverse ++ v)) in
      let Q : List ℕ → Type 0 = λ z. AreCongruent parts z (inside.product ++ v) in
      let longer : AreCongruent parts u (u ++ (inverse ++ v)) =
      subst P (append-nil u) (congruent_behind u (congruent_symmetric (inverse_before n parts is v inverse inverts))) in
      let moved : AreCongruent parts (u ++ (inverse ++ v)) (inside.product ++ v) =
      subst Q (append_assoc u inverse v) (congruent_before v inside.equal) in
      path_append (coset_of_congruent (relations parts) generators u (inside.product ++ v) (congruent_transitive longer moved))
      (product_goes inside.product v inside.is_product)

  module _ (each : EachInverts n parts.inverses) (generators_over : All (IsOver n) generators) where
    -- each step within the coset keeps that u is a product of the subgroup in front of the word
    step_before : (u w other : List ℕ) → CosetStep (relations parts) generators w other
        → IsBeforeBy parts generators u w → IsBeforeBy parts generators u other
    step_before u w other (by_relation touches) has = record {
      product = has.product;
      is_product = has.is_product;
      equal = congruent_transitive has.equal (congruent_behind has.product (path_one touches));
    }
    step_before u w other (comes h is_generator to) has =
        let found = word_inverts n parts.inverses h each (generator_over n generators h generators_over is_generator) in
        let inverse : List ℕ = found.0 in
        let P : List ℕ → Type 0 = λ z. AreCongruent parts z w in
        let Q : List ℕ → Type 0 = λ z. AreCongruent parts (has.product ++ w) z in
        let cancels : AreCongruent parts (inverse ++ other) w =
        subst P (append_assoc inverse h w ∙ ap (λ z. inverse ++ z) (sym to))
        (congruent_before w (inverse_before n parts is h inverse found.1)) in
        let longer : AreCongruent parts (has.product ++ w) ((has.product ++ inverse) ++ other) =
        subst Q (sym (append_assoc has.product inverse other))
        (congruent_behind has.product (congruent_symmetric cancels)) in
        record {
          product = has.product ++ inverse;
          is_product = product_append parts.inverses generators has.product inverse has.is_product
              (one_inverse parts.inverses generators h inverse is_generator found.1);
          equal = congruent_transitive has.equal longer;
        }
    step_before u w other (goes h is_generator from) has =
        let P : List ℕ → Type 0 = λ z. AreCongruent parts u z in
        record {
          product = has.product ++ h;
          is_product = product_append parts.inverses generators has.product h has.is_product
              (one_generator parts.inverses generators h is_generator);
          equal = subst P (ap (λ z. has.product ++ z) from ∙ sym (append_assoc has.product h other)) has.equal;
        }

    -- where u and v are in one coset, u v^-1 is in the subgroup
    pub subgroup_of_coset : (u v inverse : List ℕ) → inverse_word parts.inverses v ≡ Some inverse
        → SameCoset (relations parts) generators u v → IsInSubgroup parts.inverses (relations parts) generators (u ++ inverse)
    subgroup_of_coset u v inverse inverts same =
        let first : IsBeforeBy parts generators u u =
        record { product = []; is_product = empty; equal = congruent_reflexive u } in
        let has = path_keeps (λ (w : List ℕ). IsBeforeBy parts generators u w) (step_before u) same first in
        let P : List ℕ → Type 0 = λ z. AreCongruent parts (u ++ inverse) z in
        let Q : List ℕ → Type 0 = λ z. AreCongruent parts (has.product ++ (v ++ inverse)) z in
        let longer : AreCongruent parts (u ++ inverse) (has.product ++ (v ++ inverse)) =
        subst P (append_assoc has.product v inverse) (congruent_before inverse has.equal) in
        let cancels : AreCongruent parts (has.product ++ (v ++ inverse)) has.product =
        subst Q (append-nil has.product) (congruent_behind has.product (inverse_behind n parts is v inverse inverts)) in
        record { product = has.product; is_product = has.is_product; equal = congruent_transitive longer cancels }

    pub subgroup_cosets : (u v inverse : List ℕ) → inverse_word parts.inverses v ≡ Some inverse
        → SameCoset (relations parts) generators u v
        ↔ IsInSubgroup parts.inverses (relations parts) generators (u ++ inverse)
    subgroup_cosets u v inverse inverts = (subgroup_of_coset u v inverse inverts, coset_of_subgroup u v inverse inverts)
