-- Following words by multipliers that satisfy the axioms.
use Rattle.std.proofs.Common.{◌≡◌, ◌∙◌, ℕ, List, [], ◌∷◌, ◌++◌, refl, sym, subst, inl, inr, append_assoc}
use Rattle.std.proofs.lemmas.List.{append-nil}
use Rattle.kb_word.specs.WordOrders.{Below}
use Rattle.kb_word.specs.WordOrderLaws.{word_orders}
use Rattle.kb_word.specs.Relations.{IsOver}
use Rattle.kb_word.proofs.PathLemmas.{path_equal, congruent_transitive}
use Rattle.kb_structure.specs.Structure.{Structure, AreEqual, Accepts, Follows}
use Rattle.kb_structure.specs.Axioms.{SatisfiesAxioms}
use Rattle.kb_structure.specs.Certificates.{IsTrueToGroup}
use Rattle.kb_structure.proofs.Words.{congruent_before}
use Rattle.kb_structure.proofs.Letters.{over_first, over_later, over_rest}

-- following two words one after another is following the word that they make
pub follows_join : (structure : Structure) (w more u middle v : List ℕ) → Follows structure w u middle
    → Follows structure more middle v → Follows structure (w ++ more) u v
follows_join structure [] more u middle v same rest =
    let P : List ℕ → Type 0 = λ z. Follows structure more z v in subst P (sym same) rest
follows_join structure (x ∷ w) more u middle v first rest =
    (first.0, (first.1.0, follows_join structure w more first.0 middle v first.1.1 rest))

pub follows_split : (structure : Structure) (w more u v : List ℕ) → Follows structure (w ++ more) u v
    → (middle : List ℕ) × (Follows structure w u middle × Follows structure more middle v)
follows_split structure [] more u v follows = (u, (refl, follows))
follows_split structure (x ∷ w) more u v follows =
    let rest = follows_split structure w more follows.0 v follows.1.1 in
    (rest.0, ((follows.0, (follows.1.0, rest.1.0)), rest.1.1))

-- Where multipliers lead only to the products in the group, following a word leads to the product with the word.
pub follows_product : (structure : Structure) → IsTrueToGroup structure
    → (w u v : List ℕ) → IsOver structure.n w → Follows structure w u v → AreEqual structure (u ++ w) v
follows_product structure true_to_group [] u v over same = path_equal (u ++ []) v (append-nil u ∙ same)
follows_product structure true_to_group (x ∷ w) u v over follows =
    let next : List ℕ = follows.0 in
    let first : AreEqual structure (u ++ x ∷ []) next =
    true_to_group x u next (over_first structure.n x w over) follows.1.0 in
    let P : List ℕ → Type 0 = λ z. AreEqual structure z (next ++ w) in
    let both : AreEqual structure (u ++ x ∷ w) (next ++ w) =
    subst P (append_assoc u (x ∷ []) w) (congruent_before w first) in
    congruent_transitive both (follows_product structure true_to_group w next v (over_later structure.n x w over) follows.1.1)

module _ (structure : Structure) (axioms : SatisfiesAxioms structure) where
  -- A word acts on accepted words: from each of them it leads to a word,
  pub leads_somewhere : (w u : List ℕ) → IsOver structure.n w → Accepts structure u
      → (v : List ℕ) × Follows structure w u v
  leads_somewhere [] u over accepted = (u, refl)
  leads_somewhere (x ∷ w) u over accepted =
      let by_letter = axioms.multipliers x (over_first structure.n x w over) in
      let image = by_letter.total u accepted in
      let inside = by_letter.inside u image.0 image.1 in
      let rest = leads_somewhere w image.0 (over_later structure.n x w over) inside.1 in
      (rest.0, (image.0, (image.1, rest.1)))

  -- which is accepted,
  pub leads_inside : (w u v : List ℕ) → IsOver structure.n w → Accepts structure u → Follows structure w u v
      → Accepts structure v
  leads_inside [] u v over accepted same = let P : List ℕ → Type 0 = Accepts structure in subst P same accepted
  leads_inside (x ∷ w) u v over accepted follows =
      let by_letter = axioms.multipliers x (over_first structure.n x w over) in
      let inside = by_letter.inside u follows.0 follows.1.0 in
      leads_inside w follows.0 v (over_later structure.n x w over) inside.1 follows.1.1

  -- and to one word alone.
  pub leads_to_one : (w u v other : List ℕ) → IsOver structure.n w → Follows structure w u v
      → Follows structure w u other → v ≡ other
  leads_to_one [] u v other over same also = sym same ∙ also
  leads_to_one (x ∷ w) u v other over follows also =
      let by_letter = axioms.multipliers x (over_first structure.n x w over) in
      let same = by_letter.single_valued u follows.0 also.0 follows.1.0 also.1.0 in
      let P : List ℕ → Type 0 = λ z. Follows structure w z v in
      leads_to_one w also.0 v other (over_later structure.n x w over) (subst P same follows.1.1) also.1.1

  leads_to_extension : (rest front : List ℕ) → Accepts structure (front ++ rest)
      → Follows structure rest front (front ++ rest)
  leads_to_extension [] front accepted = sym (append-nil front)
  leads_to_extension (x ∷ rest) front accepted =
      let regroup : (front ++ x ∷ []) ++ rest ≡ front ++ x ∷ rest = append_assoc front (x ∷ []) rest in
      let P : List ℕ → Type 0 = Accepts structure in
      let whole : Accepts structure ((front ++ x ∷ []) ++ rest) = subst P (sym regroup) accepted in
      let next = axioms.closed_under_prefixes (front ++ x ∷ []) rest whole in
      let generator = over_first structure.n x [] (over_rest structure.n front (x ∷ []) next.letters) in
      let by_letter = axioms.multipliers x generator in
      let Q : List ℕ → Type 0 = λ v. Follows structure rest (front ++ x ∷ []) v in
      (front ++ x ∷ [], (by_letter.extends front next, subst Q regroup (leads_to_extension rest (front ++ x ∷ []) whole)))

  -- an accepted word leads from the empty word to itself
  pub leads_to_itself : (w : List ℕ) → Accepts structure w → Follows structure w [] w
  leads_to_itself w accepted = leads_to_extension w [] accepted

  -- a word leads from u to what is equal to u followed by the word
  pub leads_to_equal : (w u v : List ℕ) → IsOver structure.n w → Follows structure w u v → AreEqual structure (u ++ w) v
  leads_to_equal w u v over follows =
      follows_product structure (λ x u v generator. let by_letter = axioms.multipliers x generator in by_letter.true_to_the_group u v) w u
      v over follows

  -- and to nothing greater
  pub leads_to_no_greater : (w u v : List ℕ) → IsOver structure.n w → Follows structure w u v
      → ¬ Below structure.order (u ++ w) v
  leads_to_no_greater [] u v over same less =
      let order = word_orders structure.order in
      let P : List ℕ → Type 0 = λ z. Below structure.order z v in
      order.irreflexive v (subst P (append-nil u ∙ same) less)
  leads_to_no_greater (x ∷ w) u v over follows less =
      let order = word_orders structure.order in
      let next : List ℕ = follows.0 in
      let by_letter = axioms.multipliers x (over_first structure.n x w over) in
      let rest = leads_to_no_greater w next v (over_later structure.n x w over) follows.1.1 in
      let P : List ℕ → Type 0 = λ z. Below structure.order z v in
      let Q : List ℕ → Type 0 = λ z. Below structure.order (z ++ w) v in
      let longer : Below structure.order ((u ++ x ∷ []) ++ w) v = subst P (sym (append_assoc u (x ∷ []) w)) less in
      elim (order.total (u ++ x ∷ []) next) [
        | inl same ↦ rest (subst Q same longer)
        | inr apart ↦ elim apart [
          | inl greater ↦ by_letter.not_greater u next follows.1.0 greater
          | inr lower ↦
              rest (order.transitive (next ++ w) ((u ++ x ∷ []) ++ w) v (order.kept [] w next (u ++ x ∷ []) lower) longer)
        ]
      ]
