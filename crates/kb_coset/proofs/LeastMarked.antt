-- The least word that is congruent to a marked word is the marker with the least word of the coset behind it.
use Rattle.std.proofs.Common.{◌≡◌, ℕ, zero, suc, ◌+◌, List, [], ◌∷◌, ◌++◌, unwrap_or, slice_get, refl, sym, ap, ◌∙◌, subst, arith}
use Rattle.std.specs.List.{All}
use Rattle.kb_word.specs.Words.{shorter}
use Rattle.kb_word.specs.Congruence.{IsLeast}
use Rattle.kb_word.specs.Relations.{IsOver}
use Rattle.kb_word.specs.Weights.{lighter, as_heavy, at_least_one, letter_weight, word_weight}
use Rattle.kb_word.specs.WeightLaws.{letter_weighs, weight-cons}
use Rattle.kb_word.specs.WordOrders.{Below}
use Rattle.kb_word.specs.WordOrderLaws.{word_orders}
use Rattle.kb_word.specs.Presentations.{PresentationParts}
use Rattle.kb_word.specs.declared.word_order.WordOrder.{WordOrder}
use Rattle.kb_word.specs.declared.word_order.WordOrder.TheVariants.{ShortLex, WtLex}
use Rattle.std.proofs.lemmas.List.{append-nil}
use Rattle.kb_coset.specs.Cosets.{SameCoset, IsLeastInCoset}
use Rattle.kb_coset.specs.Marked.{ArePresentation, relations, marked_order, marked_parts, marked_word}
use Rattle.kb_coset.proofs.Marks.{congruent_of_coset, behind_marker}

-- ---- the marker's weight is that of a letter without one

weight_with_marker : (weights : List ℕ) (place : ℕ)
    → unwrap_or (slice_get (weights ++ 1 ∷ []) place) 1 ≡ unwrap_or (slice_get weights place) 1
weight_with_marker [] zero = refl
weight_with_marker [] (suc place) = refl
weight_with_marker (k ∷ weights) zero = refl
weight_with_marker (k ∷ weights) (suc place) = weight_with_marker weights place

letter_weight_same : (weights : List ℕ) (x : ℕ) → letter_weight (weights ++ 1 ∷ []) x ≡ letter_weight weights x
letter_weight_same weights zero = refl
letter_weight_same weights (suc place) = ap at_least_one (weight_with_marker weights place)

word_weight_same : (weights w : List ℕ) → word_weight (weights ++ 1 ∷ []) w ≡ word_weight weights w
word_weight_same weights [] = refl
word_weight_same weights (x ∷ w) =
    let longer = weights ++ 1 ∷ [] in
    weight-cons longer x w
    ∙ ap (λ k. k + word_weight longer w) (letter_weight_same weights x)
    ∙ ap (λ k. letter_weight weights x + k) (word_weight_same weights w)
    ∙ sym (weight-cons weights x w)

-- so the marked order is the same on all words
below_marked : (order : WordOrder) (u v : List ℕ) → Below order u v → Below (marked_order order) u v
below_marked ShortLex u v below = below
below_marked (WtLex weights) u v (lighter less) =
    let first = word_weight_same weights u in
    let second = word_weight_same weights v in
    lighter (omega (arith, less, first, second))
below_marked (WtLex weights) u v (as_heavy same early) =
    as_heavy (word_weight_same weights u ∙ same ∙ sym (word_weight_same weights v)) early

-- ---- a word behind others is less

below_behind_letter : (order : WordOrder) (x : ℕ) (w : List ℕ) → Below order w (x ∷ w)
below_behind_letter ShortLex x w = shorter (omega arith)
below_behind_letter (WtLex weights) x w =
    let whole = weight-cons weights x w in
    let some = letter_weighs weights x in
    lighter (omega (arith, whole, some))

below_behind : (order : WordOrder) (x : ℕ) (front w : List ℕ) → Below order w ((x ∷ front) ++ w)
below_behind order x [] w = below_behind_letter order x w
below_behind order x (y ∷ front) w =
    let laws = word_orders order in
    laws.transitive w ((y ∷ front) ++ w) (x ∷ ((y ∷ front) ++ w)) (below_behind order y front w)
    (below_behind_letter order x ((y ∷ front) ++ w))

-- ---- least words

module _ (n : ℕ) (generators : List (List ℕ)) (parts : PresentationParts) (is : ArePresentation n parts)
    (generators_over : All (IsOver n) generators) where
  IsMarkedLeast : List ℕ → List ℕ → Type 0
  IsMarkedLeast u least = IsLeast (Below (marked_order parts.order)) (relations (marked_parts n generators parts)) (marked_word n u) least

  -- nothing stands before the marker of a least word
  nothing_before : (u least front back : List ℕ) → IsMarkedLeast u least → least ≡ front ++ marked_word n back
      → SameCoset (relations parts) generators u back → front ≡ []
  unfolding IsMarkedLeast
  nothing_before u least [] back minimal whole same = refl
  nothing_before u least (x ∷ front) back minimal whole same =
      let lower = below_behind (marked_order parts.order) x front (marked_word n back) in
      let P : List ℕ → Type 0 = λ w. Below (marked_order parts.order) (marked_word n back) w in
      absurd (minimal.least (marked_word n back) (congruent_of_coset n generators parts u back same) (subst P (sym whole) lower))

  -- no word of the coset is below what stands behind the marker of a least word
  none_below : (u least back v : List ℕ) → IsMarkedLeast u least → least ≡ marked_word n back
      → SameCoset (relations parts) generators u v → ¬ Below parts.order v back
  unfolding IsMarkedLeast
  none_below u least back v minimal whole same below =
      let order = marked_order parts.order in
      let laws = word_orders order in
      let longer = laws.kept ((n + 1) ∷ []) [] v back (below_marked parts.order v back below) in
      let P : List ℕ → Type 0 = λ w. Below order (marked_word n w) (marked_word n (back ++ [])) in
      let Q : List ℕ → Type 0 = λ w. Below order (marked_word n v) (marked_word n w) in
      let R : List ℕ → Type 0 = λ w. Below order (marked_word n v) w in
      let lower = subst Q (append-nil back) (subst P (append-nil v) longer) in
      minimal.least (marked_word n v) (congruent_of_coset n generators parts u v same) (subst R (sym whole) lower)

  pub least_marked : (u least : List ℕ) → IsOver n u
      → IsLeast (Below (marked_order parts.order)) (relations (marked_parts n generators parts)) (marked_word n u) least
      → (m : List ℕ) × (least ≡ marked_word n m) × IsLeastInCoset (Below parts.order) (relations parts) generators u m
  unfolding IsMarkedLeast
  least_marked u least over minimal =
      let has = behind_marker n generators parts is generators_over u least over minimal.congruent in
      let alone = nothing_before u least has.front has.back minimal has.whole has.same_coset in
      let whole : least ≡ marked_word n has.back = has.whole ∙ ap (λ w. w ++ marked_word n has.back) alone in
      (has.back, whole, record { same_coset = has.same_coset; least = λ v. none_below u least has.back v minimal whole })
