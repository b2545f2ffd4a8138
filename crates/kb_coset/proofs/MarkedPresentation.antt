-- The marked parts are a presentation with one more generator.
use Rattle.std.proofs.Common.{◌≡◌, ℕ, zero, suc, ◌+◌, ◌<◌, ◌≤◌, List, [], ◌∷◌, ◌++◌, length, map, Option, Some, None, refl, sym, ap, ◌∙◌, subst, inl, inr, arith, length-append}
use Rattle.std.specs.Prelude.{slice_get, option_and_then}
use Rattle.std.specs.List.{All}
use Rattle.std.proofs.lemmas.List.Elements.{All-nil, All-cons, All-weaker}
use Rattle.kb_word.specs.Words.{Pair, OneOf}
use Rattle.kb_word.specs.Relations.{inverse_letter, IsOver, IsPresentation}
use Rattle.kb_word.specs.WordOrders.{WeighsEach}
use Rattle.kb_word.specs.Presentations.{PresentationParts}
use Rattle.kb_word.specs.declared.word_order.WordOrder.{WordOrder}
use Rattle.kb_word.specs.declared.word_order.WordOrder.TheVariants.{ShortLex, WtLex}
use Rattle.kb_coset.specs.Marked.{ArePresentation, MarksCosets, marked_order, marked_parts, marked_word, marker_equation, marker_name}
use Rattle.kb_coset.proofs.Letters.{generator_over}
use Rattle.kb_coset.proofs.Relations.{one_of_append, from_generator}
use Rattle.kb_coset.proofs.Marks.{marked_cosets}
use Rattle.kb_coset.proofs.SubgroupCosets.{subgroup_cosets}
use Rattle.kb_coset.proofs.LeastMarked.{least_marked}

-- ---- the parts

same_weights : (one other : List ℕ) → ◌≡◌ {A = WordOrder} (WtLex one) (WtLex other) → one ≡ other
same_weights one other same = cc same

one_weight_more : (n : ℕ) (order : WordOrder) → WeighsEach n order → WeighsEach (n + 1) (marked_order order)
one_weight_more n ShortLex each weights same = absurd (cc same)
one_weight_more n (WtLex old) each weights same =
    let count = each old refl in
    let longer = length-append old (1 ∷ []) in
    let long = ap length (same_weights (old ++ 1 ∷ []) weights same) in
    omega (arith, count, longer, long)

-- the marker has no inverse, as a letter that isn't there has none
at_marker : (inverses : List (Option ℕ)) (place : ℕ)
    → option_and_then (λ inverse. inverse) (slice_get (inverses ++ None ∷ []) place) ≡ option_and_then (λ inverse. inverse) (slice_get inverses place)
at_marker [] zero = refl
at_marker [] (suc place) = refl
at_marker (first ∷ inverses) zero = refl
at_marker (first ∷ inverses) (suc place) = at_marker inverses place

letter_inverse_same : (inverses : List (Option ℕ)) (x : ℕ) → inverse_letter (inverses ++ None ∷ []) x ≡ inverse_letter inverses x
letter_inverse_same inverses zero = refl
letter_inverse_same inverses (suc place) = at_marker inverses place

over_more : (n : ℕ) (w : List ℕ) → IsOver n w → IsOver (n + 1) w
over_more n w over =
    All-weaker (λ x. (0 < x) × (x ≤ n)) (λ x. (0 < x) × (x ≤ n + 1)) (λ x is. (is.0, omega arith)) w over

marked_over : (n : ℕ) (w : List ℕ) → IsOver n w → IsOver (n + 1) (marked_word n w)
marked_over n w over =
    All-cons (λ x. (0 < x) × (x ≤ n + 1)) (n + 1) w (omega arith, omega arith) (over_more n w over)

module _ (n : ℕ) (generators : List (List ℕ)) (parts : PresentationParts) (is : ArePresentation n parts)
    (generators_over : All (IsOver n) generators) where
  marked_letters : (pair : Pair) → OneOf (parts.equations ++ map (marker_equation n) generators) pair
      → IsOver (n + 1) pair.0 × IsOver (n + 1) pair.1
  marked_letters pair one = elim (one_of_append parts.equations (map (marker_equation n) generators) pair one) [
    | inl old ↦
        let both = is.letters pair old in (over_more n pair.0 both.0, over_more n pair.1 both.1)
    | inr new ↦
        let found = from_generator n generators pair new in
        let P : Pair → Type 0 = λ p. IsOver (n + 1) p.0 × IsOver (n + 1) p.1 in
        subst P (sym found.2)
        (marked_over n found.0 (generator_over n generators found.0 generators_over found.1), marked_over n [] (All-nil (λ x. (0 < x) × (x ≤ n))))
  ]

  marked_mutual : (x y : ℕ) → inverse_letter (parts.inverses ++ None ∷ []) x ≡ Some y
      → inverse_letter (parts.inverses ++ None ∷ []) y ≡ Some x
  marked_mutual x y inverts =
      letter_inverse_same parts.inverses y ∙ is.mutual_inverses x y (sym (letter_inverse_same parts.inverses x) ∙ inverts)

  pub marked_is_presentation : ArePresentation (n + 1) (marked_parts n generators parts)
  marked_is_presentation =
      let names = length-append parts.names (marker_name ∷ []) in
      let inverses = length-append parts.inverses (None ∷ []) in
      let one_name = is.one_name_each in
      let one_inverse = is.one_inverse_each in
      record {
        one_weight_each = one_weight_more n parts.order is.one_weight_each;
        one_name_each = omega (arith, names, one_name);
        one_inverse_each = omega (arith, inverses, one_inverse);
        mutual_inverses = marked_mutual;
        letters = marked_letters;
      }

  -- ---- what it is for

  pub marks_cosets : MarksCosets n generators parts (marked_parts n generators parts)
  marks_cosets = record {
    cosets = marked_cosets n generators parts is generators_over;
    subgroup = λ each u v inverse over inverts.
        let marks = marked_cosets n generators parts is generators_over u v over in
        let products = subgroup_cosets n generators parts is each generators_over u v inverse inverts in
        (λ equal. products.0 (marks.0 equal), λ inside. marks.1 (products.1 inside));
    least = least_marked n generators parts is generators_over;
  }

  -- ---- the same, of parts that are equal to these

  module _ (order : WordOrder) (names : List (List ℕ)) (inverses : List (Option ℕ)) (equations : List Pair)
      (order_is : order ≡ marked_order parts.order) (names_are : names ≡ parts.names ++ marker_name ∷ [])
      (inverses_are : inverses ≡ parts.inverses ++ None ∷ [])
      (equations_are : equations ≡ parts.equations ++ map (marker_equation n) generators) where
    made : PresentationParts
    made = record { order = order; names = names; inverses = inverses; equations = equations }

    made_is : made ≡ marked_parts n generators parts
    unfolding made
    made_is =
        let old = marked_parts n generators parts in
        ap (λ o. record { order = o; names = names; inverses = inverses; equations = equations }) order_is
        ∙ ap (λ l. record { order = old.order; names = l; inverses = inverses; equations = equations }) names_are
        ∙ ap (λ l. record { order = old.order; names = old.names; inverses = l; equations = equations }) inverses_are
        ∙ ap (λ l. record { order = old.order; names = old.names; inverses = old.inverses; equations = l }) equations_are

    pub made_presentation : IsPresentation (n + 1) order names inverses equations
    unfolding made
    made_presentation =
        let P : PresentationParts → Type 0 = λ m. ArePresentation (n + 1) m in subst P (sym made_is) marked_is_presentation

    pub made_marks : MarksCosets n generators parts (record { order = order; names = names; inverses = inverses; equations = equations })
    unfolding made
    made_marks = let P : PresentationParts → Type 0 = λ m. MarksCosets n generators parts m in subst P (sym made_is) marks_cosets
