-- Numbers that are weights, and numbers that are none.
use Rattle.std.proofs.Common.{◌≡◌, ◌≢◌, ℕ, ◌+◌, ◌<◌, ◌≤◌, ℤ, pos, List, ◌∷◌, [], ◌++◌, length, map, take, get_or, All, sym, ap, ◌∙◌, arith}
use Rattle.std.proofs.lemmas.List.{length-map, get_or-map, take_all, take_more, map-append}
use Rattle.kb_word.specs.Weights.{IsWeight}
use Rattle.kb_word.specs.WordOrders.{WeighsEach}
use Rattle.kb_word.specs.declared.word_order.WordOrder.{WordOrder}
use Rattle.kb_word.specs.declared.word_order.WordOrder.TheVariants.{ShortLex, WtLex}
use Rattle.kb_record.specs.Tree.{Fields}
use Rattle.kb_presfile.specs.Holds.{AreWeights, HasOrder}

-- the numbers are no weights where one of them is none
pub are_no_weights : (count : ℕ) (numbers : List ℤ) (k : ℕ) (z : ℤ) → k < length numbers → z ≡ get_or numbers k z
    → ((weight : ℕ) → IsWeight weight → z ≢ pos weight) → (weights : List ℕ) → ¬ AreWeights count numbers weights
are_no_weights count numbers k z within at none weights are =
    let counts : length numbers ≡ length weights = ap length are.same ∙ length-map weights pos in
    let inside : k < length weights = omega (arith, within, counts) in
    let there : get_or numbers k z ≡ pos (get_or weights k 0) =
    ap (λ (ns : List ℤ). get_or ns k z) are.same ∙ get_or-map pos weights k 0 z inside in
    none (get_or weights k 0) (are.range k 0 inside) (at ∙ there)

-- one more number that is a weight
pub weights_more : (numbers : List ℤ) (k : ℕ) (z : ℤ) (weights : List ℕ) (weight : ℕ) → k < length numbers → z ≡ get_or numbers k z
    → z ≡ pos weight → take k numbers ≡ map pos weights → take (k + 1) numbers ≡ map pos (weights ++ weight ∷ [])
weights_more numbers k z weights weight within at is before =
    take_more numbers k z within ∙ (ap (λ (ns : List ℤ). ns ++ get_or numbers k z ∷ []) before
    ∙ (ap (λ (n : ℤ). map pos weights ++ n ∷ []) (sym at ∙ is) ∙ sym (map-append pos weights (weight ∷ []))))

-- all numbers are weights
pub are_weights : (count : ℕ) (numbers : List ℤ) (k : ℕ) (weights : List ℕ) → length numbers ≡ count → length numbers ≤ k
    → take k numbers ≡ map pos weights → All IsWeight weights → AreWeights count numbers weights
are_weights count numbers k weights counted all are range =
    let same : numbers ≡ map pos weights = sym (take_all k numbers all) ∙ are in record {
      same = same;
      one_each = sym (length-map weights pos) ∙ (sym (ap length same) ∙ counted);
      range = range;
    }

weights_are : {own weights : List ℕ} → WtLex own ≡ WtLex weights → own ≡ weights
weights_are is = cc

-- the order of a text weighs each generator
pub order_weighs : (given : Fields) (names : List (List ℕ)) (order : WordOrder) (n : ℕ) → HasOrder given names order → n ≡ length names
    → WeighsEach n order
order_weighs given names ShortLex n has count weights is = cc
order_weighs given names (WtLex own) n has count weights is =
    ap length (sym (weights_are {own = own} {weights = weights} is)) ∙ (has.1.are.one_each ∙ sym count)
