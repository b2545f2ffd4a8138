-- The order by weight is a reduction order: it is the shortlex order of the words with each letter repeated as often
-- as it weighs.
use Rattle.std.proofs.Common.{◌≡◌, ℕ, zero, suc, pred, ◌+◌, ◌<◌, ◌≤◌, ◌^◌, List, [], ◌∷◌, ◌++◌, length, replicate, sum_by, refl, sym, ap, ◌∙◌, subst, inl, inr, ◌⊎◌, arith, length-append, All, append_assoc}
use Rattle.std.proofs.lemmas.List.{length-replicate}
use Rattle.std.proofs.lemmas.List.Elements.{All-append, All-head, All-tail, All-replicate}
use Rattle.std.proofs.lemmas.List.Sums.{sum_by-cons, sum_by-append}
use Rattle.kb_word.specs.Words.{Less, shorter, earlier, IsEarlier}
use Rattle.kb_word.specs.Order.{Accessible, accessible, IsReductionOrder}
use Rattle.kb_word.specs.Weights.{at_least_one, letter_weight, word_weight, LessByWeight, lighter, as_heavy}
use Rattle.kb_word.specs.ShortlexLaws.{IsEarlier-irreflexive, IsEarlier-transitive, IsEarlier-append, IsEarlier-behind, lex_total-more, compare_cases, shortlex_well_founded}

-- ---- weights

some_at_least_one : (k : ℕ) → at_least_one k ≡ suc (pred (at_least_one k))
some_at_least_one zero = refl
some_at_least_one (suc k) = refl

-- each letter weighs something
pub letter_weighs : (weights : List ℕ) (x : ℕ)
    → letter_weight weights x ≡ suc (pred (letter_weight weights x))
letter_weighs weights zero = refl
letter_weighs weights (suc place) = some_at_least_one _

pub weight-cons : (weights : List ℕ) (x : ℕ) (w : List ℕ)
    → word_weight weights (x ∷ w) ≡ letter_weight weights x + word_weight weights w
weight-cons weights x w = sum_by-cons (letter_weight weights) x w

weight-between : (weights before w after : List ℕ)
    → word_weight weights (before ++ w ++ after)
    ≡ word_weight weights before + word_weight weights w + word_weight weights after
weight-between weights before w after =
    sum_by-append (letter_weight weights) (before ++ w) after
    ∙ ap (λ k. k + word_weight weights after) (sum_by-append (letter_weight weights) before w)

-- ---- the order

by_weight_irreflexive : (weights u : List ℕ) → ¬ LessByWeight weights u u
by_weight_irreflexive weights u (lighter h) = omega arith
by_weight_irreflexive weights u (as_heavy e h) = IsEarlier-irreflexive u h

by_weight_transitive : (weights u v w : List ℕ) → LessByWeight weights u v
    → LessByWeight weights v w → LessByWeight weights u w
by_weight_transitive weights u v w (lighter g) (lighter h) = lighter (omega arith)
by_weight_transitive weights u v w (lighter g) (as_heavy e h) = lighter (omega arith)
by_weight_transitive weights u v w (as_heavy e g) (lighter h) = lighter (omega arith)
by_weight_transitive weights u v w (as_heavy d g) (as_heavy e h) =
    as_heavy (d ∙ e) (IsEarlier-transitive u v w g h)

-- of two words of one weight one is earlier, or they are equal
heavy_total : (weights u v : List ℕ) → word_weight weights u ≡ word_weight weights v
    → (u ≡ v) ⊎ (IsEarlier u v ⊎ IsEarlier v u)
heavy_total weights [] [] e = inl refl
heavy_total weights [] (y ∷ v) e =
    absurd (let no : ⊥ = omega (arith, weight-cons weights y v, letter_weighs weights y) in no)
heavy_total weights (x ∷ u) [] e =
    absurd (let no : ⊥ = omega (arith, weight-cons weights x u, letter_weighs weights x) in no)
heavy_total weights (x ∷ u) (y ∷ v) e = elim (compare_cases x y) [
  | inl less ↦ inr (inl (inl less))
  | inr (inr more) ↦ inr (inr (inl more))
  | inr (inl same) ↦
      let rest : word_weight weights u ≡ word_weight weights v =
      omega (
        arith,
        e,
        weight-cons weights x u,
        weight-cons weights y v,
        ap
            (letter_weight weights) same,
      ) in
      lex_total-more x y u v (inr (inl same)) (heavy_total weights u v rest)
]

by_weight_total : (weights u v : List ℕ)
    → (u ≡ v) ⊎ (LessByWeight weights u v ⊎ LessByWeight weights v u)
by_weight_total weights u v = elim (compare_cases (word_weight weights u) (word_weight weights v)) [
  | inl less ↦ inr (inl (lighter less))
  | inr (inr more) ↦ inr (inr (lighter more))
  | inr (inl e) ↦ elim (heavy_total weights u v e) [
    | inl same ↦ inl same
    | inr (inl h) ↦ inr (inl (as_heavy e h))
    | inr (inr h) ↦ inr (inr (as_heavy (sym e) h))
  ]
]

by_weight_kept : (weights before after u v : List ℕ) → LessByWeight weights u v
    → LessByWeight weights (before ++ u ++ after) (before ++ v ++ after)
by_weight_kept weights before after u v (lighter h) =
    let left = weight-between weights before u after in
    let right = weight-between weights before v after in
    lighter (omega arith)
by_weight_kept weights before after u v (as_heavy e h) =
    let left = weight-between weights before u after in
    let right = weight-between weights before v after in
    as_heavy (omega arith)
    (IsEarlier-append (before ++ u) (before ++ v) after (IsEarlier-behind before u v h))

-- ---- each letter repeated as often as it weighs

abbrev pub repeated : List ℕ → List ℕ → List ℕ
repeated weights [] = []
repeated weights (x ∷ w) = replicate (letter_weight weights x) x ++ repeated weights w

pub length-repeated : (weights w : List ℕ) → length (repeated weights w) ≡ word_weight weights w
length-repeated weights [] = refl
length-repeated weights (x ∷ w) =
    length-append (replicate (letter_weight weights x) x) (repeated weights w)
    ∙ (ap (λ k. k + length (repeated weights w)) (length-replicate (letter_weight weights x) x)
    ∙ (ap (λ k. letter_weight weights x + k) (length-repeated weights w)
    ∙ sym (weight-cons weights x w)))

-- it is no shorter
pub repeated-long : (weights w : List ℕ) → length w ≤ length (repeated weights w)
repeated-long weights [] = omega arith
repeated-long weights (x ∷ w) =
    omega (
      arith,
      letter_weighs weights x,
      repeated-long weights w,
      length-append
          (replicate (letter_weight weights x) x) (repeated weights w),
      length-replicate
          (letter_weight weights x) x,
    )

pub All-repeated : (P : ℕ → Type 0) (weights w : List ℕ) → All P w → All P (repeated weights w)
All-repeated P weights [] all = all
All-repeated P weights (x ∷ w) all =
    All-append P (replicate (letter_weight weights x) x) (repeated weights w)
    (All-replicate P (letter_weight weights x) x (All-head P x w all))
    (All-repeated P weights w (All-tail P x w all))

-- the first letter of those that are repeated
first_of : (weights : List ℕ) (x : ℕ) (rest : List ℕ)
    → replicate (letter_weight weights x) x ++ rest
    ≡ x ∷ (replicate (pred (letter_weight weights x)) x ++ rest)
first_of weights x rest = ap (λ k. replicate k x ++ rest) (letter_weighs weights x)

repeated-earlier : (weights u v : List ℕ) → IsEarlier u v
    → IsEarlier (repeated weights u) (repeated weights v)
repeated-earlier weights [] v h = absurd h
repeated-earlier weights (x ∷ u) [] h = absurd h
repeated-earlier weights (x ∷ u) (y ∷ v) (inl h) =
    let first : IsEarlier (x ∷ (replicate (pred (letter_weight weights x)) x ++ repeated weights u))
    (y ∷ (replicate (pred (letter_weight weights y)) y ++ repeated weights v)) = inl h in
    let at : List ℕ → Type 0 =
    λ w. IsEarlier w
    (y ∷ (replicate (pred (letter_weight weights y)) y ++ repeated weights v)) in
    subst (IsEarlier (repeated weights (x ∷ u))) (sym (first_of weights y (repeated weights v)))
    (subst at (sym (first_of weights x (repeated weights u))) first)
repeated-earlier weights (x ∷ u) (y ∷ v) (inr h) =
    let at : ℕ → Type 0 =
    λ z. IsEarlier (repeated weights (x ∷ u))
    (replicate (letter_weight weights z) z ++ repeated weights v) in
    subst at h.0 (IsEarlier-behind (replicate (letter_weight weights x) x) (repeated weights u)
    (repeated weights v) (repeated-earlier weights u v h.1))

-- the order by weight is the shortlex order of these words
pub repeated-less : (weights u v : List ℕ) → LessByWeight weights u v
    → Less (repeated weights u) (repeated weights v)
repeated-less weights u v (lighter h) =
    shorter (omega (arith, length-repeated weights u, length-repeated weights v))
repeated-less weights u v (as_heavy e h) =
    earlier (length-repeated weights u ∙ (e ∙ sym (length-repeated weights v)))
    (repeated-earlier weights u v h)

accessible_by : (weights w v : List ℕ) → v ≡ repeated weights w → Accessible Less v
    → Accessible (LessByWeight weights) w
accessible_by weights w v is (accessible lower) =
    accessible (λ u less. accessible_by weights u (repeated weights u) refl
    (lower (repeated weights u)
    (subst (Less (repeated weights u)) (sym is) (repeated-less weights u w less))))

-- the order by weight is a reduction order, on the words over all numbers
pub by_weight_order : (weights : List ℕ) → IsReductionOrder (LessByWeight weights)
by_weight_order weights = record {
  irreflexive = by_weight_irreflexive weights;
  transitive = by_weight_transitive weights;
  total = by_weight_total weights;
  well_founded =
      λ w. accessible_by weights w (repeated weights w) refl
      (shortlex_well_founded (repeated weights w));
  kept = by_weight_kept weights;
}
