-- Comparing words answers `Less` exactly along the shortlex order.
use Rattle.std.proofs.Common.{◌≡◌, ℕ, ◌<◌, List, [], ◌∷◌, length, Bool, nat_eq, refl, sym, ap, ◌∙◌, inl, inr, ◌⊎◌, ◌↔◌, IsTrue, arith, Ordering}
use Rattle.std.specs.declared.cmp.Ordering.TheVariants.{Less as Before, Equal, Greater}
use Rattle.std.specs.Ordering.{MatchOrdering, nat_cmp, ordering_then}
use Rattle.std.specs.Cmp.Lexicographic.{slice_cmp, pointwise}
use Rattle.std.proofs.lemmas.Cmp.{ranked}
use Rattle.kb_word.specs.Comparison.{shortlex_cmp, same_from_pointwise, pointwise_from_same}
use Rattle.kb_word.specs.Words.{Less, shorter, earlier, IsEarlier}
use Rattle.kb_word.specs.Weights.{letter_weight, word_weight, LessByWeight, lighter, as_heavy}
use Rattle.kb_word.specs.WeightLaws.{letter_weighs, weight-cons}

then_before : (x y : ℕ) (o s : Ordering) → MatchOrdering o (x < y) (x ≡ y) (y < x) → ordering_then o s ≡ Before
    → (x < y) ⊎ ((x ≡ y) × (s ≡ Before))
then_before x y Before s m e = inl m
then_before x y Equal s m e = inr (m, e)
then_before x y Greater s m e = cc

first_before : (x y : ℕ) (o s : Ordering) → MatchOrdering o (x < y) (x ≡ y) (y < x) → x < y → ordering_then o s ≡ Before
first_before x y Before s m h = refl
first_before x y Equal s m h = absurd (let no : ⊥ = omega arith in no)
first_before x y Greater s m h = absurd (let no : ⊥ = omega arith in no)

second_before : (x y : ℕ) (o s : Ordering) → MatchOrdering o (x < y) (x ≡ y) (y < x) → x ≡ y → s ≡ Before
    → ordering_then o s ≡ Before
second_before x y Before s m e h = absurd (let no : ⊥ = omega arith in no)
second_before x y Equal s m e h = h
second_before x y Greater s m e h = absurd (let no : ⊥ = omega arith in no)

matched : (x y : ℕ) → MatchOrdering (nat_cmp x y) (x < y) (x ≡ y) (y < x)
matched x y = ranked x y (nat_cmp x y) refl

earlier_from_cmp : (u v : List ℕ) → length u ≡ length v → slice_cmp nat_cmp u v ≡ Before → IsEarlier u v
earlier_from_cmp [] [] l e = cc
earlier_from_cmp [] (y ∷ v) l e = absurd (let no : ⊥ = omega arith in no)
earlier_from_cmp (x ∷ u) [] l e = absurd (let no : ⊥ = omega arith in no)
earlier_from_cmp (x ∷ u) (y ∷ v) l e =
    elim (then_before x y (nat_cmp x y) (slice_cmp nat_cmp u v) (matched x y) e) [
      | inl h ↦ inl h
      | inr h ↦ inr (h.0, earlier_from_cmp u v (omega arith) h.1)
    ]

cmp_from_earlier : (u v : List ℕ) → IsEarlier u v → slice_cmp nat_cmp u v ≡ Before
cmp_from_earlier [] v h = absurd h
cmp_from_earlier (x ∷ u) [] h = absurd h
cmp_from_earlier (x ∷ u) (y ∷ v) (inl h) = first_before x y (nat_cmp x y) (slice_cmp nat_cmp u v) (matched x y) h
cmp_from_earlier (x ∷ u) (y ∷ v) (inr h) =
    second_before x y (nat_cmp x y) (slice_cmp nat_cmp u v) (matched x y) h.0 (cmp_from_earlier u v h.1)

less_from_cmp : (u v : List ℕ) → shortlex_cmp u v ≡ Before → Less u v
less_from_cmp u v e =
    elim (then_before (length u) (length v) (nat_cmp (length u) (length v)) (slice_cmp nat_cmp u v) (matched (length u) (length v)) e) [
      | inl h ↦ shorter h
      | inr h ↦ earlier h.0 (earlier_from_cmp u v h.0 h.1)
    ]

cmp_from_less : (u v : List ℕ) → Less u v → shortlex_cmp u v ≡ Before
cmp_from_less u v (shorter h) =
    first_before (length u) (length v) (nat_cmp (length u) (length v)) (slice_cmp nat_cmp u v) (matched (length u) (length v)) h
cmp_from_less u v (earlier e h) =
    second_before (length u) (length v) (nat_cmp (length u) (length v)) (slice_cmp nat_cmp u v) (matched (length u) (length v)) e
    (cmp_from_earlier u v h)

-- comparing answers `Less` exactly along the shortlex order
pub answer_less : (u v : List ℕ) (o : Ordering) → o ≡ shortlex_cmp u v → (o ≡ Before) ↔ Less u v
answer_less u v o e = (λ h. less_from_cmp u v (sym e ∙ h), λ h. e ∙ cmp_from_less u v h)

-- equality answers true exactly at equal words
pub answer_same : (u v : List ℕ) (b : Bool) → b ≡ pointwise nat_eq u v → IsTrue b ↔ (u ≡ v)
answer_same u v b e = (λ h. same_from_pointwise u v (sym e ∙ h), λ h. e ∙ pointwise_from_same u v h)

-- ---- by weight

-- of two words of one weight the one that comes before is earlier
heavy_from_cmp : (weights u v : List ℕ) → word_weight weights u ≡ word_weight weights v → slice_cmp nat_cmp u v ≡ Before → IsEarlier u v
heavy_from_cmp weights [] [] heavy e = cc
heavy_from_cmp weights [] (y ∷ v) heavy e = absurd (let no : ⊥ = omega (arith, heavy, weight-cons weights y v, letter_weighs weights y) in no)
heavy_from_cmp weights (x ∷ u) [] heavy e = absurd (let no : ⊥ = omega (arith, heavy, weight-cons weights x u, letter_weighs weights x) in no)
heavy_from_cmp weights (x ∷ u) (y ∷ v) heavy e =
    elim (then_before x y (nat_cmp x y) (slice_cmp nat_cmp u v) (matched x y) e) [
      | inl h ↦ inl h
      | inr h ↦
          let rest : word_weight weights u ≡ word_weight weights v =
          omega (arith, heavy, weight-cons weights x u, weight-cons weights y v, ap (letter_weight weights) h.0) in
          inr (h.0, heavy_from_cmp weights u v rest h.1)
    ]

by_weight_from_cmp : (weights u v : List ℕ) → ordering_then (nat_cmp (word_weight weights u) (word_weight weights v)) (slice_cmp nat_cmp u v) ≡ Before
    → LessByWeight weights u v
by_weight_from_cmp weights u v e =
    elim (then_before (word_weight weights u) (word_weight weights v) (nat_cmp (word_weight weights u) (word_weight weights v)) (slice_cmp nat_cmp u v)
    (matched (word_weight weights u) (word_weight weights v)) e) [
      | inl h ↦ lighter h
      | inr h ↦ as_heavy h.0 (heavy_from_cmp weights u v h.0 h.1)
    ]

cmp_from_by_weight : (weights u v : List ℕ) → LessByWeight weights u v
    → ordering_then (nat_cmp (word_weight weights u) (word_weight weights v)) (slice_cmp nat_cmp u v) ≡ Before
cmp_from_by_weight weights u v (lighter h) =
    first_before (word_weight weights u) (word_weight weights v) (nat_cmp (word_weight weights u) (word_weight weights v)) (slice_cmp nat_cmp u v)
    (matched (word_weight weights u) (word_weight weights v)) h
cmp_from_by_weight weights u v (as_heavy e h) =
    second_before (word_weight weights u) (word_weight weights v) (nat_cmp (word_weight weights u) (word_weight weights v)) (slice_cmp nat_cmp u v)
    (matched (word_weight weights u) (word_weight weights v)) e (cmp_from_earlier u v h)

-- weights and then letters compare exactly along the order by weight
pub answer_by_weight : (weights u v : List ℕ) (o : Ordering)
    → o ≡ ordering_then (nat_cmp (word_weight weights u) (word_weight weights v)) (slice_cmp nat_cmp u v)
    → (o ≡ Before) ↔ LessByWeight weights u v
answer_by_weight weights u v o e = (λ h. by_weight_from_cmp weights u v (sym e ∙ h), λ h. e ∙ cmp_from_by_weight weights u v h)
