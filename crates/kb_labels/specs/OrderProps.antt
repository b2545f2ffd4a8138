-- That rules decrease has one proof at most.
use Rattle.std.proofs.Common.{◌≡◌, ℕ, ◌<◌, List, [], ◌∷◌, length, inl, inr, ap, ap₂, arith}
use Rattle.std.proofs.Props.{props}
use Rattle.std.specs.Coded.{×_prop, Π_prop}
use Rattle.kb_word.specs.Words.{Pair, OneOf, IsEarlier, Less, shorter, earlier}
use Rattle.kb_word.specs.Weights.{LessByWeight, lighter, as_heavy, word_weight}
use Rattle.kb_word.specs.WordOrders.{Below}
use Rattle.kb_word.specs.Rewriting.{AreDecreasing}
use Rattle.kb_word.specs.declared.word_order.WordOrder.{WordOrder}
use Rattle.kb_word.specs.declared.word_order.WordOrder.TheVariants.{ShortLex, WtLex}

lt_prop : (m n : ℕ) → IsProp (m < n)
lt_prop m n = hlevel props

eq_prop : (m n : ℕ) → IsProp (m ≡ n)
eq_prop m n = hlevel props

earlier_prop : (u v : List ℕ) → IsProp (IsEarlier u v)
earlier_prop [] v one two = absurd one
earlier_prop (x ∷ u) [] one two = absurd one
earlier_prop (x ∷ u) (y ∷ v) (inl one) (inl two) = ap (λ p. inl p) (lt_prop x y one two)
earlier_prop (x ∷ u) (y ∷ v) (inl one) (inr two) = absurd (let alike = two.0 in let no : ⊥ = omega arith in no)
earlier_prop (x ∷ u) (y ∷ v) (inr one) (inl two) = absurd (let alike = one.0 in let no : ⊥ = omega arith in no)
earlier_prop (x ∷ u) (y ∷ v) (inr one) (inr two) = ap (λ p. inr p) (×_prop (eq_prop x y) (earlier_prop u v) one two)

less_prop : (u v : List ℕ) → IsProp (Less u v)
less_prop u v (shorter one) (shorter two) = ap (λ p. shorter p) (lt_prop (length u) (length v) one two)
less_prop u v (shorter one) (earlier alike two) = absurd (let no : ⊥ = omega arith in no)
less_prop u v (earlier alike one) (shorter two) = absurd (let no : ⊥ = omega arith in no)
less_prop u v (earlier alike one) (earlier also two) =
    ap₂ (λ p q. earlier p q) (eq_prop (length u) (length v) alike also) (earlier_prop u v one two)

weight_prop : (weights u v : List ℕ) → IsProp (LessByWeight weights u v)
weight_prop weights u v (lighter one) (lighter two) =
    ap (λ p. lighter p) (lt_prop (word_weight weights u) (word_weight weights v) one two)
weight_prop weights u v (lighter one) (as_heavy alike two) = absurd (let no : ⊥ = omega arith in no)
weight_prop weights u v (as_heavy alike one) (lighter two) = absurd (let no : ⊥ = omega arith in no)
weight_prop weights u v (as_heavy alike one) (as_heavy also two) =
    ap₂ (λ p q. as_heavy p q) (eq_prop (word_weight weights u) (word_weight weights v) alike also)
    (earlier_prop u v one two)

below_prop : (order : WordOrder) (u v : List ℕ) → IsProp (Below order u v)
below_prop ShortLex u v = less_prop u v
below_prop (WtLex weights) u v = weight_prop weights u v

pub decreasing_prop : (order : WordOrder) (rules : List Pair) → IsProp (AreDecreasing (Below order) rules)
decreasing_prop order rules =
    Π_prop (λ (rule : Pair). Π_prop (λ (one : OneOf rules rule). below_prop order rule.1 rule.0))
