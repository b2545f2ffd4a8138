-- The orders of words are reduction orders, and what measures descents along them.
use Rattle.std.proofs.Common.{ℕ, ◌<◌, ◌≤◌, ◌^◌, List, length, All, arith}
use Rattle.kb_word.specs.Words.{Less}
use Rattle.kb_word.specs.Weights.{LessByWeight}
use Rattle.kb_word.specs.Order.{IsReductionOrder, rank}
use Rattle.kb_word.specs.WordOrders.{Below, AreReductionOrders}
use Rattle.kb_word.specs.ShortlexLaws.{shortlex_order, rank_falls}
use Rattle.kb_word.specs.WeightLaws.{repeated, repeated-less, repeated-long, All-repeated, by_weight_order}
use Rattle.kb_word.specs.declared.word_order.WordOrder.{WordOrder}
use Rattle.kb_word.specs.declared.word_order.WordOrder.TheVariants.{ShortLex, WtLex}

-- each order of words is a reduction order
pub word_orders : AreReductionOrders Below
word_orders ShortLex = shortlex_order
word_orders (WtLex weights) = by_weight_order weights

-- The word of which the order is shortlex: the word itself, or with each letter repeated as often as it weighs.
abbrev pub spread : WordOrder → List ℕ → List ℕ
spread ShortLex w = w
spread (WtLex weights) w = repeated weights w

pub spread-less : (order : WordOrder) (u v : List ℕ) → Below order u v
    → Less (spread order u) (spread order v)
spread-less ShortLex u v less = less
spread-less (WtLex weights) u v less = repeated-less weights u v less

-- it is no shorter
pub spread-long : (order : WordOrder) (w : List ℕ) → length w ≤ length (spread order w)
spread-long ShortLex w = omega arith
spread-long (WtLex weights) w = repeated-long weights w

spread-letters : (order : WordOrder) (w : List ℕ) → All (λ x. x < 2 ^ 16) w
    → All (λ x. x < 2 ^ 16) (spread order w)
spread-letters ShortLex w letters = letters
spread-letters (WtLex weights) w letters = All-repeated (λ x. x < 2 ^ 16) weights w letters

-- the word's number, which measures descents along the order
abbrev pub order_rank : WordOrder → List ℕ → ℕ
order_rank order w = rank (spread order w)

-- it falls along the order, where the letters are below 2^16
pub order_rank_falls : (order : WordOrder) (u v : List ℕ) → All (λ x. x < 2 ^ 16) u
    → All (λ x. x < 2 ^ 16) v
    → Below order u v → order_rank order u < order_rank order v
order_rank_falls order u v g h less =
    rank_falls (spread order u) (spread order v) (spread-letters order u g)
    (spread-letters order v h) (spread-less order u v less)
