-- The orders of words that a presentation may have.
use Rattle.std.specs.Prelude.{◌≡◌, ℕ, List, length}
use Rattle.kb_word.specs.Order.{IsReductionOrder}
use Rattle.kb_word.specs.Words.{Less}
use Rattle.kb_word.specs.Weights.{LessByWeight}
use Rattle.kb_word.specs.declared.word_order.WordOrder.{WordOrder}
use Rattle.kb_word.specs.declared.word_order.WordOrder.TheVariants.{ShortLex, WtLex}

-- the order: u comes before v
abbrev pub Below : WordOrder → List ℕ → List ℕ → Type 0
Below ShortLex = Less
Below (WtLex weights) = LessByWeight weights

-- the order has one weight for each of n generators, where it goes by weight
abbrev pub WeighsEach : ℕ → WordOrder → Type 0
WeighsEach n order = (weights : List ℕ) → order ≡ WtLex weights → length weights ≡ n

-- all orders of a type are reduction orders
abbrev pub AreReductionOrders : {Order : Type 0} → (Order → List ℕ → List ℕ → Type 0) → Type 0
AreReductionOrders {Order} below = (order : Order) → IsReductionOrder (below order)
