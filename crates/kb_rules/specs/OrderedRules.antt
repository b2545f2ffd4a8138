-- Rules with the order along which they decrease.
use Rattle.std.specs.Prelude.{List}
use Rattle.kb_word.specs.Words.{Pair}
use Rattle.kb_word.specs.declared.word_order.WordOrder.{WordOrder}

-- a list of rules, and the order along which each of them decreases
pub record OrderedRules : Type 0 where
  pub order : WordOrder
  pub rules : List Pair
