-- Writing a presentation's text: the pieces on their way.
use Rattle.std.specs.Prelude.{ℕ, List, [], ◌++◌, codes, Option, Some, None}
use Rattle.kb_word.specs.Printed.{letter_name}
use Rattle.kb_word.specs.declared.word_order.WordOrder.{WordOrder}
use Rattle.kb_word.specs.declared.word_order.WordOrder.TheVariants as orders
use Rattle.kb_layout.specs.Layout.{text_of_value}
use Rattle.kb_presprint.specs.Printed.{weights_value}

-- the name of an inverse, or nothing
abbrev pub inverse_text : List (List ℕ) → Option ℕ → List ℕ
inverse_text names None = []
inverse_text names (Some letter) = letter_name names letter

-- the line of the weights, behind what stands before it, where the order goes by weight
abbrev pub weight_line : WordOrder → List ℕ
weight_line orders.ShortLex = []
weight_line (orders.WtLex weights) =
    codes ",\n  weight := " ++ text_of_value 1 (weights_value weights)
