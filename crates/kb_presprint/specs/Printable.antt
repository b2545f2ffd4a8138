-- Presentations whose text can be read.
use Rattle.std.specs.Prelude.{◌≡◌, ℕ, List, length}
use Rattle.std.specs.List.{All}
use Rattle.kb_word.specs.Words.{Pair}
use Rattle.kb_word.specs.Weights.{IsWeight}
use Rattle.kb_word.specs.Relations.{IsPresentation}
use Rattle.kb_word.specs.Presentations.{PresentationParts}
use Rattle.kb_word.specs.declared.word_order.WordOrder.TheVariants as orders
use Rattle.kb_record.specs.Spelling.{IsName}

-- The generators are called by Names and have weights that they may have, and the rules are over them.
pub record IsPrintable (parts : PresentationParts) (rules : List Pair) : Type 0 where
  pub names : All IsName parts.names
  pub weights : (weights : List ℕ) → parts.order ≡ orders.WtLex weights → All IsWeight weights
  pub presents : IsPresentation (length parts.names) parts.order parts.names parts.inverses rules
