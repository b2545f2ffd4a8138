-- What a presentation says.
use Rattle.std.specs.Prelude.{ℕ, List, Option}
use Rattle.kb_word.specs.Words.{Pair}
use Rattle.kb_word.specs.declared.word_order.WordOrder.{WordOrder}
use Rattle.kb_word.specs.declared.presentation.Presentation.{Presentation}

-- a presentation as files and words see it: its order, its generators' names and inverses, and its equations
pub record PresentationParts : Type 0 where
  pub order : WordOrder
  pub names : List (List ℕ)
  pub inverses : List (Option ℕ)
  pub equations : List Pair

-- the parts of a presentation of the code
abbrev pub parts_of : Presentation → PresentationParts
parts_of presentation =
    record {
      order = presentation.order;
      names = presentation.names;
      inverses =
          presentation.inv;
      equations = presentation.eqs;
    }
