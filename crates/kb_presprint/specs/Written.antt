-- Presentations that are written, as they are read again.
use Rattle.std.specs.Prelude.{◌≤◌, List, length}
use Rattle.kb_word.specs.Words.{Pair, OneOf}
use Rattle.kb_word.specs.Presentations.{PresentationParts}
use Rattle.kb_record.specs.Meaning.{most_letters}
use Rattle.kb_presfile.specs.Holds.{most_equations}

-- the presentation with these rules as its equations
abbrev pub with_equations : PresentationParts → List Pair → PresentationParts
with_equations parts rules =
    record {
      order = parts.order;
      names = parts.names;
      inverses = parts.inverses;
      equations =
          rules;
    }

-- a file may have these rules as its equations: there are not too many, and none of their sides is too long
pub record HaveRoom (rules : List Pair) : Type 0 where
  pub few : length rules ≤ most_equations
  pub short : (rule : Pair) → OneOf rules rule
      → (length rule.0 ≤ most_letters) × (length rule.1 ≤ most_letters)
