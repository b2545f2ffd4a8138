-- The tokens of words and records.
use Rattle.std.specs.Prelude.{ℕ, ℤ, List}

pub data Token : Type 0 where
  name : List ℕ → Token
  number : ℤ → Token
  string : List ℕ → Token
  assign : Token
  open_round : Token
  close_round : Token
  open_square : Token
  close_square : Token
  comma : Token
  semicolon : Token
  star : Token
  caret : Token
  dots : Token
  rec_word : Token
