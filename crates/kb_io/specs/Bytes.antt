-- Streams of bytes, and what a call adds to one.
use Rattle.std.specs.Prelude.{◌≡◌, ℕ, List, ◌++◌}
use Rattle.kb_io.specs.Calls.{Calls}

-- what is held now is what was held before, with a prefix of the bytes after it
pub record AppendsPrefix (before now bytes : List ℕ) : Type 0 where
  pub prefix : List ℕ
  pub rest : List ℕ
  pub splits : bytes ≡ prefix ++ rest
  pub appends : now ≡ before ++ prefix

-- a stream over memory: its bytes, still to be read or written so far, the most that one call moves,
-- and its calls
pub record Stream : Type 0 where
  pub bytes : List ℕ
  pub piece : ℕ
  pub calls : Calls

-- the byte that ends a line
abbrev pub newline : ℕ
newline = 10
