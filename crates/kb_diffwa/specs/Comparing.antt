-- How a word compares with another one, than which it is no longer, as both are read side by side.
use Rattle.std.specs.Prelude.{◌≡◌, ℕ, ◌+◌, ◌<◌, Bool, true, false, nat_eq, nat_lt, if◌then◌else◌, List, length, Option, Some, None}
use Rattle.kb_word.specs.Words.{Less as Precedes}

-- how a word compares in the shortlex order with another one, than which it is no longer
pub data Comparison : Type 0 where
  -- both are one word
  Equal : Comparison
  -- it is as long, and less
  Less : Comparison
  -- it is as long, and greater
  Greater : Comparison
  -- it is shorter, and so less
  Ended : Comparison

-- how v compares with s
pub data Compares (s v : List ℕ) : Comparison → Type 0 where
  equal : v ≡ s → Compares s v Equal
  less : length v ≡ length s → Precedes v s → Compares s v Less
  greater : length v ≡ length s → Precedes s v → Compares s v Greater
  ended : length v < length s → Compares s v Ended

-- words of one letter each that were the same so far
abbrev pub compared_by : ℕ → ℕ → Comparison
compared_by a b = if nat_eq b a then Equal else (if nat_lt b a then Less else Greater)

-- How they compare once s has the letter a more and v the letter b, or none where b is the padding, letter n+1. Where v
-- has ended it has no letter more.
abbrev pub compared : ℕ → Comparison → ℕ → ℕ → Option Comparison
compared n Equal a b = if nat_eq b (n + 1) then Some Ended else Some (compared_by a b)
compared n Less a b = if nat_eq b (n + 1) then Some Ended else Some Less
compared n Greater a b = if nat_eq b (n + 1) then Some Ended else Some Greater
compared n Ended a b = if nat_eq b (n + 1) then Some Ended else None

-- whether a word compares as less
abbrev pub compares_less : Comparison → Bool
compares_less Equal = false
compares_less Less = true
compares_less Greater = false
compares_less Ended = true
