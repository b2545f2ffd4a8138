-- The symbols of pairs of letters. Over n generators each of the two is a letter, with a number
-- from 1 to n, or the padding, with number n + 1. The symbols are numbered row by row: the first of
-- the two is the row, the second the column.
use Rattle.std.specs.Prelude.{ℕ, ◌+◌, ◌-◌, ◌*◌, ◌/◌, ◌%◌, nat_eq, Bool}

-- the symbol of two letters
abbrev pub pair_symbol : ℕ → ℕ → ℕ → ℕ
pair_symbol n i j = (n + 1) * (i - 1) + j

-- the first letter of a symbol
abbrev pub first_letter : ℕ → ℕ → ℕ
first_letter n symbol = (symbol - 1) / (n + 1) + 1

-- the second letter
abbrev pub second_letter : ℕ → ℕ → ℕ
second_letter n symbol = (symbol - 1) % (n + 1) + 1

-- whether the first letter is the padding
abbrev pub pads_first : ℕ → ℕ → Bool
pads_first n symbol = nat_eq (first_letter n symbol) (n + 1)

-- whether the second is
abbrev pub pads_second : ℕ → ℕ → Bool
pads_second n symbol = nat_eq (second_letter n symbol) (n + 1)

-- how many symbols there are, the pair of two paddings, which would be the last one, apart
abbrev pub pair_symbols : ℕ → ℕ
pair_symbols n = (n + 1) * (n + 1) - 1
