-- Symbols of pairs. Each is that of one row and one column, which are two letters, or a letter and the padding: the
-- padding of the first word is the last row, and that of the second the last column.
use Rattle.std.proofs.Common.{◌≡◌, ℕ, ◌+◌, ◌-◌, ◌*◌, ◌/◌, ◌%◌, ◌<◌, ◌≤◌, true, false, sym, ap, ◌∙◌, inl, inr, arith}
use Rattle.std.proofs.Math.Nat.{mul_comm}
use Rattle.std.proofs.lemmas.Bool.{cases_eq, eq-eqb, ne_eqb}
use Rattle.std.proofs.lemmas.Nat.{mul-le, column_fits, div-add-mod', div-mul-add, mod-mul-add, div_below, mod_below}
use Rattle.kb_fsa.specs.PairSymbols.{pair_symbol, first_letter, second_letter, pads_first, pads_second, pair_symbols}

-- the number is that of a letter
abbrev pub IsLetter : ℕ → ℕ → Type 0
IsLetter n x = (0 < x) × (x ≤ n)

-- the number is that of a symbol of pairs
abbrev pub IsPairSymbol : ℕ → ℕ → Type 0
IsPairSymbol n symbol = (0 < symbol) × (symbol ≤ pair_symbols n)

-- all rows are the last one and those before it
pub square : (n : ℕ) → (n + 1) * (n + 1) ≡ (n + 1) * n + n + 1
square n = grind arith

-- the letters may be padding, but not both
pub IsPairSymbol-first : (n i j : ℕ) → IsLetter n i → (0 < j) × (j ≤ n + 1) → IsPairSymbol n (pair_symbol n i j)
IsPairSymbol-first n i j letter other =
    let fits = column_fits (n + 1) (i - 1) (n + 1) n (omega arith) (omega arith) in
    let whole = square n in
    (omega arith, omega arith)

pub IsPairSymbol-second : (n i j : ℕ) → (0 < i) × (i ≤ n + 1) → IsLetter n j → IsPairSymbol n (pair_symbol n i j)
IsPairSymbol-second n i j letter other =
    let fits = mul-le (n + 1) (i - 1) (n + 1) n (omega arith) (omega arith) in
    let whole = square n in
    (omega arith, omega arith)

-- ---- the two numbers of a symbol

symbol_place : (n i j : ℕ) → 0 < j → pair_symbol n i j - 1 ≡ (i - 1) * (n + 1) + (j - 1)
symbol_place n i j some = let turned = mul_comm (n + 1) (i - 1) in omega arith

-- the letters of the symbol of two letters are those two
pub first_letter-pair_symbol : (n i j : ℕ) → 0 < i → (0 < j) × (j ≤ n + 1) → first_letter n (pair_symbol n i j) ≡ i
first_letter-pair_symbol n i j some column =
    let row : (pair_symbol n i j - 1) / (n + 1) ≡ i - 1 =
    ap (λ place. place / (n + 1)) (symbol_place n i j column.0) ∙ div-mul-add (i - 1) (n + 1) (j - 1) (omega arith) in
    omega arith

pub second_letter-pair_symbol : (n i j : ℕ) → (0 < j) × (j ≤ n + 1) → second_letter n (pair_symbol n i j) ≡ j
second_letter-pair_symbol n i j column =
    let remainder : (pair_symbol n i j - 1) % (n + 1) ≡ j - 1 =
    ap (λ place. place % (n + 1)) (symbol_place n i j column.0) ∙ mod-mul-add (i - 1) (n + 1) (j - 1) (omega arith) in
    omega arith

-- one symbol is that of one pair
pub pair_symbol-injective : (n i j k l : ℕ) → 0 < i → 0 < k → (0 < j) × (j ≤ n + 1) → (0 < l) × (l ≤ n + 1)
    → pair_symbol n i j ≡ pair_symbol n k l → (i ≡ k) × (j ≡ l)
pair_symbol-injective n i j k l first second column other same = (
  sym (first_letter-pair_symbol n i j first column) ∙ ap (first_letter n) same ∙ first_letter-pair_symbol n k l second other,
  sym (second_letter-pair_symbol n i j column) ∙ ap (second_letter n) same ∙ second_letter-pair_symbol n k l other,
)

-- the symbol of the two letters of a symbol is that symbol
pub pair_symbol-letters : (n symbol : ℕ) → 0 < symbol → pair_symbol n (first_letter n symbol) (second_letter n symbol) ≡ symbol
pair_symbol-letters n symbol some =
    let parts = div-add-mod' (symbol - 1) (n + 1) in
    let turned = mul_comm (n + 1) ((symbol - 1) / (n + 1)) in
    let row : (n + 1) * ((symbol - 1) / (n + 1) + 1 - 1) ≡ (n + 1) * ((symbol - 1) / (n + 1)) =
    ap (λ k. (n + 1) * k) (let back : (symbol - 1) / (n + 1) + 1 - 1 ≡ (symbol - 1) / (n + 1) = omega arith in back) in
    omega arith

-- the second letter is one, or the padding
pub second_letter_within : (n symbol : ℕ) → (0 < second_letter n symbol) × (second_letter n symbol ≤ n + 1)
second_letter_within n symbol = let below = mod_below (symbol - 1) (n + 1) (omega arith) in (omega arith, omega arith)

-- a symbol is that of its first letter with some second one
pub with_second : (n symbol : ℕ) → 0 < symbol
    → (j : ℕ) × ((symbol ≡ pair_symbol n (first_letter n symbol) j) × ((0 < j) × (j ≤ n + 1)))
with_second n symbol some = (second_letter n symbol, (sym (pair_symbol-letters n symbol some), second_letter_within n symbol))

-- the first number is at most that of the padding
pub first_within : (n symbol : ℕ) → IsPairSymbol n symbol → (symbol - 1) / (n + 1) < n + 1
first_within n symbol is =
    let some : 0 < symbol = is.0 in
    let most : symbol ≤ pair_symbols n = is.1 in
    div_below (symbol - 1) (n + 1) (n + 1) (omega arith) (omega arith)

-- ---- padding

-- the symbols of the last row come after the others
pub last_row : (n j : ℕ) → pair_symbol n (n + 1) j ≡ (n + 1) * n + j
last_row n j = ap (λ z. (n + 1) * z + j) (let back : (n + 1) - 1 ≡ n = omega arith in back)

pub before_last_row : (n i j : ℕ) → IsLetter n i → j ≤ n + 1 → pair_symbol n i j ≤ (n + 1) * n
before_last_row n i j letter low =
    let fits = column_fits (n + 1) (i - 1) (n + 1) n (omega arith) (omega arith) in omega arith

-- the symbols of the last column are the multiples of n + 1
pub last_column : (n i : ℕ) → 0 < i → pair_symbol n i (n + 1) % (n + 1) ≡ 0
last_column n i some =
    let split : (n + 1) * ((i - 1) + 1) ≡ (n + 1) * (i - 1) + (n + 1) = grind arith in
    let back = ap (λ z. (n + 1) * z) (let one : (i - 1) + 1 ≡ i = omega arith in one) in
    let turned = mul_comm (n + 1) i in
    let multiple : pair_symbol n i (n + 1) ≡ i * (n + 1) + 0 = omega arith in
    ap (λ s. s % (n + 1)) multiple ∙ mod-mul-add i (n + 1) 0 (omega arith)

pub before_last_column : (n i j : ℕ) → j ≤ n → pair_symbol n i j % (n + 1) ≡ j
before_last_column n i j low =
    ap (λ place. (place + j) % (n + 1)) (mul_comm (n + 1) (i - 1)) ∙ mod-mul-add (i - 1) (n + 1) j (omega arith)

-- beside the padding the second is a letter
pub letter_beside_padding : (n symbol j : ℕ) → IsPairSymbol n symbol → symbol ≡ pair_symbol n (n + 1) j → j ≤ n
letter_beside_padding n symbol j is same = let whole = square n in let row = last_row n j in let most = is.1 in omega arith

-- a symbol has two letters, or one and the padding
pub data SymbolCase (n symbol : ℕ) : Type 0 where
  two_letters : (x y : ℕ) → IsLetter n x → IsLetter n y → symbol ≡ pair_symbol n x y → SymbolCase n symbol
  first_padded : (y : ℕ) → IsLetter n y → symbol ≡ pair_symbol n (n + 1) y → SymbolCase n symbol
  second_padded : (x : ℕ) → IsLetter n x → symbol ≡ pair_symbol n x (n + 1) → SymbolCase n symbol

pub symbol_case : (n symbol : ℕ) → IsPairSymbol n symbol → SymbolCase n symbol
symbol_case n symbol is =
    let i = first_letter n symbol in
    let row = first_within n symbol is in
    let column = with_second n symbol is.0 in
    elim (cases_eq i (n + 1)) [
      | inl padding ↦
          let same = column.1.0 ∙ ap (λ k. pair_symbol n k column.0) padding in
          first_padded column.0 (column.1.1.0, letter_beside_padding n symbol column.0 is same) same
      | inr first ↦ elim (cases_eq column.0 (n + 1)) [
        | inl padding ↦ second_padded i (omega arith, omega arith) (column.1.0 ∙ ap (λ k. pair_symbol n i k) padding)
        | inr second ↦ let low = column.1.1 in two_letters i column.0 (omega arith, omega arith) (low.0, omega arith) column.1.0
      ]
    ]

-- which letters are the padding
module _ (n symbol i j : ℕ) (is : symbol ≡ pair_symbol n i j) where
  pub pads_first-padding : i ≡ n + 1 → (0 < j) × (j ≤ n + 1) → pads_first n symbol ≡ true
  pads_first-padding padding other =
      eq-eqb (first_letter n symbol) (n + 1) (ap (first_letter n) is ∙ first_letter-pair_symbol n i j (omega arith) other ∙ padding)

  pub pads_first-letter : IsLetter n i → (0 < j) × (j ≤ n + 1) → pads_first n symbol ≡ false
  pads_first-letter letter other =
      let number = ap (first_letter n) is ∙ first_letter-pair_symbol n i j letter.0 other in
      ne_eqb (first_letter n symbol) (n + 1) (λ same. omega (arith, number, letter.1))

  pub pads_second-padding : j ≡ n + 1 → pads_second n symbol ≡ true
  pads_second-padding padding =
      eq-eqb (second_letter n symbol) (n + 1) (ap (second_letter n) is ∙ second_letter-pair_symbol n i j (omega arith, omega arith) ∙ padding)

  pub pads_second-letter : IsLetter n j → pads_second n symbol ≡ false
  pads_second-letter letter =
      let number = ap (second_letter n) is ∙ second_letter-pair_symbol n i j (letter.0, omega (arith, letter.1)) in
      ne_eqb (second_letter n symbol) (n + 1) (λ same. omega (arith, number, letter.1))
