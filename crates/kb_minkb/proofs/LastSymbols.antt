-- Texts of pairs of words with a symbol more at the end.
use Rattle.std.proofs.Common.{◌≡◌, ℕ, ◌+◌, ◌<◌, ◌≤◌, List, [], ◌∷◌, ◌++◌, length, get_or, take, refl, sym, ap, ◌∙◌, inl, inr, arith}
use Rattle.std.proofs.lemmas.Bool.{cases_lt}
use Rattle.std.proofs.lemmas.List.{take_at, length_push, get_or_push}
use Rattle.kb_word.specs.Relations.{IsOver}
use Rattle.kb_fsa.specs.PairSymbols.{pair_symbol, first_letter, second_letter}
use Rattle.kb_fsa.specs.Padding.{padded, IsPadded, IsTextOfPair}
use Rattle.kb_fsa.proofs.PairSymbolLaws.{IsLetter, first_letter-pair_symbol, second_letter-pair_symbol}
use Rattle.kb_fsa.proofs.Paddings.{padded-injective}
use Rattle.kb_rules.proofs.Lists.{FromEnd, from_end}
use Rattle.kb_rules.proofs.Lists.FromEnd.{empty, last}
use Rattle.kb_structure.proofs.Letters.{over_first, over_front, over_rest}

-- equal words have one last letter
pub same_last : (u w : List ℕ) (x y : ℕ) → u ++ x ∷ [] ≡ w ++ y ∷ [] → (u ≡ w) × (x ≡ y)
same_last u w x y same =
    let long : length u ≡ length w = omega (arith, ap length same, length_push u x, length_push w y) in (
      sym (take_at u (x ∷ []) (length u) refl) ∙ ap (take (length u)) same ∙ take_at w (y ∷ []) (length u) (sym long),
      sym (get_or_push u x 0 (length u) refl) ∙ ap (λ v. get_or v (length u) 0) same ∙ get_or_push w y 0 (length u) (sym long),
    )

-- ---- a letter more

-- of the first word, which is no shorter
pub padded_first : (n : ℕ) (u v : List ℕ) (x : ℕ) → length v ≤ length u
    → padded n (u ++ x ∷ []) v ≡ padded n u v ++ pair_symbol n x (n + 1) ∷ []
padded_first n [] [] x short = refl
padded_first n [] (b ∷ v) x short = absurd (omega arith)
padded_first n (a ∷ u) [] x short = ap (λ t. pair_symbol n a (n + 1) ∷ t) (padded_first n u [] x (omega arith))
padded_first n (a ∷ u) (b ∷ v) x short = ap (λ t. pair_symbol n a b ∷ t) (padded_first n u v x (omega arith))

-- of the second
pub padded_second : (n : ℕ) (u v : List ℕ) (y : ℕ) → length u ≤ length v
    → padded n u (v ++ y ∷ []) ≡ padded n u v ++ pair_symbol n (n + 1) y ∷ []
padded_second n [] [] y short = refl
padded_second n (a ∷ u) [] y short = absurd (omega arith)
padded_second n [] (b ∷ v) y short = ap (λ t. pair_symbol n (n + 1) b ∷ t) (padded_second n [] v y (omega arith))
padded_second n (a ∷ u) (b ∷ v) y short = ap (λ t. pair_symbol n a b ∷ t) (padded_second n u v y (omega arith))

-- of both, which are equally long
pub padded_both : (n : ℕ) (u v : List ℕ) (x y : ℕ) → length v ≡ length u
    → padded n (u ++ x ∷ []) (v ++ y ∷ []) ≡ padded n u v ++ pair_symbol n x y ∷ []
padded_both n [] [] x y long = refl
padded_both n [] (b ∷ v) x y long = absurd (omega arith)
padded_both n (a ∷ u) [] x y long = absurd (omega arith)
padded_both n (a ∷ u) (b ∷ v) x y long = ap (λ t. pair_symbol n a b ∷ t) (padded_both n u v x y (omega arith))

-- ---- the last symbol

-- What a text with a symbol more is made of, where the second word is no longer: the first word has a letter more, and
-- the second one too, or not.
pub data LastSymbol (n : ℕ) (text : List ℕ) (symbol : ℕ) : List ℕ → List ℕ → Type 0 where
  of_first : (u v : List ℕ) (x : ℕ) → IsTextOfPair n text u v → length v ≤ length u → IsLetter n x
      → symbol ≡ pair_symbol n x (n + 1) → LastSymbol n text symbol (u ++ x ∷ []) v
  of_both : (u v : List ℕ) (x y : ℕ) → IsTextOfPair n text u v → length v ≡ length u → IsLetter n x → IsLetter n y
      → symbol ≡ pair_symbol n x y → LastSymbol n text symbol (u ++ x ∷ []) (v ++ y ∷ [])

last_letter : (n : ℕ) (w : List ℕ) (x : ℕ) → IsOver n (w ++ x ∷ []) → IsLetter n x
last_letter n w x over = over_first n x [] (over_rest n w (x ∷ []) over)

module _ (n : ℕ) (text : List ℕ) (symbol : ℕ) where
  alone : (u v : List ℕ) (x : ℕ) → length v ≤ length u → IsTextOfPair n (text ++ symbol ∷ []) (u ++ x ∷ []) v
      → LastSymbol n text symbol (u ++ x ∷ []) v
  alone u v x short is =
      let parts = same_last text (padded n u v) symbol (pair_symbol n x (n + 1)) (is.is_text ∙ padded_first n u v x short) in
      of_first u v x (record {
        first_over = over_front n u (x ∷ []) is.first_over;
        second_over = is.second_over;
        is_text = parts.0;
      }) short (last_letter n u x is.first_over) parts.1

  together : (u v : List ℕ) (x y : ℕ) → length v ≡ length u → IsTextOfPair n (text ++ symbol ∷ []) (u ++ x ∷ []) (v ++ y ∷ [])
      → LastSymbol n text symbol (u ++ x ∷ []) (v ++ y ∷ [])
  together u v x y long is =
      let parts = same_last text (padded n u v) symbol (pair_symbol n x y) (is.is_text ∙ padded_both n u v x y long) in
      of_both u v x y (record {
        first_over = over_front n u (x ∷ []) is.first_over;
        second_over = over_front n v (y ∷ []) is.second_over;
        is_text = parts.0;
      }) long (last_letter n u x is.first_over) (last_letter n v y is.second_over) parts.1

  by_ends : (left right : List ℕ) → FromEnd left → FromEnd right → length right ≤ length left
      → IsTextOfPair n (text ++ symbol ∷ []) left right → LastSymbol n text symbol left right
  by_ends left right empty empty short is = absurd (let no : ⊥ = omega (arith, ap length is.is_text, length_push text symbol) in no)
  by_ends left right empty (last v y) short is = absurd (let no : ⊥ = omega (arith, length_push v y) in no)
  by_ends left right (last u x) empty short is = alone u [] x (omega arith) is
  by_ends left right (last u x) (last v y) short is =
      let one = length_push u x in
      let two = length_push v y in
      elim (cases_lt (length v) (length u)) [
        | inl less ↦ alone u (v ++ y ∷ []) x (omega arith) is
        | inr long ↦ together u v x y (omega arith) is
      ]

  pub last_symbol : (left right : List ℕ) → length right ≤ length left → IsTextOfPair n (text ++ symbol ∷ []) left right
      → LastSymbol n text symbol left right
  last_symbol left right short is = by_ends left right (from_end left) (from_end right) short is

-- the first letter of the symbol, and the second, which is that of the second word, or the padding
pub first_of_last : (n x y symbol : ℕ) → IsLetter n x → (0 < y) × (y ≤ n + 1) → symbol ≡ pair_symbol n x y → first_letter n symbol ≡ x
first_of_last n x y symbol letter other is = ap (first_letter n) is ∙ first_letter-pair_symbol n x y letter.0 other

pub second_of_last : (n x y symbol : ℕ) → IsLetter n x → (0 < y) × (y ≤ n + 1) → symbol ≡ pair_symbol n x y → second_letter n symbol ≡ y
second_of_last n x y symbol letter other is = ap (second_letter n) is ∙ second_letter-pair_symbol n x y other

pub first_of_padding : (n y symbol : ℕ) → IsLetter n y → symbol ≡ pair_symbol n (n + 1) y → first_letter n symbol ≡ n + 1
first_of_padding n y symbol letter is =
    ap (first_letter n) is ∙ first_letter-pair_symbol n (n + 1) y (omega arith) (letter.0, omega (arith, letter.1))

-- where the second word alone has a letter more, it isn't the shorter one
module _ (n : ℕ) (u v : List ℕ) (y : ℕ) (first_over : IsOver n u) (second_over : IsOver n v) (letter : IsLetter n y) where
  not_first : (left right : List ℕ) → LastSymbol n (padded n u v) (pair_symbol n (n + 1) y) left right → ⊥
  not_first _ _ (of_first a b x is short first same) =
      let symbol = pair_symbol n (n + 1) y in
      let number = first_of_padding n y symbol letter refl in
      let other = first_of_last n x (n + 1) symbol first (omega arith, omega arith) same in
      let equal : n + 1 ≡ x = sym number ∙ other in
      omega (arith, equal, first.1)
  not_first _ _ (of_both a b x z is long first second same) =
      let symbol = pair_symbol n (n + 1) y in
      let number = first_of_padding n y symbol letter refl in
      let other = first_of_last n x z symbol first (second.0, omega (arith, second.1)) same in
      let equal : n + 1 ≡ x = sym number ∙ other in
      omega (arith, equal, first.1)

  longer_second : (left right : List ℕ) → FromEnd right → length left < length right
      → IsTextOfPair n (padded n u v ++ pair_symbol n (n + 1) y ∷ []) left right → length u ≤ length v
  longer_second left right empty longer is = absurd (omega arith)
  longer_second left right (last w z) longer is =
      let low : length left ≤ length w = omega (arith, length_push w z) in
      let parts = same_last (padded n u v) (padded n left w) (pair_symbol n (n + 1) y) (pair_symbol n (n + 1) z)
      (is.is_text ∙ padded_second n left w z low) in
      let words = padded-injective n u v left w first_over second_over is.first_over (over_front n w (z ∷ []) is.second_over) parts.0 in
      omega (arith, low, ap length words.0, ap length words.1)

  pub second_goes_on : IsPadded n (padded n u v ++ pair_symbol n (n + 1) y ∷ []) → length u ≤ length v
  second_goes_on is =
      let pair : IsTextOfPair n (padded n u v ++ pair_symbol n (n + 1) y ∷ []) is.first is.second =
      record { first_over = is.first_over; second_over = is.second_over; is_text = is.is_text } in
      elim (cases_lt (length is.first) (length is.second)) [
        | inl longer ↦ longer_second is.first is.second (from_end is.second) longer pair
        | inr short ↦
            absurd (not_first is.first is.second (last_symbol n (padded n u v) (pair_symbol n (n + 1) y) is.first is.second short pair))
      ]
