-- Texts of pairs of words.
use Rattle.std.proofs.Common.{◌≡◌, ℕ, zero, suc, ◌+◌, ◌<◌, ◌≤◌, max, List, [], ◌∷◌, ◌++◌, length, get_or, take, drop, refl, sym, ap, ◌∙◌, subst, inl, inr, arith}
use Rattle.std.specs.List.{All}
use Rattle.std.proofs.lemmas.Bool.{cases_lt}
use Rattle.std.proofs.lemmas.List.{get_or_past, take_at}
use Rattle.std.proofs.lemmas.List.Elements.{All-nil, All-cons, All-head, All-tail, All-take, All-get_or}
use Rattle.kb_word.specs.Relations.{IsOver}
use Rattle.kb_fsa.specs.PairSymbols.{pair_symbol}
use Rattle.kb_fsa.specs.Padding.{padded, IsPadded, IsTextOfPair}
use Rattle.kb_fsa.proofs.PairSymbolLaws.{IsLetter, IsPairSymbol, IsPairSymbol-first, IsPairSymbol-second, pair_symbol-injective}

pub length-padded : (n : ℕ) (u v : List ℕ) → length (padded n u v) ≡ max (length u) (length v)
length-padded n [] [] = refl
length-padded n (x ∷ u) [] = let rest = length-padded n u [] in omega arith
length-padded n [] (y ∷ v) = let rest = length-padded n [] v in omega arith
length-padded n (x ∷ u) (y ∷ v) = let rest = length-padded n u v in omega arith

-- from a place on, the text has the symbol of what the words have there, and then what is after the place
pub drop-padded : (n : ℕ) (u v : List ℕ) (place : ℕ) → place < max (length u) (length v)
    → drop place (padded n u v)
    ≡ pair_symbol n (get_or u place (n + 1)) (get_or v place (n + 1)) ∷ drop (suc place) (padded n u v)
drop-padded n [] [] place within = absurd (omega arith)
drop-padded n (x ∷ u) [] zero within = refl
drop-padded n (x ∷ u) [] (suc place) within = drop-padded n u [] place (omega arith)
drop-padded n [] (y ∷ v) zero within = refl
drop-padded n [] (y ∷ v) (suc place) within = drop-padded n [] v place (omega arith)
drop-padded n (x ∷ u) (y ∷ v) zero within = refl
drop-padded n (x ∷ u) (y ∷ v) (suc place) within = drop-padded n u v place (omega arith)

-- the symbol at a place
pub get_or-padded : (n : ℕ) (u v : List ℕ) (place d : ℕ) → place < max (length u) (length v)
    → get_or (padded n u v) place d ≡ pair_symbol n (get_or u place (n + 1)) (get_or v place (n + 1))
get_or-padded n [] [] place d within = absurd (omega arith)
get_or-padded n (x ∷ u) [] zero d within = refl
get_or-padded n (x ∷ u) [] (suc place) d within = get_or-padded n u [] place d (omega arith)
get_or-padded n [] (y ∷ v) zero d within = refl
get_or-padded n [] (y ∷ v) (suc place) d within = get_or-padded n [] v place d (omega arith)
get_or-padded n (x ∷ u) (y ∷ v) zero d within = refl
get_or-padded n (x ∷ u) (y ∷ v) (suc place) d within = get_or-padded n u v place d (omega arith)

-- ---- prefixes

take_nil : (k : ℕ) → take {A = ℕ} k [] ≡ []
take_nil zero = refl
take_nil (suc k) = refl

pub take-padded : (n k : ℕ) (u v : List ℕ) → take k (padded n u v) ≡ padded n (take k u) (take k v)
take-padded n zero u v = refl
take-padded n (suc k) [] [] = refl
take-padded n (suc k) (x ∷ u) [] =
    ap (λ rest. pair_symbol n x (n + 1) ∷ rest) (take-padded n k u [] ∙ ap (padded n (take k u)) (take_nil k))
take-padded n (suc k) [] (y ∷ v) =
    ap (λ rest. pair_symbol n (n + 1) y ∷ rest) (take-padded n k [] v ∙ ap (λ w. padded n w (take k v)) (take_nil k))
take-padded n (suc k) (x ∷ u) (y ∷ v) = ap (λ rest. pair_symbol n x y ∷ rest) (take-padded n k u v)

-- a prefix of a padded text is padded
pub IsPadded-prefix : (n : ℕ) (text more : List ℕ) → IsPadded n (text ++ more) → IsPadded n text
IsPadded-prefix n text more whole = record {
  first = take (length text) whole.first;
  second = take (length text) whole.second;
  first_over = All-take (λ x. (0 < x) × (x ≤ n)) (length text) whole.first whole.first_over;
  second_over = All-take (λ x. (0 < x) × (x ≤ n)) (length text) whole.second whole.second_over;
  is_text =
      sym (take_at text more (length text) refl) ∙ ap (take (length text)) whole.is_text
      ∙ take-padded n (length text) whole.first whole.second;
}

-- ---- a symbol more at the beginning

pub IsTextOfPair-nil : (n : ℕ) → IsTextOfPair n [] [] []
IsTextOfPair-nil n = record { first_over = All-nil (IsLetter n); second_over = All-nil (IsLetter n); is_text = refl }

pub IsPadded-from_pair : {n : ℕ} {text u v : List ℕ} → IsTextOfPair n text u v → IsPadded n text
IsPadded-from_pair {u = u} {v = v} is =
    record { first = u; second = v; first_over = is.first_over; second_over = is.second_over; is_text = is.is_text }

module _ {n symbol : ℕ} {text : List ℕ} where
  -- where the second word has ended, and where the first has
  pub IsTextOfPair-first : {x : ℕ} {u : List ℕ} → IsLetter n x → symbol ≡ pair_symbol n x (n + 1) → IsTextOfPair n text u []
      → IsTextOfPair n (symbol ∷ text) (x ∷ u) []
  IsTextOfPair-first {x} {u} letter same is = record {
    first_over = All-cons (IsLetter n) x u letter is.first_over;
    second_over = is.second_over;
    is_text = ap (λ s. s ∷ text) same ∙ ap (λ t. pair_symbol n x (n + 1) ∷ t) is.is_text;
  }

  pub IsTextOfPair-second : {y : ℕ} {v : List ℕ} → IsLetter n y → symbol ≡ pair_symbol n (n + 1) y → IsTextOfPair n text [] v
      → IsTextOfPair n (symbol ∷ text) [] (y ∷ v)
  IsTextOfPair-second {y} {v} letter same is = record {
    first_over = is.first_over;
    second_over = All-cons (IsLetter n) y v letter is.second_over;
    is_text = ap (λ s. s ∷ text) same ∙ ap (λ t. pair_symbol n (n + 1) y ∷ t) is.is_text;
  }

  pub IsPadded-letters : {x y : ℕ} → IsLetter n x → IsLetter n y → symbol ≡ pair_symbol n x y → IsPadded n text → IsPadded n (symbol ∷ text)
  IsPadded-letters {x} {y} one two same is = record {
    first = x ∷ is.first;
    second = y ∷ is.second;
    first_over = All-cons (IsLetter n) x is.first one is.first_over;
    second_over = All-cons (IsLetter n) y is.second two is.second_over;
    is_text = ap (λ s. s ∷ text) same ∙ ap (λ t. pair_symbol n x y ∷ t) is.is_text;
  }

-- ---- symbols

pub symbols-padded : (n : ℕ) (u v : List ℕ) → IsOver n u → IsOver n v → All (IsPairSymbol n) (padded n u v)
symbols-padded n [] [] first second = All-nil (IsPairSymbol n)
symbols-padded n (x ∷ u) [] first second =
    let P = λ (letter : ℕ). (0 < letter) × (letter ≤ n) in
    All-cons (IsPairSymbol n) (pair_symbol n x (n + 1)) (padded n u [])
    (IsPairSymbol-first n x (n + 1) (All-head P x u first) (omega arith, omega arith))
    (symbols-padded n u [] (All-tail P x u first) second)
symbols-padded n [] (y ∷ v) first second =
    let P = λ (letter : ℕ). (0 < letter) × (letter ≤ n) in
    All-cons (IsPairSymbol n) (pair_symbol n (n + 1) y) (padded n [] v)
    (IsPairSymbol-second n (n + 1) y (omega arith, omega arith) (All-head P y v second))
    (symbols-padded n [] v first (All-tail P y v second))
symbols-padded n (x ∷ u) (y ∷ v) first second =
    let P = λ (letter : ℕ). (0 < letter) × (letter ≤ n) in
    let other = All-head P y v second in
    All-cons (IsPairSymbol n) (pair_symbol n x y) (padded n u v)
    (IsPairSymbol-first n x y (All-head P x u first) (other.0, omega arith))
    (symbols-padded n u v (All-tail P x u first) (All-tail P y v second))

-- each symbol of a padded text is that of a pair
pub symbols_of_padded : (n : ℕ) (text : List ℕ) → IsPadded n text → All (IsPairSymbol n) text
symbols_of_padded n text is =
    subst (All (IsPairSymbol n)) (sym is.is_text) (symbols-padded n is.first is.second is.first_over is.second_over)

-- ---- one text is that of one pair

-- what a word has at a place, or the padding
pub letter_or_padding : (n : ℕ) (w : List ℕ) (place : ℕ) → IsOver n w → (0 < get_or w place (n + 1)) × (get_or w place (n + 1) ≤ n + 1)
letter_or_padding n w place over =
    elim (cases_lt place (length w)) [
      | inl within ↦
          let letter = All-get_or (λ x. (0 < x) × (x ≤ n)) w place (n + 1) within over in (letter.0, omega (arith, letter.1))
      | inr past ↦ let is = get_or_past w place (n + 1) past in (omega arith, omega arith)
    ]

-- words that have the same, or the padding, at each place are one word
pub same_from_padding : (n : ℕ) (u w : List ℕ) → IsOver n u → IsOver n w
    → ((place : ℕ) → get_or u place (n + 1) ≡ get_or w place (n + 1)) → u ≡ w
same_from_padding n [] [] one two same = refl
same_from_padding n (x ∷ u) [] one two same =
    let letter = All-head (λ x. (0 < x) × (x ≤ n)) x u one in absurd (omega (arith, same 0, letter.1))
same_from_padding n [] (y ∷ w) one two same =
    let letter = All-head (λ x. (0 < x) × (x ≤ n)) y w two in absurd (omega (arith, same 0, letter.1))
same_from_padding n (x ∷ u) (y ∷ w) one two same =
    let P = λ (letter : ℕ). (0 < letter) × (letter ≤ n) in
    ap (λ z. z ∷ u) (same 0)
    ∙ ap (λ rest. y ∷ rest) (same_from_padding n u w (All-tail P x u one) (All-tail P y w two) (λ place. same (suc place)))

-- two pairs with one text have the same, or the padding, at each place
same_places : (n : ℕ) (u v w x : List ℕ) → IsOver n u → IsOver n v → IsOver n w → IsOver n x → padded n u v ≡ padded n w x
    → (place : ℕ) → (get_or u place (n + 1) ≡ get_or w place (n + 1)) × (get_or v place (n + 1) ≡ get_or x place (n + 1))
same_places n u v w x over_u over_v over_w over_x same place =
    let long : max (length u) (length v) ≡ max (length w) (length x) =
    sym (length-padded n u v) ∙ ap length same ∙ length-padded n w x in
    elim (cases_lt place (max (length u) (length v))) [
      | inl within ↦
          let there : place < max (length w) (length x) = omega arith in
          let symbols = sym (get_or-padded n u v place 0 within) ∙ ap (λ text. get_or text place 0) same ∙ get_or-padded n w x place 0 there in
          pair_symbol-injective n (get_or u place (n + 1)) (get_or v place (n + 1)) (get_or w place (n + 1)) (get_or x place (n + 1))
          (letter_or_padding n u place over_u).0 (letter_or_padding n w place over_w).0
          (letter_or_padding n v place over_v) (letter_or_padding n x place over_x) symbols
      | inr past ↦ (
        get_or_past u place (n + 1) (omega arith) ∙ sym (get_or_past w place (n + 1) (omega arith)),
        get_or_past v place (n + 1) (omega arith) ∙ sym (get_or_past x place (n + 1) (omega arith)),
      )
    ]

pub padded-injective : (n : ℕ) (u v w x : List ℕ) → IsOver n u → IsOver n v → IsOver n w → IsOver n x
    → padded n u v ≡ padded n w x → (u ≡ w) × (v ≡ x)
padded-injective n u v w x over_u over_v over_w over_x same =
    let places = same_places n u v w x over_u over_v over_w over_x same in (
      same_from_padding n u w over_u over_w (λ place. (places place).0),
      same_from_padding n v x over_v over_x (λ place. (places place).1),
    )
