-- A text is padded exactly where none of its symbols is out of place behind what precedes it.
use Rattle.std.proofs.Common.{◌≡◌, ℕ, suc, ◌+◌, ◌*◌, ◌<◌, ◌≤◌, max, List, [], ◌∷◌, ◌++◌, length, get_or, take, drop, All, Any, refl, sym, ap, ◌∙◌, subst, inl, inr, arith, length-append}
use Rattle.std.proofs.lemmas.Bool.{cases_eq, cases_lt}
use Rattle.std.proofs.lemmas.List.{get_or_past, get_or_at, get_or_append_left, get_or_default, drop_more, take-append-drop}
use Rattle.std.proofs.lemmas.List.Elements.{All-head, All-tail, All-get_or}
use Rattle.kb_word.specs.Relations.{IsOver}
use Rattle.kb_fsa.specs.PairSymbols.{pair_symbol, first_letter, second_letter}
use Rattle.kb_fsa.specs.Padding.{padded, IsPadded, IsTextOfPair}
use Rattle.kb_fsa.proofs.PairSymbolLaws.{IsLetter, IsPairSymbol, square, last_row, first_letter-pair_symbol, second_letter-pair_symbol, SymbolCase, two_letters, first_padded, second_padded, symbol_case}
use Rattle.kb_fsa.proofs.Paddings.{length-padded, get_or-padded, letter_or_padding, IsPadded-from_pair, IsTextOfPair-nil, IsTextOfPair-first, IsTextOfPair-second, IsPadded-letters}
use Rattle.kb_padding.specs.Misplaced.{PadsFirst, PadsSecond, IsOutOfPlace}

-- ---- symbols

-- the number is that of a pair of letters or paddings
abbrev pub IsSymbol : ℕ → ℕ → Type 0
IsSymbol n symbol = (0 < symbol) × (symbol ≤ (n + 1) * (n + 1))

-- the number is that of a letter or the padding
abbrev pub IsColumn : ℕ → ℕ → Type 0
IsColumn n j = (0 < j) × (j ≤ n + 1)

-- symbols with padding on the first track are those of the last row, and on the second those of the last column
PadsFirst-last_row : (n symbol j : ℕ) → IsColumn n j → symbol ≡ pair_symbol n (n + 1) j → PadsFirst n symbol
PadsFirst-last_row n symbol j column is = ap (first_letter n) is ∙ first_letter-pair_symbol n (n + 1) j (omega arith) column

letter_on_first : (n symbol i j : ℕ) → IsLetter n i → IsColumn n j → symbol ≡ pair_symbol n i j → ¬ PadsFirst n symbol
letter_on_first n symbol i j letter column is pads =
    let same : i ≡ n + 1 = sym (ap (first_letter n) is ∙ first_letter-pair_symbol n i j letter.0 column) ∙ pads in omega (arith, letter.1)

PadsSecond-last_column : (n symbol i : ℕ) → symbol ≡ pair_symbol n i (n + 1) → PadsSecond n symbol
PadsSecond-last_column n symbol i is = ap (second_letter n) is ∙ second_letter-pair_symbol n i (n + 1) (omega arith, omega arith)

letter_on_second : (n symbol i j : ℕ) → IsLetter n j → symbol ≡ pair_symbol n i j → ¬ PadsSecond n symbol
letter_on_second n symbol i j letter is pads =
    let same : j ≡ n + 1 =
    sym (ap (second_letter n) is ∙ second_letter-pair_symbol n i j (letter.0, omega (arith, letter.1))) ∙ pads in omega (arith, letter.1)

-- a symbol in place isn't two paddings, which are out of place behind any text
letters_in_place : (n : ℕ) (front : List ℕ) (symbol : ℕ) → IsSymbol n symbol → ¬ IsOutOfPlace n front symbol → IsPairSymbol n symbol
letters_in_place n front symbol is in_place =
    elim (cases_eq symbol ((n + 1) * (n + 1))) [
      | inl same ↦
          let whole = square n in
          let row = last_row n (n + 1) in
          let paddings : symbol ≡ pair_symbol n (n + 1) (n + 1) = omega arith in
          absurd (in_place (inr (inr (
            PadsFirst-last_row n symbol (n + 1) (omega arith, omega arith) paddings,
            PadsSecond-last_column n symbol (n + 1) paddings,
          ))))
      | inr other ↦ let most = is.1 in (is.0, omega arith)
    ]

-- ---- texts

-- none of the text's symbols is out of place behind what precedes it
abbrev pub IsInPlace : ℕ → List ℕ → Type 0
IsInPlace n text = (front : List ℕ) (symbol : ℕ) (back : List ℕ) → text ≡ front ++ symbol ∷ back → ¬ IsOutOfPlace n front symbol

-- the symbols of a padded text have padding on a track from the end of its word on
module _ (n : ℕ) (u v : List ℕ) (first : IsOver n u) (second : IsOver n v) (place : ℕ) (within : place < max (length u) (length v)) where
  first_ended : PadsFirst n (get_or (padded n u v) place 0) → length u ≤ place
  first_ended pads =
      elim (cases_lt place (length u)) [
        | inl inside ↦
            let letter = All-get_or (IsLetter n) u place (n + 1) inside first in
            let y = letter_or_padding n v place second in
            absurd (letter_on_first n (get_or (padded n u v) place 0) (get_or u place (n + 1)) (get_or v place (n + 1)) letter y
            (get_or-padded n u v place 0 within) pads)
        | inr past ↦ past
      ]

  second_ended : PadsSecond n (get_or (padded n u v) place 0) → length v ≤ place
  second_ended pads =
      elim (cases_lt place (length v)) [
        | inl inside ↦
            let letter = All-get_or (IsLetter n) v place (n + 1) inside second in
            absurd (letter_on_second n (get_or (padded n u v) place 0) (get_or u place (n + 1)) (get_or v place (n + 1)) letter
            (get_or-padded n u v place 0 within) pads)
        | inr past ↦ past
      ]

  pads_first : length u ≤ place → PadsFirst n (get_or (padded n u v) place 0)
  pads_first past =
      PadsFirst-last_row n (get_or (padded n u v) place 0) (get_or v place (n + 1)) (letter_or_padding n v place second)
      (get_or-padded n u v place 0 within ∙ ap (λ i. pair_symbol n i (get_or v place (n + 1))) (get_or_past u place (n + 1) past))

  pads_second : length v ≤ place → PadsSecond n (get_or (padded n u v) place 0)
  pads_second past =
      PadsSecond-last_column n (get_or (padded n u v) place 0) (get_or u place (n + 1))
      (get_or-padded n u v place 0 within ∙ ap (λ j. pair_symbol n (get_or u place (n + 1)) j) (get_or_past v place (n + 1) past))

pub in_place_from_padded : (n : ℕ) (text : List ℕ) → IsPadded n text → IsInPlace n text
in_place_from_padded n text is front symbol back split out =
    elim out [
      | inl after_first ↦ first_again after_first.0 after_first.1
      | inr others ↦ elim others [
        | inl after_second ↦ second_again after_second.0 after_second.1
        | inr both ↦
            let u_ended = first_ended n is.first is.second is.first_over is.second_over (length front) inside (subst (λ (s : ℕ). PadsFirst n s) (sym symbol_at) both.0) in
            let v_ended = second_ended n is.first is.second is.first_over is.second_over (length front) inside (subst (λ (s : ℕ). PadsSecond n s) (sym symbol_at) both.1) in
            let room = inside in
            absurd (let no : ⊥ = omega arith in no)
      ]
    ]
  where
    same : front ++ symbol ∷ back ≡ padded n is.first is.second
    same = sym split ∙ is.is_text

    inside : length front < max (length is.first) (length is.second)
    inside = omega (arith, length-append front (symbol ∷ back), ap length same, length-padded n is.first is.second)

    symbol_at : get_or (padded n is.first is.second) (length front) 0 ≡ symbol
    symbol_at = sym (ap (λ t. get_or t (length front) 0) same) ∙ get_or_at front symbol back 0 (length front) refl

    earlier_at : (k x : ℕ) → k < length front → get_or front k x ≡ x → get_or (padded n is.first is.second) k 0 ≡ x
    earlier_at k x low at =
        sym (ap (λ t. get_or t k 0) same) ∙ get_or_append_left front (symbol ∷ back) 0 k low ∙ get_or_default front k 0 x low ∙ at

    first_again : Any (PadsFirst n) front → ¬ PadsFirst n symbol → ⊥
    first_again (k, x, low, at, pads) not_here =
        let room = inside in
        let ended = first_ended n is.first is.second is.first_over is.second_over k (omega arith)
        (subst (λ (s : ℕ). PadsFirst n s) (sym (earlier_at k x low at)) pads) in
        not_here (subst (λ (s : ℕ). PadsFirst n s) symbol_at
        (pads_first n is.first is.second is.first_over is.second_over (length front) inside (omega arith)))

    second_again : Any (PadsSecond n) front → ¬ PadsSecond n symbol → ⊥
    second_again (k, x, low, at, pads) not_here =
        let room = inside in
        let ended = second_ended n is.first is.second is.first_over is.second_over k (omega arith)
        (subst (λ (s : ℕ). PadsSecond n s) (sym (earlier_at k x low at)) pads) in
        not_here (subst (λ (s : ℕ). PadsSecond n s) symbol_at
        (pads_second n is.first is.second is.first_over is.second_over (length front) inside (omega arith)))

-- the symbol has a letter on the second track alone; on the first
OfSecond : ℕ → ℕ → Type 0
OfSecond n symbol = (y : ℕ) × IsLetter n y × (symbol ≡ pair_symbol n (n + 1) y)

OfFirst : ℕ → ℕ → Type 0
OfFirst n symbol = (x : ℕ) × IsLetter n x × (symbol ≡ pair_symbol n x (n + 1))

second_word : (n : ℕ) (text : List ℕ) → All (OfSecond n) text → (v : List ℕ) × IsTextOfPair n text [] v
unfolding OfSecond
second_word n [] each = ([], IsTextOfPair-nil n)
second_word n (symbol ∷ text) each =
    let here = All-head (OfSecond n) symbol text each in
    let rest = second_word n text (All-tail (OfSecond n) symbol text each) in
    (here.0 ∷ rest.0, IsTextOfPair-second here.1 here.2 rest.1)

first_word : (n : ℕ) (text : List ℕ) → All (OfFirst n) text → (u : List ℕ) × IsTextOfPair n text u []
unfolding OfFirst
first_word n [] each = ([], IsTextOfPair-nil n)
first_word n (symbol ∷ text) each =
    let here = All-head (OfFirst n) symbol text each in
    let rest = first_word n text (All-tail (OfFirst n) symbol text each) in
    (here.0 ∷ rest.0, IsTextOfPair-first here.1 here.2 rest.1)

-- the text up to a place, the symbol there, and what follows
split_at : (text : List ℕ) (k d : ℕ) → k < length text → text ≡ take k text ++ get_or text k d ∷ drop (k + 1) text
split_at text k d within = sym (take-append-drop k text) ∙ ap (λ t. take k text ++ t) (drop_more text k d within)

-- padding goes on to the end
module _ (n symbol : ℕ) (text : List ℕ) (each : All (IsSymbol n) (symbol ∷ text)) (in_place : IsInPlace n (symbol ∷ text)) where
  not_out : (k d : ℕ) → k < length text → ¬ IsOutOfPlace n (symbol ∷ take k text) (get_or text k d)
  not_out k d within =
      in_place (symbol ∷ take k text) (get_or text k d) (drop (k + 1) text) (ap (λ t. symbol ∷ t) (split_at text k d within))

  case_at : (k d : ℕ) → k < length text → SymbolCase n (get_or text k d)
  case_at k d within =
      symbol_case n (get_or text k d)
      (letters_in_place n (symbol ∷ take k text) (get_or text k d) (each (suc k) d (omega arith)) (not_out k d within))

  behind_first : PadsFirst n symbol → All (OfSecond n) text
  unfolding OfSecond
  behind_first pads k d within = by (case_at k d within)
    where
      letter_here : (x y : ℕ) → IsLetter n x → IsColumn n y → get_or text k d ≡ pair_symbol n x y → ⊥
      letter_here x y letter low is =
          not_out k d within (inl ((0, symbol, omega arith, refl, pads), letter_on_first n (get_or text k d) x y letter low is))

      by : SymbolCase n (get_or text k d) → (y : ℕ) × IsLetter n y × (get_or text k d ≡ pair_symbol n (n + 1) y)
      by (two_letters x y one two is) = absurd (letter_here x y one (two.0, omega (arith, two.1)) is)
      by (first_padded y letter is) = (y, letter, is)
      by (second_padded x letter is) = absurd (letter_here x (n + 1) letter (omega arith, omega arith) is)

  behind_second : PadsSecond n symbol → All (OfFirst n) text
  unfolding OfFirst
  behind_second pads k d within = by (case_at k d within)
    where
      letter_here : (x y : ℕ) → IsLetter n y → get_or text k d ≡ pair_symbol n x y → ⊥
      letter_here x y letter is =
          not_out k d within (inr (inl ((0, symbol, omega arith, refl, pads), letter_on_second n (get_or text k d) x y letter is)))

      by : SymbolCase n (get_or text k d) → (x : ℕ) × IsLetter n x × (get_or text k d ≡ pair_symbol n x (n + 1))
      by (two_letters x y one two is) = absurd (letter_here x y two is)
      by (first_padded y letter is) = absurd (letter_here (n + 1) y letter is)
      by (second_padded x letter is) = (x, letter, is)

  -- behind two letters the rest is in place by itself
  rest_in_place : IsInPlace n text
  rest_in_place front other back split out = in_place (symbol ∷ front) other back (ap (λ t. symbol ∷ t) split) (longer out)
    where
      later : (P : ℕ → Type 0) → Any P front → Any P (symbol ∷ front)
      later P (k, x, low, at, holds) = (suc k, x, omega arith, at, holds)

      longer : IsOutOfPlace n front other → IsOutOfPlace n (symbol ∷ front) other
      longer (inl after_first) = inl (later (PadsFirst n) after_first.0, after_first.1)
      longer (inr (inl after_second)) = inr (inl (later (PadsSecond n) after_second.0, after_second.1))
      longer (inr (inr both)) = inr (inr both)

pub padded_from_in_place : (n : ℕ) (text : List ℕ) → All (IsSymbol n) text → IsInPlace n text → IsPadded n text
padded_from_in_place n [] each in_place = IsPadded-from_pair (IsTextOfPair-nil n)
padded_from_in_place n (symbol ∷ text) each in_place =
    by (symbol_case n symbol (letters_in_place n [] symbol (All-head (IsSymbol n) symbol text each) (in_place [] symbol text refl)))
    (padded_from_in_place n text (All-tail (IsSymbol n) symbol text each) (rest_in_place n symbol text each in_place))
  where
    by : SymbolCase n symbol → IsPadded n text → IsPadded n (symbol ∷ text)
    by (two_letters x y one two is) rest = IsPadded-letters one two is rest
    by (first_padded y letter is) rest =
        let pads = PadsFirst-last_row n symbol y (letter.0, omega (arith, letter.1)) is in
        IsPadded-from_pair (IsTextOfPair-second letter is (second_word n text (behind_first n symbol text each in_place pads)).1)
    by (second_padded x letter is) rest =
        let pads = PadsSecond-last_column n symbol x is in
        IsPadded-from_pair (IsTextOfPair-first letter is (first_word n text (behind_second n symbol text each in_place pads)).1)
