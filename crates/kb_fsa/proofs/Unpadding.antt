-- From the text of a pair of words back to its words.
use Rattle.std.proofs.Common.{◌≡◌, ◌≢◌, ℕ, ◌+◌, ◌<◌, ◌≤◌, List, [], ◌∷◌, ◌++◌, length, get_or, drop, refl, sym, ap, ap₂, ◌∙◌, subst, arith}
use Rattle.std.proofs.lemmas.Bool.{eq-eqb, ne_eqb}
use Rattle.std.proofs.lemmas.List.{at_drop_all, append-nil}
use Rattle.std.proofs.lemmas.List.Elements.{All-head, All-tail, All-get_or}
use Rattle.kb_word.specs.Relations.{IsOver}
use Rattle.kb_fsa.specs.PairSymbols.{pair_symbol, first_letter, second_letter}
use Rattle.kb_fsa.specs.Padding.{padded, letters_of, first_letters, second_letters, IsPadded, IsTextOfPair}
use Rattle.kb_fsa.proofs.PairSymbolLaws.{IsPairSymbol, first_letter-pair_symbol, second_letter-pair_symbol}
use Rattle.kb_fsa.proofs.Paddings.{symbols_of_padded}

-- a letter's number gives the letter, and the padding's gives none
letter_kept : (n number : ℕ) → number ≢ n + 1 → letters_of n number ≡ number ∷ []
letter_kept n number differ = rw (ne_eqb number (n + 1) differ) refl

padding_dropped : (n : ℕ) → letters_of n (n + 1) ≡ []
padding_dropped n = rw (eq-eqb (n + 1) (n + 1) refl) refl

-- one symbol, where the first word has the letter i, or the padding
first_letters-letter : (n i j : ℕ) (text w : List ℕ) → (0 < i) × (i ≤ n) → (0 < j) × (j ≤ n + 1) → first_letters n text ≡ w
    → first_letters n (pair_symbol n i j ∷ text) ≡ i ∷ w
first_letters-letter n i j text w letter other rest =
    let number = first_letter-pair_symbol n i j letter.0 other in
    let kept : letters_of n (first_letter n (pair_symbol n i j)) ≡ i ∷ [] =
    ap (letters_of n) number ∙ letter_kept n i (λ same. absurd (omega (arith, same))) in
    ap₂ (λ letters more. letters ++ more) kept rest

first_letters-padding : (n j : ℕ) (text w : List ℕ) → (0 < j) × (j ≤ n + 1) → first_letters n text ≡ w
    → first_letters n (pair_symbol n (n + 1) j ∷ text) ≡ w
first_letters-padding n j text w other rest =
    let number = first_letter-pair_symbol n (n + 1) j (omega arith) other in
    let none : letters_of n (first_letter n (pair_symbol n (n + 1) j)) ≡ [] =
    ap (letters_of n) number ∙ padding_dropped n in
    ap₂ (λ letters more. letters ++ more) none rest

second_letters-letter : (n i j : ℕ) (text w : List ℕ) → (0 < i) × (i ≤ n + 1) → (0 < j) × (j ≤ n) → second_letters n text ≡ w
    → second_letters n (pair_symbol n i j ∷ text) ≡ j ∷ w
second_letters-letter n i j text w other letter rest =
    let number = second_letter-pair_symbol n i j (letter.0, omega (arith, letter.1)) in
    let kept : letters_of n (second_letter n (pair_symbol n i j)) ≡ j ∷ [] =
    ap (letters_of n) number ∙ letter_kept n j (λ same. absurd (omega (arith, same, letter.1))) in
    ap₂ (λ letters more. letters ++ more) kept rest

second_letters-padding : (n i : ℕ) (text w : List ℕ) → (0 < i) × (i ≤ n + 1) → second_letters n text ≡ w
    → second_letters n (pair_symbol n i (n + 1) ∷ text) ≡ w
second_letters-padding n i text w other rest =
    let number = second_letter-pair_symbol n i (n + 1) (omega arith, omega arith) in
    let none : letters_of n (second_letter n (pair_symbol n i (n + 1))) ≡ [] =
    ap (letters_of n) number ∙ padding_dropped n in
    ap₂ (λ letters more. letters ++ more) none rest

-- a letter is no padding
wide : (n i : ℕ) → (0 < i) × (i ≤ n) → (0 < i) × (i ≤ n + 1)
wide n i letter = (letter.0, omega (arith, letter.1))

any_padding : (n : ℕ) → (0 < n + 1) × (n + 1 ≤ n + 1)
any_padding n = (omega arith, omega arith)

-- the first letter of a word over n generators, and what follows it
head : (n x : ℕ) (w : List ℕ) → IsOver n (x ∷ w) → (0 < x) × (x ≤ n)
head n x w over = All-head (λ y. (0 < y) × (y ≤ n)) x w over

rest : (n x : ℕ) (w : List ℕ) → IsOver n (x ∷ w) → IsOver n w
rest n x w over = All-tail (λ y. (0 < y) × (y ≤ n)) x w over

pub first_letters-padded : (n : ℕ) (u v : List ℕ) → IsOver n u → IsOver n v → first_letters n (padded n u v) ≡ u
first_letters-padded n [] [] over also = refl
first_letters-padded n (x ∷ u) [] over also =
    first_letters-letter n x (n + 1) (padded n u []) u (head n x u over) (any_padding n) (first_letters-padded n u [] (rest n x u over) also)
first_letters-padded n [] (y ∷ v) over also =
    first_letters-padding n y (padded n [] v) [] (wide n y (head n y v also)) (first_letters-padded n [] v over (rest n y v also))
first_letters-padded n (x ∷ u) (y ∷ v) over also =
    first_letters-letter n x y (padded n u v) u (head n x u over) (wide n y (head n y v also))
    (first_letters-padded n u v (rest n x u over) (rest n y v also))

pub second_letters-padded : (n : ℕ) (u v : List ℕ) → IsOver n u → IsOver n v → second_letters n (padded n u v) ≡ v
second_letters-padded n [] [] over also = refl
second_letters-padded n (x ∷ u) [] over also =
    second_letters-padding n x (padded n u []) [] (wide n x (head n x u over)) (second_letters-padded n u [] (rest n x u over) also)
second_letters-padded n [] (y ∷ v) over also =
    second_letters-letter n (n + 1) y (padded n [] v) v (any_padding n) (head n y v also) (second_letters-padded n [] v over (rest n y v also))
second_letters-padded n (x ∷ u) (y ∷ v) over also =
    second_letters-letter n x y (padded n u v) v (wide n x (head n x u over)) (head n y v also)
    (second_letters-padded n u v (rest n x u over) (rest n y v also))

-- ---- the loop over a text

pub symbol_at : (n : ℕ) (text : List ℕ) (place : ℕ) → IsPadded n text → place < length text → IsPairSymbol n (get_or text place 0)
symbol_at n text place padded within = All-get_or (IsPairSymbol n) text place 0 within (symbols_of_padded n text padded)

-- what was gathered, once the text is at its end
gathered : (letters : List ℕ → List ℕ) (text w whole : List ℕ) (place : ℕ) → letters [] ≡ [] → length text ≤ place
    → w ++ letters (drop place text) ≡ whole → w ≡ whole
gathered letters text w whole place nothing past sofar =
    let ended : letters (drop place text) ≡ [] = at_drop_all letters text place past ∙ nothing in
    sym (append-nil w) ∙ ap (λ more. w ++ more) (sym ended) ∙ sofar

pub pair_gathered : (n : ℕ) (text u v : List ℕ) (place : ℕ) → IsPadded n text → length text ≤ place
    → u ++ first_letters n (drop place text) ≡ first_letters n text
    → v ++ second_letters n (drop place text) ≡ second_letters n text → IsTextOfPair n text u v
pair_gathered n text u v place parts past first second =
    let firsts = first_letters-padded n parts.first parts.second parts.first_over parts.second_over in
    let seconds = second_letters-padded n parts.first parts.second parts.first_over parts.second_over in
    let is_first : u ≡ parts.first =
    gathered (first_letters n) text u (first_letters n text) place refl past first
    ∙ ap (first_letters n) parts.is_text ∙ firsts in
    let is_second : v ≡ parts.second =
    gathered (second_letters n) text v (second_letters n text) place refl past second
    ∙ ap (second_letters n) parts.is_text ∙ seconds in
    record {
      first_over = subst (IsOver n) (sym is_first) parts.first_over;
      second_over = subst (IsOver n) (sym is_second) parts.second_over;
      is_text = parts.is_text ∙ sym (ap₂ (padded n) is_first is_second);
    }
