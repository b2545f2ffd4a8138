-- Padded texts with a symbol more, and the states to which they lead.
use Rattle.std.proofs.Common.{◌≡◌, ◌≢◌, ℕ, suc, ◌+◌, ◌<◌, ◌≤◌, max, List, [], ◌∷◌, ◌++◌, length, get_or, take, drop, refl, sym, ap, ap₂, ◌∙◌, inl, inr, arith}
use Rattle.std.proofs.lemmas.Bool.{cases_lt}
use Rattle.std.proofs.lemmas.List.{get_or_past, take_at, take_all, take-append-drop, length-take, length_push, drop_all, get_or_push}
use Rattle.std.proofs.lemmas.List.Elements.{All-get_or, All-take, All-push}
use Rattle.kb_word.specs.Relations.{IsOver}
use Rattle.kb_fsa.specs.Table.{Table, after, step}
use Rattle.kb_fsa.specs.PairSymbols.{pair_symbol}
use Rattle.kb_fsa.specs.Padding.{padded, IsPadded}
use Rattle.kb_fsa.proofs.PairSymbolLaws.{pair_symbol-injective}
use Rattle.kb_fsa.proofs.Paddings.{length-padded, drop-padded, take-padded, padded-injective, letter_or_padding}
use Rattle.kb_fsa.proofs.Lookups.{after-append}

-- the number is that of a letter, or of the padding
abbrev pub IsLetterOrPadding : ℕ → ℕ → Type 0
IsLetterOrPadding n x = (0 < x) × (x ≤ n + 1)

-- ---- lists with an item more at the end

pub same_push : (xs ys : List ℕ) (x y : ℕ) → xs ++ x ∷ [] ≡ ys ++ y ∷ [] → (xs ≡ ys) × (x ≡ y)
same_push xs ys x y same =
    let long : length xs ≡ length ys = omega (arith, ap length same, length_push xs x, length_push ys y) in (
      sym (take_at xs (x ∷ []) (length xs) refl) ∙ ap (take (length xs)) same ∙ take_at ys (y ∷ []) (length xs) (sym long),
      sym (get_or_push xs x 0 (length xs) refl) ∙ ap (λ zs. get_or zs (length xs) 0) same ∙ get_or_push ys y 0 (length xs) (sym long),
    )

pub nothing_long : (xs : List ℕ) → length xs ≡ 0 → xs ≡ []
nothing_long [] none = refl
nothing_long (x ∷ xs) none = absurd (omega arith)

-- a text of two words, the longer of which has suc k letters, is that of their first k letters with a symbol more
pub padded_last : (n k : ℕ) (x y : List ℕ) → max (length x) (length y) ≡ suc k
    → padded n x y ≡ padded n (take k x) (take k y) ++ pair_symbol n (get_or x k (n + 1)) (get_or y k (n + 1)) ∷ []
padded_last n k x y long =
    let whole = sym (take-append-drop k (padded n x y)) in
    let rest : drop k (padded n x y) ≡ pair_symbol n (get_or x k (n + 1)) (get_or y k (n + 1)) ∷ [] =
    drop-padded n x y k (omega arith)
    ∙ ap (λ more. pair_symbol n (get_or x k (n + 1)) (get_or y k (n + 1)) ∷ more) (drop_all (suc k) (padded n x y) (omega (arith, length-padded n x y))) in
    whole ∙ ap₂ (λ a b. a ++ b) (take-padded n k x y) rest

-- a padding stands past the end of a word, and there alone
pub letter_within : (n k : ℕ) (w : List ℕ) → IsOver n w → get_or w k (n + 1) ≢ n + 1 → k < length w
letter_within n k w over differ = elim (cases_lt k (length w)) [
  | inl within ↦ within
  | inr past ↦ absurd (differ (get_or_past w k (n + 1) past))
]

pub padding_past : (n k : ℕ) (w : List ℕ) → IsOver n w → get_or w k (n + 1) ≡ n + 1 → length w ≤ k
padding_past n k w over same = elim (cases_lt k (length w)) [
  | inl within ↦
      let letter = All-get_or (λ x. (0 < x) × (x ≤ n)) w k (n + 1) within over in
      absurd (omega (arith, letter.1))
  | inr past ↦ past
]

-- The text of two words goes on by a symbol. Where that has a letter of one of them, this one isn't the shorter.
pub goes_on : (n : ℕ) (x y : List ℕ) (a c : ℕ) → IsOver n x → IsOver n y → IsLetterOrPadding n a → IsLetterOrPadding n c
    → IsPadded n (padded n x y ++ pair_symbol n a c ∷ []) → (c ≤ n → length x ≤ length y) × (a ≤ n → length y ≤ length x)
goes_on n x y a c over_x over_y first second is =
    let text = padded n x y in
    let k = length text in
    let wide : k ≡ max (length x) (length y) = length-padded n x y in
    let long : max (length is.first) (length is.second) ≡ suc k =
    omega (arith, length-padded n is.first is.second, ap length is.is_text, length_push text (pair_symbol n a c)) in
    let parts = same_push text (padded n (take k is.first) (take k is.second)) (pair_symbol n a c)
    (pair_symbol n (get_or is.first k (n + 1)) (get_or is.second k (n + 1))) (is.is_text ∙ padded_last n k is.first is.second long) in
    let letters = pair_symbol-injective n a c (get_or is.first k (n + 1)) (get_or is.second k (n + 1)) first.0
    (letter_or_padding n is.first k is.first_over).0 second (letter_or_padding n is.second k is.second_over) parts.1 in
    let words = padded-injective n x y (take k is.first) (take k is.second) over_x over_y
    (All-take (λ z. (0 < z) × (z ≤ n)) k is.first is.first_over) (All-take (λ z. (0 < z) × (z ≤ n)) k is.second is.second_over) parts.0 in (
      λ low.
          let within = letter_within n k is.second is.second_over (λ same. let no : ⊥ = omega (arith, letters.1) in no) in
          omega (arith, ap length words.1, length-take k is.second),
      λ low.
          let within = letter_within n k is.first is.first_over (λ same. let no : ⊥ = omega (arith, letters.0) in no) in
          omega (arith, ap length words.0, length-take k is.first),
    )

-- ---- a word with a letter more, or none

-- the word of at most k letters is the other one without what it has at the place k: the letter, or none for the
-- padding
pub record IsLonger (n k : ℕ) (w : List ℕ) (c : ℕ) (longer : List ℕ) : Type 0 where
  pub over : IsOver n longer
  pub front : take k longer ≡ w
  pub last : get_or longer k (n + 1) ≡ c
  pub no_longer : length longer ≤ suc k

pub longer_by : (n k : ℕ) (w : List ℕ) (c : ℕ) → IsOver n w → length w ≤ k → IsLetterOrPadding n c → (c ≤ n → length w ≡ k)
    → (longer : List ℕ) × IsLonger n k w c longer
longer_by n k w c over short letter long =
    elim (cases_lt n c) [
      | inl padding ↦
          let is : n + 1 ≡ c = omega (arith, letter.1) in (
            w,
            record {
              over = over;
              front = take_all k w short;
              last = get_or_past w k (n + 1) short ∙ is;
              no_longer = omega arith;
            },
          )
      | inr low ↦
          let same = long low in (
            w ++ c ∷ [],
            record {
              over = All-push (λ z. (0 < z) × (z ≤ n)) w c over (letter.0, low);
              front = take_at w (c ∷ []) k same;
              last = get_or_push w c (n + 1) k same;
              no_longer = omega (arith, length_push w c);
            },
          )
    ]

-- ---- a symbol more

pub after_push : (table : Table) (state : ℕ) (text : List ℕ) (symbol : ℕ)
    → after table state (text ++ symbol ∷ []) ≡ step table (after table state text) symbol
after_push table state text symbol = after-append table state text (symbol ∷ [])
