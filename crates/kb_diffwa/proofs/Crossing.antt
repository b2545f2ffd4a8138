-- Rows of moves by pairs of letters, and what look-ups find in them.
use Rattle.std.proofs.Common.{◌≡◌, ◌≢◌, ℕ, zero, suc, ◌+◌, ◌*◌, ◌-◌, ◌<◌, ◌≤◌, List, [], ◌∷◌, ◌++◌, Option, Some, None, refl, sym, ap, ◌∙◌, subst, inl, inr, arith}
use Rattle.std.specs.List.{All, cons_option, filter_map}
use Rattle.std.specs.Option.{option_map}
use Rattle.std.proofs.Math.Nat.{mul_comm, mul-le-mul_right}
use Rattle.std.proofs.lemmas.Bool.{cases_eq, cases_order}
use Rattle.std.proofs.lemmas.List.Elements.{All-nil, All-cons, All-head, All-tail, All-append}
use Rattle.std.proofs.lemmas.Option.{none-some, same_Some}
use Rattle.kb_fsa.specs.Table.{Moves, Ascends, lookup}
use Rattle.kb_fsa.specs.PairSymbols.{pair_symbol}
use Rattle.kb_fsa.proofs.Lookups.{lookup_here, lookup_there, lookup_below, lookup_nowhere, Ascends-tail, Ascends-head}
use Rattle.kb_diffwa.specs.declared.place.Place.{Place}
use Rattle.kb_diffwa.specs.Pairs.{crossed, entered, move_by}

-- ---- lists one after another

Ascends-cons : {X : Type 0} (entry : ℕ × X) (rest : List (ℕ × X)) → Ascends rest → All (λ later. entry.0 < later.0) rest → Ascends (entry ∷ rest)
Ascends-cons entry rest ascends above zero zero d less within = absurd (let no : ⊥ = omega arith in no)
Ascends-cons entry rest ascends above zero (suc j) d less within = above j d (omega arith)
Ascends-cons entry rest ascends above (suc i) zero d less within = absurd (let no : ⊥ = omega arith in no)
Ascends-cons entry rest ascends above (suc i) (suc j) d less within = ascends i j d (omega arith) (omega arith)

-- numbers up to a bound, and then numbers above it
Ascends-append : {X : Type 0} (bound : ℕ) (xs ys : List (ℕ × X)) → Ascends xs → Ascends ys → All (λ earlier. earlier.0 ≤ bound) xs
    → All (λ later. bound < later.0) ys → Ascends (xs ++ ys)
Ascends-append bound [] ys one two below above = two
Ascends-append {X} bound (x ∷ xs) ys one two below above =
    let P = λ (e : ℕ × X). e.0 ≤ bound in
    let here = All-head P x xs below in
    Ascends-cons x (xs ++ ys) (Ascends-append bound xs ys (Ascends-tail x xs one) two (All-tail P x xs below) above)
    (All-append (λ (e : ℕ × X). x.0 < e.0) xs ys (Ascends-head x xs one) (λ k d h. omega (arith, above k d h)))

-- a look-up goes on in the second list where the first one has nothing
pub lookup-append_right : {X : Type 0} (xs ys : List (ℕ × X)) (z : ℕ) → lookup xs z ≡ None → lookup (xs ++ ys) z ≡ lookup ys z
lookup-append_right [] ys z none = refl
lookup-append_right (x ∷ xs) ys z none =
    elim (cases_eq x.0 z) [
      | inl same ↦ absurd (none-some x.1 (sym none ∙ lookup_here x xs z same))
      | inr differ ↦
          lookup_there x (xs ++ ys) z differ ∙ lookup-append_right xs ys z (sym (lookup_there x xs z differ) ∙ none)
    ]

-- and ends in the first where the second one has nothing
pub lookup-append_left : {X : Type 0} (xs ys : List (ℕ × X)) (z : ℕ) → lookup ys z ≡ None → lookup (xs ++ ys) z ≡ lookup xs z
lookup-append_left [] ys z none = none
lookup-append_left (x ∷ xs) ys z none =
    elim (cases_eq x.0 z) [
      | inl same ↦ lookup_here x (xs ++ ys) z same ∙ sym (lookup_here x xs z same)
      | inr differ ↦ lookup_there x (xs ++ ys) z differ ∙ lookup-append_left xs ys z none ∙ sym (lookup_there x xs z differ)
    ]

-- ---- rows of symbols

-- one of n letters, or the padding
abbrev pub IsPairLetter : ℕ → ℕ → Type 0
IsPairLetter n letter = (0 < letter) × (letter ≤ n + 1)

abbrev pub HaveLetters : ℕ → Moves → Type 0
HaveLetters n moves = All (λ move. IsPairLetter n move.0) moves

-- the symbols of a first letter come before those of a greater one
rows_apart : (n a c : ℕ) → 0 < a → a < c → pair_symbol n a (n + 1) ≤ pair_symbol n c 0
rows_apart n a c positive less =
    let most = mul-le-mul_right (n + 1) (let next : (a - 1) + 1 ≤ c - 1 = omega arith in next) in
    let one = mul_comm (n + 1) (a - 1) in
    let two = mul_comm (n + 1) (c - 1) in
    let split : ((a - 1) + 1) * (n + 1) ≡ (a - 1) * (n + 1) + (n + 1) = grind arith in
    omega arith

module _ (step : ℕ → ℕ → ℕ → ℕ) (n d : ℕ) where
  -- the moves by one first letter
  abbrev row : ℕ × ℕ → Moves → List (ℕ × Place)
  row first seconds = filter_map (move_by step n d first) seconds

  symbol_of_move : (first second : ℕ × ℕ) (move : ℕ × Place) → move_by step n d first second ≡ Some move
      → move.0 ≡ pair_symbol n first.0 second.0
  symbol_of_move first second move is = on (entered step n d first second) is
    where
      on : (o : Option Place) → option_map (λ (place : Place). (pair_symbol n first.0 second.0, place)) o ≡ Some move
          → move.0 ≡ pair_symbol n first.0 second.0
      on None none = absurd (none-some move none)
      on (Some place) some = sym (ap (λ (m : ℕ × Place). m.0) (same_Some _ _ some))

  -- the row's symbols are above those of lesser second letters
  row_above : (first : ℕ × ℕ) (low : ℕ) (seconds : Moves) → All (λ second. low < second.0) seconds
      → All (λ move. pair_symbol n first.0 low < move.0) (row first seconds)
  row_above first low [] above = All-nil (λ (move : ℕ × Place). pair_symbol n first.0 low < move.0)
  row_above first low (second ∷ rest) above =
      let P = λ (s : ℕ × ℕ). low < s.0 in
      on (All-head P second rest above) (row_above first low rest (All-tail P second rest above)) (move_by step n d first second) refl
    where
      on : low < second.0 → All (λ move. pair_symbol n first.0 low < move.0) (row first rest) → (o : Option (ℕ × Place))
          → move_by step n d first second ≡ o → All (λ move. pair_symbol n first.0 low < move.0) (cons_option o (row first rest))
      on here later None is = later
      on here later (Some move) is =
          All-cons (λ (m : ℕ × Place). pair_symbol n first.0 low < m.0) move (row first rest)
          (let symbol = symbol_of_move first second move is in omega arith) later

  row_below : (first : ℕ × ℕ) (seconds : Moves) → HaveLetters n seconds
      → All (λ move. move.0 ≤ pair_symbol n first.0 (n + 1)) (row first seconds)
  row_below first [] letters = All-nil (λ (move : ℕ × Place). move.0 ≤ pair_symbol n first.0 (n + 1))
  row_below first (second ∷ rest) letters =
      let P = λ (s : ℕ × ℕ). IsPairLetter n s.0 in
      on (All-head P second rest letters) (row_below first rest (All-tail P second rest letters)) (move_by step n d first second) refl
    where
      on : IsPairLetter n second.0 → All (λ move. move.0 ≤ pair_symbol n first.0 (n + 1)) (row first rest) → (o : Option (ℕ × Place))
          → move_by step n d first second ≡ o → All (λ move. move.0 ≤ pair_symbol n first.0 (n + 1)) (cons_option o (row first rest))
      on here later None is = later
      on here later (Some move) is =
          All-cons (λ (m : ℕ × Place). m.0 ≤ pair_symbol n first.0 (n + 1)) move (row first rest)
          (let symbol = symbol_of_move first second move is in let low = here.1 in omega arith) later

  row_ascends : (first : ℕ × ℕ) (seconds : Moves) → Ascends seconds → Ascends (row first seconds)
  row_ascends first [] ascends = λ i j e low high. absurd (omega arith)
  row_ascends first (second ∷ rest) ascends =
      on (row_ascends first rest (Ascends-tail second rest ascends)) (move_by step n d first second) refl
    where
      on : Ascends (row first rest) → (o : Option (ℕ × Place)) → move_by step n d first second ≡ o → Ascends (cons_option o (row first rest))
      on later None is = later
      on later (Some move) is =
          let symbol = symbol_of_move first second move is in
          let above = row_above first second.0 rest (Ascends-head second rest ascends) in
          Ascends-cons move (row first rest) later (λ k e h. omega (arith, above k e h))

  -- where a first letter leads with the second, given where the second leads its track
  abbrev at_second : ℕ × ℕ → ℕ → Option ℕ → Option Place
  at_second first b None = None
  at_second first b (Some track) = entered step n d first (b, track)

  -- a look-up by a symbol finds where its second letter leads
  lookup_row : (first : ℕ × ℕ) (seconds : Moves) (b : ℕ) → Ascends seconds
      → lookup (row first seconds) (pair_symbol n first.0 b) ≡ at_second first b (lookup seconds b)
  lookup_row first [] b ascends = refl
  lookup_row first (second ∷ rest) b ascends =
      let later = lookup_row first rest b (Ascends-tail second rest ascends) in
      elim (cases_eq second.0 b) [
        | inl same ↦
            let none = lookup_below rest b (λ k e h. omega (arith, Ascends-head second rest ascends k e h)) in
            here same (later ∙ ap (at_second first b) none) (entered step n d first second) refl
            ∙ ap (λ z. entered step n d first (z, second.1)) same
            ∙ sym (ap (at_second first b) (lookup_here second rest b same))
        | inr differ ↦ there differ later (entered step n d first second) refl ∙ sym (ap (at_second first b) (lookup_there second rest b differ))
      ]
    where
      here : second.0 ≡ b → lookup (row first rest) (pair_symbol n first.0 b) ≡ None → (o : Option Place) → entered step n d first second ≡ o
          → lookup (cons_option (option_map (λ (place : Place). (pair_symbol n first.0 second.0, place)) o) (row first rest)) (pair_symbol n first.0 b) ≡ o
      here same none None is = none
      here same none (Some place) is =
          lookup_here (pair_symbol n first.0 second.0, place) (row first rest) (pair_symbol n first.0 b) (ap (pair_symbol n first.0) same)

      there : second.0 ≢ b → lookup (row first rest) (pair_symbol n first.0 b) ≡ at_second first b (lookup rest b) → (o : Option Place)
          → entered step n d first second ≡ o
          → lookup (cons_option (option_map (λ (place : Place). (pair_symbol n first.0 second.0, place)) o) (row first rest)) (pair_symbol n first.0 b)
          ≡ at_second first b (lookup rest b)
      there differ later None is = later
      there differ later (Some place) is =
          lookup_there (pair_symbol n first.0 second.0, place) (row first rest) (pair_symbol n first.0 b)
          (λ same. differ (omega (arith, same))) ∙ later

  -- and by a symbol of another first letter finds none
  lookup_other_row : (first : ℕ × ℕ) (seconds : Moves) (a b : ℕ) → HaveLetters n seconds → 0 < first.0 → IsPairLetter n b → 0 < a → first.0 ≢ a
      → lookup (row first seconds) (pair_symbol n a b) ≡ None
  lookup_other_row first seconds a b letters some letter positive differ =
      let above = row_above first 0 seconds (λ k e h. (letters k e h).0) in
      let below = row_below first seconds letters in
      let low = letter.0 in let high = letter.1 in
      lookup_nowhere (row first seconds) (pair_symbol n a b) (λ k e h same.
      elim (cases_order first.0 a) [
        | inl here ↦ differ here
        | inr apart ↦ elim apart [
          | inl less ↦ let rows = rows_apart n first.0 a some less in omega (arith, below k e h, same)
          | inr more ↦ let rows = rows_apart n a first.0 positive more in omega (arith, above k e h, same)
        ]
      ])

  -- ---- all rows

  -- where two letters lead, given where each leads its track
  abbrev pub at_both : ℕ → ℕ → Option ℕ → Option ℕ → Option Place
  at_both a b None two = None
  at_both a b (Some track) two = at_second (a, track) b two

  crossed_above : (a : ℕ) (firsts seconds : Moves) → 0 < a → HaveLetters n seconds → All (λ first. a < first.0) firsts
      → All (λ move. pair_symbol n a (n + 1) < move.0) (crossed step n d firsts seconds)
  crossed_above a [] seconds positive letters above = All-nil (λ (move : ℕ × Place). pair_symbol n a (n + 1) < move.0)
  crossed_above a (first ∷ rest) seconds positive letters above =
      let P = λ (f : ℕ × ℕ). a < f.0 in
      let here = rows_apart n a first.0 positive (All-head P first rest above) in
      let own = row_above first 0 seconds (λ k e h. (letters k e h).0) in
      All-append (λ (move : ℕ × Place). pair_symbol n a (n + 1) < move.0) (row first seconds) (crossed step n d rest seconds)
      (λ k e h. omega (arith, own k e h)) (crossed_above a rest seconds positive letters (All-tail P first rest above))

  pub crossed_ascends : (firsts seconds : Moves) → HaveLetters n firsts → HaveLetters n seconds → Ascends firsts → Ascends seconds
      → Ascends (crossed step n d firsts seconds)
  crossed_ascends [] seconds one two up also = λ i j e low high. absurd (omega arith)
  crossed_ascends (first ∷ rest) seconds one two up also =
      let P = λ (f : ℕ × ℕ). IsPairLetter n f.0 in
      let here = All-head P first rest one in
      Ascends-append (pair_symbol n first.0 (n + 1)) (row first seconds) (crossed step n d rest seconds)
      (row_ascends first seconds also) (crossed_ascends rest seconds (All-tail P first rest one) two (Ascends-tail first rest up) also)
      (row_below first seconds two)
      (crossed_above first.0 rest seconds here.0 two (Ascends-head first rest up))

  -- their symbols are those of letters and the padding
  pub crossed_within : (firsts seconds : Moves) → HaveLetters n firsts → HaveLetters n seconds
      → All (λ move. (0 < move.0) × (move.0 ≤ (n + 1) * (n + 1))) (crossed step n d firsts seconds)
  crossed_within [] seconds one two = All-nil (λ (move : ℕ × Place). (0 < move.0) × (move.0 ≤ (n + 1) * (n + 1)))
  crossed_within (first ∷ rest) seconds one two =
      let P = λ (f : ℕ × ℕ). IsPairLetter n f.0 in
      let here = All-head P first rest one in
      let above = row_above first 0 seconds (λ k e h. (two k e h).0) in
      let below = row_below first seconds two in
      let positive = here.0 in
      let last = rows_apart n first.0 (n + 2) positive (omega (arith, here.1)) in
      let back = ap (λ z. (n + 1) * z) (let one_less : (n + 2) - 1 ≡ n + 1 = omega arith in one_less) in
      All-append (λ (move : ℕ × Place). (0 < move.0) × (move.0 ≤ (n + 1) * (n + 1))) (row first seconds) (crossed step n d rest seconds)
      (λ k e h. (omega (arith, above k e h), omega (arith, below k e h)))
      (crossed_within rest seconds (All-tail P first rest one) two)

  -- a look-up by a symbol finds where its letters lead
  pub lookup_crossed : (firsts seconds : Moves) (a b : ℕ) → HaveLetters n firsts → HaveLetters n seconds → Ascends firsts → Ascends seconds
      → 0 < a → IsPairLetter n b → lookup (crossed step n d firsts seconds) (pair_symbol n a b) ≡ at_both a b (lookup firsts a) (lookup seconds b)
  lookup_crossed [] seconds a b one two up also positive letter = refl
  lookup_crossed (first ∷ rest) seconds a b one two up also positive letter =
      let P = λ (f : ℕ × ℕ). IsPairLetter n f.0 in
      let own = All-head P first rest one in
      let more = crossed step n d rest seconds in
      let later = lookup_crossed rest seconds a b (All-tail P first rest one) two (Ascends-tail first rest up) also positive letter in
      elim (cases_eq first.0 a) [
        | inl same ↦
            let none = lookup_below rest a (λ k e h. omega (arith, Ascends-head first rest up k e h)) in
            let Q : ℕ → Type 0 = λ z. lookup (row (z, first.1) seconds) (pair_symbol n z b) ≡ at_second (z, first.1) b (lookup seconds b) in
            let R : ℕ → Type 0 = λ z. lookup (row (z, first.1) seconds) (pair_symbol n a b) ≡ at_second (a, first.1) b (lookup seconds b) in
            lookup-append_left (row first seconds) more (pair_symbol n a b) (later ∙ ap (λ o. at_both a b o (lookup seconds b)) none)
            ∙ subst R (sym same) (subst Q same (lookup_row first seconds b also))
            ∙ sym (ap (λ o. at_both a b o (lookup seconds b)) (lookup_here first rest a same))
        | inr differ ↦
            lookup-append_right (row first seconds) more (pair_symbol n a b) (lookup_other_row first seconds a b two own.0 letter positive differ)
            ∙ later ∙ sym (ap (λ o. at_both a b o (lookup seconds b)) (lookup_there first rest a differ))
      ]
