-- The moves of a track, and of a place.
use Rattle.std.proofs.Common.{◌≡◌, ℕ, ◌+◌, ◌*◌, ◌<◌, ◌≤◌, Bool, true, false, ◌&&◌, nat_eq, nat_le, nat_lt, if◌then◌else◌, List, [], ◌∷◌, ◌++◌, length, get_or, take, Option, Some, None, refl, sym, ap, ◌∙◌, subst, inl, inr, append_assoc, arith}
use Rattle.std.specs.List.{All, filter_map}
use Rattle.std.proofs.lemmas.Bool.{cases_lt, cases_eq, and_from, and_left, and_right, eq-eqb, ne_eqb, le-leb, lt-leb, lt-ltb}
use Rattle.std.proofs.lemmas.Grind.{flat_map-append}
use Rattle.std.proofs.lemmas.List.{append-nil, take_all, take_more}
use Rattle.std.proofs.lemmas.List.Elements.{All-nil, All-push, filter_map-append}
use Rattle.std.proofs.lemmas.Option.{none-some}
use Rattle.kb_fsa.specs.Table.{Table, Moves, Ascends, IsRow, HasSymbols, lookup, moves_of}
use Rattle.kb_fsa.specs.PairSymbols.{pair_symbol, pair_symbols, first_letter, second_letter}
use Rattle.kb_fsa.specs.EndedWords.{is_symbol}
use Rattle.kb_fsa.specs.declared.alphabet.Alphabet.TheVariants.{Pair}
use Rattle.kb_fsa.proofs.Lookups.{All-moves_of, Ascends-push, lookup_at, lookup_nowhere}
use Rattle.kb_fsa.proofs.PairSymbolLaws.{first_within, last_row, pair_symbol-letters, second_letter_within, square}
use Rattle.kb_explore.specs.Machine.{AreMovesOf}
use Rattle.kb_diffwa.specs.declared.place.Place.{Place}
use Rattle.kb_diffwa.specs.Tracks.{may_end, track_moves}
use Rattle.kb_diffwa.specs.Pairs.{both_placed, crossed, move_by, pairs, placed}
use Rattle.kb_diffwa.proofs.Crossing.{HaveLetters, IsPairLetter, at_both, crossed_ascends, crossed_within, lookup_crossed}

-- ---- loops that make the moves

pub moves_more : {X Y : Type 0} (h : X → Option Y) (old : List Y) (xs : List X) (i : ℕ) (e : X) → i < length xs
    → (old ++ filter_map h (take i xs)) ++ filter_map h (get_or xs i e ∷ []) ≡ old ++ filter_map h (take (i + 1) xs)
moves_more h old xs i e within =
    append_assoc old (filter_map h (take i xs)) (filter_map h (get_or xs i e ∷ []))
    ∙ ap (λ more. old ++ more) (sym (ap (filter_map h) (take_more xs i e within) ∙ filter_map-append h (take i xs) (get_or xs i e ∷ [])))

pub crossed_more : (step : ℕ → ℕ → ℕ → ℕ) (n d : ℕ) (firsts seconds : Moves) (i : ℕ) (e : ℕ × ℕ) → i < length firsts
    → crossed step n d (take i firsts) seconds ++ filter_map (move_by step n d (get_or firsts i e)) seconds
    ≡ crossed step n d (take (i + 1) firsts) seconds
crossed_more step n d firsts seconds i e within =
    sym (
    ap (λ moves. crossed step n d moves seconds) (take_more firsts i e within)
    ∙ flat_map-append (λ first. filter_map (move_by step n d first) seconds) (take i firsts) (get_or firsts i e ∷ [])
    ∙ ap (λ more. crossed step n d (take i firsts) seconds ++ more) (append-nil (filter_map (move_by step n d (get_or firsts i e)) seconds))
    )

-- ---- the moves of a track

module _ (table : Table) (n : ℕ) (low : HasSymbols n table) where
  -- the letters of the acceptor's moves are its generators
  pub letters_low : (track : ℕ) → All (λ move. move.0 ≤ n) (moves_of table track)
  letters_low track = All-moves_of (λ moves. All (λ move. move.0 ≤ n) moves) table track (All-nil (λ (move : ℕ × ℕ). move.0 ≤ n)) low

  module _ (track : ℕ) (is : IsRow (moves_of table track)) where
    letters_own : HaveLetters n (moves_of table track)
    letters_own k e h = let here = letters_low track k e h in ((is.numbers k e h).0, omega arith)

    pub letter_at : (items : Moves) (i : ℕ) → items ≡ moves_of table track → i < length items → (get_or items i (0, 0)).0 ≤ n + 1
    letter_at items i are within =
        let low_there : All (λ move. move.0 ≤ n) items = subst (All (λ (move : ℕ × ℕ). move.0 ≤ n)) (sym are) (letters_low track) in
        let here = low_there i (0, 0) within in omega arith

    pub track_letters : HaveLetters n (track_moves table n track)
    track_letters = on (may_end table track)
      where
        on : (ends : Bool) → HaveLetters n (moves_of table track ++ (if ends then (n + 1, 0) ∷ [] else []))
        on true = All-push (λ (move : ℕ × ℕ). IsPairLetter n move.0) (moves_of table track) (n + 1, 0) letters_own (omega arith, omega arith)
        on false = subst (HaveLetters n) (sym (append-nil (moves_of table track))) letters_own

    pub track_ascends : Ascends (track_moves table n track)
    track_ascends = on (may_end table track)
      where
        on : (ends : Bool) → Ascends (moves_of table track ++ (if ends then (n + 1, 0) ∷ [] else []))
        on true = Ascends-push (moves_of table track) (n + 1) 0 is.ascends (λ k e h. let here = letters_low track k e h in omega arith)
        on false = subst Ascends (sym (append-nil (moves_of table track))) is.ascends

-- a track has the padding too where its word may end
module _ (table : Table) (n track i : ℕ) (items : Moves) (are : items ≡ moves_of table track) (past : length items ≤ i) where
  pub with_padding : may_end table track ≡ true → take i items ++ (n + 1, 0) ∷ [] ≡ track_moves table n track
  with_padding ends =
      ap (λ moves. moves ++ (n + 1, 0) ∷ []) (take_all i items past ∙ are)
      ∙ sym (ap (λ (b : Bool). moves_of table track ++ (if b then (n + 1, 0) ∷ [] else [])) ends)

  pub without_padding : may_end table track ≡ false → take i items ≡ track_moves table n track
  without_padding goes_on =
      take_all i items past ∙ are ∙ sym (append-nil (moves_of table track))
      ∙ sym (ap (λ (b : Bool). moves_of table track ++ (if b then (n + 1, 0) ∷ [] else [])) goes_on)

  pub all_seconds : {Y : Type 0} (h : ℕ × ℕ → Option Y) (old : List Y) → may_end table track ≡ true
      → (old ++ filter_map h (take i items)) ++ filter_map h ((n + 1, 0) ∷ []) ≡ old ++ filter_map h (track_moves table n track)
  all_seconds h old ends =
      append_assoc old (filter_map h (take i items)) (filter_map h ((n + 1, 0) ∷ []))
      ∙ ap (λ more. old ++ more) (sym (filter_map-append h (take i items) ((n + 1, 0) ∷ [])) ∙ ap (filter_map h) (with_padding ends))

  pub all_firsts : (step : ℕ → ℕ → ℕ → ℕ) (d : ℕ) (seconds : Moves) → may_end table track ≡ true
      → crossed step n d (take i items) seconds ++ filter_map (move_by step n d (n + 1, 0)) seconds ≡ crossed step n d (track_moves table n track) seconds
  all_firsts step d seconds ends =
      sym (
      flat_map-append (λ first. filter_map (move_by step n d first) seconds) (take i items) ((n + 1, 0) ∷ [])
      ∙ ap (λ more. crossed step n d (take i items) seconds ++ more) (append-nil (filter_map (move_by step n d (n + 1, 0)) seconds))
      )
      ∙ ap (λ moves. crossed step n d moves seconds) (with_padding ends)

-- ---- the moves of a place

-- the two paddings would make the symbol after the last one
last_pair : (n : ℕ) → pair_symbol n (n + 1) (n + 1) ≡ (n + 1) * (n + 1)
last_pair n = let row = last_row n (n + 1) in let whole = square n in omega arith

pub symbol_true : (n symbol : ℕ) → 0 < symbol → symbol ≤ pair_symbols n → is_symbol (Pair n) symbol ≡ true
symbol_true n symbol positive within =
    and_from (nat_lt 0 symbol) (nat_le symbol (pair_symbols n)) (lt-ltb 0 symbol positive) (le-leb symbol (pair_symbols n) within)

none_is_symbol : (n : ℕ) → is_symbol (Pair n) 0 ≡ false
none_is_symbol n = and_left (nat_lt 0 0) (nat_le 0 (pair_symbols n)) refl

past_is_none : (n symbol : ℕ) → pair_symbols n < symbol → is_symbol (Pair n) symbol ≡ false
past_is_none n symbol past = and_right (nat_lt 0 symbol) (nat_le symbol (pair_symbols n)) (lt-leb symbol (pair_symbols n) past)

module _ (step : ℕ → ℕ → ℕ → ℕ) (n d : ℕ) where
  not_both : (a b : ℕ) → ((a ≡ n + 1) × (b ≡ n + 1) → ⊥) → (nat_eq a (n + 1) && nat_eq b (n + 1)) ≡ false
  not_both a b differ =
      elim (cases_eq a (n + 1)) [
        | inl same ↦ and_right (nat_eq a (n + 1)) (nat_eq b (n + 1)) (ne_eqb b (n + 1) (λ also. differ (same, also)))
        | inr other ↦ and_left (nat_eq a (n + 1)) (nat_eq b (n + 1)) (ne_eqb a (n + 1) other)
      ]

  both_as_placed : (a b : ℕ) (one two : Option ℕ) → ((a ≡ n + 1) × (b ≡ n + 1) → ⊥) → at_both step n d a b one two ≡ both_placed one two (step d a b)
  both_as_placed a b None two differ = refl
  both_as_placed a b (Some first) None differ = refl
  both_as_placed a b (Some first) (Some second) differ =
      ap (λ (test : Bool). if test then None else placed first second (step d a b)) (not_both a b differ)

  no_paddings : (one two : Option ℕ) → at_both step n d (n + 1) (n + 1) one two ≡ None
  no_paddings None two = refl
  no_paddings (Some first) None = refl
  no_paddings (Some first) (Some second) =
      ap (λ (test : Bool). if test then None else placed first second (step d (n + 1) (n + 1)))
      (and_from (nat_eq (n + 1) (n + 1)) (nat_eq (n + 1) (n + 1)) (eq-eqb (n + 1) (n + 1) refl) (eq-eqb (n + 1) (n + 1) refl))

module _ (table : Table) (n : ℕ) (step : ℕ → ℕ → ℕ → ℕ) (targets : List ℕ) (low : HasSymbols n table) (place : Place)
    (one : IsRow (moves_of table place.first)) (two : IsRow (moves_of table place.second)) where
  abbrev firsts : Moves
  firsts = track_moves table n place.first

  abbrev seconds : Moves
  seconds = track_moves table n place.second

  abbrev moves : List (ℕ × Place)
  moves = crossed step n place.difference firsts seconds

  -- where the letters of a symbol lead
  abbrev led : ℕ → Option Place
  led symbol = both_placed (lookup firsts (first_letter n symbol)) (lookup seconds (second_letter n symbol))
      (step place.difference (first_letter n symbol) (second_letter n symbol))

  within : All (λ move. (0 < move.0) × (move.0 ≤ (n + 1) * (n + 1))) moves
  within = crossed_within step n place.difference firsts seconds (track_letters table n low place.first one) (track_letters table n low place.second two)

  found : (a b : ℕ) → 0 < a → IsPairLetter n b → lookup moves (pair_symbol n a b) ≡ at_both step n place.difference a b (lookup firsts a) (lookup seconds b)
  found a b positive letter =
      lookup_crossed step n place.difference firsts seconds a b (track_letters table n low place.first one)
      (track_letters table n low place.second two) (track_ascends table n low place.first one) (track_ascends table n low place.second two) positive letter

  by_symbol : (symbol : ℕ) → 0 < symbol → symbol ≤ pair_symbols n → lookup moves symbol ≡ led symbol
  by_symbol symbol positive most =
      let a = first_letter n symbol in
      let b = second_letter n symbol in
      let row = first_within n symbol (positive, most) in
      let last = last_pair n in
      let same = pair_symbol-letters n symbol positive in
      sym (ap (lookup moves) same) ∙ found a b (omega arith) (second_letter_within n symbol)
      ∙ both_as_placed step n place.difference a b (lookup firsts a) (lookup seconds b) (λ both.
      let whole : symbol ≡ (n + 1) * (n + 1) = sym same ∙ ap (λ z. pair_symbol n z b) both.0 ∙ ap (λ z. pair_symbol n (n + 1) z) both.1 ∙ last in
      let no : ⊥ = omega arith in no)

  by_none : (symbol : ℕ) → pair_symbols n < symbol → lookup moves symbol ≡ None
  by_none symbol past = elim (cases_lt ((n + 1) * (n + 1)) symbol) [
    | inl above ↦ lookup_nowhere moves symbol (λ k e h same. omega (arith, within k e h, same))
    | inr upto ↦
        let same : (n + 1) * (n + 1) ≡ symbol = omega arith in
        sym (ap (lookup moves) (last_pair n ∙ same)) ∙ found (n + 1) (n + 1) (omega arith) (omega arith, omega arith)
        ∙ no_paddings step n place.difference (lookup firsts (n + 1)) (lookup seconds (n + 1))
  ]

  follows : (symbol : ℕ) → lookup moves symbol ≡ (pairs table n step targets).follow place symbol
  follows symbol =
      elim (cases_lt 0 symbol) [
        | inl positive ↦ elim (cases_lt (pair_symbols n) symbol) [
          | inl past ↦ by_none symbol past ∙ sym (ap (λ (test : Bool). if test then led symbol else None) (past_is_none n symbol past))
          | inr most ↦ by_symbol symbol positive most ∙ sym (ap (λ (test : Bool). if test then led symbol else None) (symbol_true n symbol positive most))
        ]
        | inr least ↦
            let zero_is : 0 ≡ symbol = omega arith in
            let test = sym (ap (λ z. is_symbol (Pair n) z) zero_is) ∙ none_is_symbol n in
            lookup_nowhere moves symbol (λ k e h same. omega (arith, within k e h, same))
            ∙ sym (ap (λ (t : Bool). if t then led symbol else None) test)
      ]

  -- the crossed moves of the tracks are the machine's
  pub place_moves : AreMovesOf (pairs table n step targets) (pair_symbols n) place moves
  place_moves = record {
    ascends = crossed_ascends step n place.difference firsts seconds (track_letters table n low place.first one)
        (track_letters table n low place.second two) (track_ascends table n low place.first one) (track_ascends table n low place.second two);
    symbols = λ k e h.
        let move = get_or moves k e in
        let some = sym (lookup_at moves k e
        (crossed_ascends step n place.difference firsts seconds (track_letters table n low place.first one)
        (track_letters table n low place.second two) (track_ascends table n low place.first one) (track_ascends table n low place.second two)) h) in
        elim (cases_lt (pair_symbols n) move.0) [
          | inl past ↦ absurd (none-some move.1 (sym (by_none move.0 past) ∙ sym some))
          | inr most ↦ ((within k e h).0, most)
        ];
    follow = follows;
  }
