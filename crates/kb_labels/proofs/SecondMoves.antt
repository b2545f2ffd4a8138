-- The moves of the machine of second words.
use Rattle.std.proofs.Common.{◌≡◌, ℕ, zero, suc, ◌+◌, ◌<◌, ◌≤◌, min, Bool, true, false, nat_le, nat_lt, List, [], ◌∷◌, ◌++◌, length, get_or, Option, Some, None, option_map, if◌then◌else◌, sym, ap, ap₂, ◌∙◌, subst, inl, inr, arith}
use Rattle.std.specs.List.{All}
use Rattle.std.proofs.lemmas.Bool.{and_from, and_left, and_right, cases_lt, cases_order, lt-ltb, le-ltb, le-leb, lt-leb}
use Rattle.std.proofs.lemmas.List.Elements.{All-nil, All-push}
use Rattle.kb_fsa.specs.declared.alphabet.Alphabet.TheVariants.{Plain}
use Rattle.kb_fsa.specs.Table.{lookup, step}
use Rattle.kb_fsa.specs.PairSymbols.{pair_symbol}
use Rattle.kb_fsa.specs.EndedWords.{is_symbol}
use Rattle.kb_fsa.proofs.Lookups.{lookup_above, lookup_below, lookup-push_same, lookup-push_other, Ascends-push}
use Rattle.kb_explore.specs.Machine.{AreMovesOf}
use Rattle.kb_labels.specs.declared.reading.Reading.{Reading}
use Rattle.kb_labels.specs.Seconds.{Beside, AreMovesBefore, read_on, reading_at, second_words}
use Rattle.kb_labels.proofs.MarkedMoves.{is_marked, not_marked}

-- whether a number is that of a letter
pub letter_true : (n letter : ℕ) → (0 < letter) × (letter ≤ n) → is_symbol (Plain n) letter ≡ true
letter_true n letter is = and_from (nat_lt 0 letter) (nat_le letter n) (lt-ltb 0 letter is.0) (le-leb letter n is.1)

pub letter_zero : (n : ℕ) → is_symbol (Plain n) 0 ≡ false
letter_zero n = and_left (nat_lt 0 0) (nat_le 0 n) (le-ltb 0 0 (omega arith))

pub letter_above : (n letter : ℕ) → n < letter → is_symbol (Plain n) letter ≡ false
letter_above n letter above = and_right (nat_lt 0 letter) (nat_le letter n) (lt-leb letter n above)

module _ (beside : Beside) (reading : Reading) where
  abbrev on : ℕ → Option Reading
  on letter = read_on beside reading letter

  pub no_moves_before : AreMovesBefore beside reading 1 []
  no_moves_before = record {
    ascends = λ i j d low high. absurd (let no : ⊥ = omega arith in no);
    letters = All-nil (λ (move : ℕ × Reading). (0 < move.0) × (move.0 < 1));
    lookup = λ other positive less. absurd (let no : ⊥ = omega arith in no);
  }

  module _ {letter : ℕ} {moves : List (ℕ × Reading)} (positive : 0 < letter) (before : AreMovesBefore beside reading letter moves) where
    none_at : lookup moves letter ≡ None
    none_at = lookup_above moves letter (λ k d h. (before.letters k d h).1)

    wider : All (λ (move : ℕ × Reading). (0 < move.0) × (move.0 < letter + 1)) moves
    wider = λ k d h. let both = before.letters k d h in (both.0, omega (arith, both.1))

    pub moves_with : (next : Reading) → on letter ≡ Some next → AreMovesBefore beside reading (letter + 1) (moves ++ (letter, next) ∷ [])
    moves_with next is = record {
      ascends = Ascends-push moves letter next before.ascends (λ k d h. (before.letters k d h).1);
      letters = All-push (λ (move : ℕ × Reading). (0 < move.0) × (move.0 < letter + 1)) moves (letter, next) wider (positive, omega arith);
      lookup = λ other low less. elim (cases_order letter other) [
        | inl same ↦
            let P : ℕ → Type 0 = λ x. lookup (moves ++ (letter, next) ∷ []) x ≡ on x in
            subst P same (lookup-push_same moves letter next none_at ∙ sym is)
        | inr apart ↦
            lookup-push_other moves letter next other (λ e. elim apart [ inl more ↦ omega arith | inr fewer ↦ omega arith ])
            ∙ elim apart [
              | inl more ↦ absurd (let no : ⊥ = omega arith in no)
              | inr fewer ↦ before.lookup other low fewer
            ]
      ];
    }

    pub moves_without : on letter ≡ None → AreMovesBefore beside reading (letter + 1) moves
    moves_without none = record {
      ascends = before.ascends;
      letters = wider;
      lookup = λ other low less. elim (cases_order letter other) [
        | inl same ↦
            let P : ℕ → Type 0 = λ x. lookup moves x ≡ on x in subst P same (none_at ∙ sym none)
        | inr apart ↦ elim apart [
          | inl more ↦ absurd (let no : ⊥ = omega arith in no)
          | inr fewer ↦ before.lookup other low fewer
        ]
      ];
    }

  -- past the last letter they are all moves
  pub all_moves : (letter : ℕ) (moves : List (ℕ × Reading)) → beside.n < letter → letter ≤ beside.n + 1 → AreMovesBefore beside reading letter moves
      → AreMovesOf (second_words beside) beside.n reading moves
  all_moves letter moves past low before = record {
    ascends = before.ascends;
    symbols = λ k d h. let both = before.letters k d h in (both.0, omega (arith, both.1));
    follow = follows;
  }
    where
      follows : (other : ℕ) → lookup moves other ≡ (if is_symbol (Plain beside.n) other then on other else None)
      follows zero =
          lookup_below moves zero (λ k d h. (before.letters k d h).0)
          ∙ sym (ap (λ (b : Bool). if b then on zero else None) (letter_zero beside.n))
      follows (suc x) = elim (cases_lt beside.n (suc x)) [
        | inl above ↦
            lookup_above moves (suc x) (λ k d h. omega (arith, (before.letters k d h).1))
            ∙ sym (ap (λ (b : Bool). if b then on (suc x) else None) (letter_above beside.n (suc x) above))
        | inr within ↦
            before.lookup (suc x) (omega arith) (omega arith)
            ∙ sym (ap (λ (b : Bool). if b then on (suc x) else None) (letter_true beside.n (suc x) (omega arith, omega arith)))
      ]

  -- the state where the reading goes on, as it is computed
  pub next_state : (letter state padding a symbol : ℕ) (letters : List ℕ) → padding ≡ beside.n + 1 → letters ≡ beside.first
      → a ≡ get_or letters reading.place padding → symbol ≡ pair_symbol beside.n a letter → state ≡ step beside.table reading.state symbol
      → state ≡ step beside.table reading.state (pair_symbol beside.n (get_or beside.first reading.place (beside.n + 1)) letter)
  next_state letter state padding a symbol letters padding_is letters_are a_is symbol_is state_is =
      state_is ∙ ap (step beside.table reading.state) (symbol_is
      ∙ ap (λ z. pair_symbol beside.n z letter) (a_is ∙ ap₂ (λ (xs : List ℕ) (p : ℕ). get_or xs reading.place p) letters_are padding_is))

  -- the reading goes on in a marked state
  pub read_some : (letter place len state : ℕ) (word : List ℕ) → len ≡ length beside.first → place ≡ min (reading.place + 1) len
      → state ≡ step beside.table reading.state (pair_symbol beside.n (get_or beside.first reading.place (beside.n + 1)) letter)
      → get_or beside.marks state false ≡ true → word ≡ beside.normal (reading.word ++ letter ∷ [])
      → on letter ≡ Some (record { place = place; state = state; word = word })
  read_some letter place len state word len_is place_is state_is mark word_is =
      ap (reading_at beside (min (reading.place + 1) (length beside.first)) (beside.normal (reading.word ++ letter ∷ []))) (sym state_is)
      ∙ ap (option_map (λ s. record {
        place = min (reading.place + 1) (length beside.first);
        state = s;
        word = beside.normal (reading.word ++ letter ∷ []);
      })) (is_marked beside.marks state mark)
      ∙ ap₂ (λ (p : ℕ) (w : List ℕ). Some (record { place = p; state = state; word = w }))
      (sym (place_is ∙ ap (min (reading.place + 1)) len_is)) (sym word_is)

  -- and nowhere in another
  pub read_none : (letter state : ℕ)
      → state ≡ step beside.table reading.state (pair_symbol beside.n (get_or beside.first reading.place (beside.n + 1)) letter)
      → get_or beside.marks state false ≡ false → on letter ≡ None
  read_none letter state state_is mark =
      ap (reading_at beside (min (reading.place + 1) (length beside.first)) (beside.normal (reading.word ++ letter ∷ []))) (sym state_is)
      ∙ ap (option_map (λ s. record {
        place = min (reading.place + 1) (length beside.first);
        state = s;
        word = beside.normal (reading.word ++ letter ∷ []);
      })) (not_marked beside.marks state mark)
