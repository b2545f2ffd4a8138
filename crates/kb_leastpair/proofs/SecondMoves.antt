-- The moves of the machine of second words.
use Rattle.std.proofs.Common.{◌≡◌, ◌≢◌, ℕ, zero, suc, ◌+◌, ◌<◌, ◌≤◌, min, Bool, true, false, nat_le, nat_lt, List, [], ◌∷◌, ◌++◌, length, get_or, Option, Some, None, if◌then◌else◌, refl, sym, ap, ap₂, ◌∙◌, subst, inl, inr, arith}
use Rattle.std.specs.List.{All}
use Rattle.std.proofs.lemmas.Bool.{and_from, and_left, and_right, cases_lt, cases_order, lt-ltb, le-ltb, le-leb, lt-leb}
use Rattle.std.proofs.lemmas.List.Elements.{All-nil, All-push}
use Rattle.kb_fsa.specs.declared.alphabet.Alphabet.TheVariants.{Plain}
use Rattle.kb_fsa.specs.Table.{Table, lookup, step}
use Rattle.kb_fsa.specs.PairSymbols.{pair_symbol}
use Rattle.kb_fsa.specs.EndedWords.{is_symbol}
use Rattle.kb_fsa.proofs.Lookups.{lookup_above, lookup_below, lookup-push_same, lookup-push_other, Ascends-push}
use Rattle.kb_explore.specs.Machine.{AreMovesOf}
use Rattle.kb_leastpair.specs.declared.reading.Reading.{Reading}
use Rattle.kb_leastpair.specs.SecondWords.{AreMovesBefore, read_on, reading_at, second_words}

-- whether a number is that of a letter
pub letter_true : (n letter : ℕ) → (0 < letter) × (letter ≤ n) → is_symbol (Plain n) letter ≡ true
letter_true n letter is = and_from (nat_lt 0 letter) (nat_le letter n) (lt-ltb 0 letter is.0) (le-leb letter n is.1)

pub letter_zero : (n : ℕ) → is_symbol (Plain n) 0 ≡ false
letter_zero n = and_left (nat_lt 0 0) (nat_le 0 n) (le-ltb 0 0 (omega arith))

pub letter_above : (n letter : ℕ) → n < letter → is_symbol (Plain n) letter ≡ false
letter_above n letter above = and_right (nat_lt 0 letter) (nat_le letter n) (lt-leb letter n above)

module _ (n : ℕ) (table : Table) (first : List ℕ) (reading : Reading) where
  abbrev on : ℕ → Option Reading
  on letter = read_on n table first reading letter

  pub no_moves_before : AreMovesBefore n table first reading 1 []
  no_moves_before = record {
    ascends = λ i j d low high. absurd (let no : ⊥ = omega arith in no);
    letters = All-nil (λ (move : ℕ × Reading). (0 < move.0) × (move.0 < 1));
    lookup = λ other positive less. absurd (let no : ⊥ = omega arith in no);
  }

  module _ {letter : ℕ} {moves : List (ℕ × Reading)} (positive : 0 < letter)
      (before : AreMovesBefore n table first reading letter moves) where
    none_at : lookup moves letter ≡ None
    none_at = lookup_above moves letter (λ k d h. (before.letters k d h).1)

    wider : All (λ (move : ℕ × Reading). (0 < move.0) × (move.0 < letter + 1)) moves
    wider = λ k d h. let both = before.letters k d h in (both.0, omega (arith, both.1))

    pub moves_with : (next : Reading) → on letter ≡ Some next → AreMovesBefore n table first reading (letter + 1) (moves ++ (letter, next) ∷ [])
    moves_with next is = record {
      ascends = Ascends-push moves letter next before.ascends (λ k d h. (before.letters k d h).1);
      letters = All-push (λ (move : ℕ × Reading). (0 < move.0) × (move.0 < letter + 1)) moves (letter, next) wider (positive, omega arith);
      lookup = λ other low less. elim (cases_order letter other) [
        | inl same ↦
            let P : ℕ → Type 0 = λ x. lookup (moves ++ (letter, next) ∷ []) x ≡ on x in
            subst P same (lookup-push_same moves letter next none_at ∙ sym is)
        | inr apart ↦
            lookup-push_other moves letter next other (λ e. elim apart [ inl more ↦ omega arith | inr fewer ↦ omega arith ])
            ∙ elim apart [
              | inl more ↦ absurd (let no : ⊥ = omega arith in no)
              | inr fewer ↦ before.lookup other low fewer
            ]
      ];
    }

    pub moves_without : on letter ≡ None → AreMovesBefore n table first reading (letter + 1) moves
    moves_without none = record {
      ascends = before.ascends;
      letters = wider;
      lookup = λ other low less. elim (cases_order letter other) [
        | inl same ↦
            let P : ℕ → Type 0 = λ x. lookup moves x ≡ on x in subst P same (none_at ∙ sym none)
        | inr apart ↦ elim apart [
          | inl more ↦ absurd (let no : ⊥ = omega arith in no)
          | inr fewer ↦ before.lookup other low fewer
        ]
      ];
    }

  -- past the last letter they are all moves
  pub all_moves : (from state : ℕ) (letter : ℕ) (moves : List (ℕ × Reading)) → n < letter → letter ≤ n + 1 → AreMovesBefore n table first reading letter moves
      → AreMovesOf (second_words n table first from state) n reading moves
  all_moves from state letter moves past low before = record {
    ascends = before.ascends;
    symbols = λ k d h. let both = before.letters k d h in (both.0, omega (arith, both.1));
    follow = follows;
  }
    where
      follows : (other : ℕ) → lookup moves other ≡ (if is_symbol (Plain n) other then on other else None)
      follows zero =
          lookup_below moves zero (λ k d h. (before.letters k d h).0)
          ∙ sym (ap (λ (b : Bool). if b then on zero else None) (letter_zero n))
      follows (suc x) = elim (cases_lt n (suc x)) [
        | inl above ↦
            lookup_above moves (suc x) (λ k d h. omega (arith, (before.letters k d h).1))
            ∙ sym (ap (λ (b : Bool). if b then on (suc x) else None) (letter_above n (suc x) above))
        | inr within ↦
            before.lookup (suc x) (omega arith) (omega arith)
            ∙ sym (ap (λ (b : Bool). if b then on (suc x) else None) (letter_true n (suc x) (omega arith, omega arith)))
      ]

  -- where the reading goes on, as it is computed
  pub read_on_is : (letter place state len padding a symbol : ℕ) (letters : List ℕ) → padding ≡ n + 1 → letters ≡ first
      → a ≡ get_or letters reading.place padding → symbol ≡ pair_symbol n a letter → state ≡ step table reading.state symbol
      → len ≡ length first → place ≡ min (reading.place + 1) len → on letter ≡ reading_at place state
  read_on_is letter place state len padding a symbol letters padding_is letters_are a_is symbol_is state_is len_is place_is =
      let stepped = state_is ∙ ap (step table reading.state) (symbol_is
      ∙ ap (λ z. pair_symbol n z letter) (a_is ∙ ap₂ (λ (xs : List ℕ) (p : ℕ). get_or xs reading.place p) letters_are padding_is)) in
      ap₂ reading_at (sym (place_is ∙ ap (min (reading.place + 1)) len_is)) (sym stepped)

pub reading_some : (place state : ℕ) → state ≢ 0 → reading_at place state ≡ Some (record { place = place; state = state })
reading_some place zero some = absurd (some refl)
reading_some place (suc state) some = refl
