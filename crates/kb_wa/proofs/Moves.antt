-- The moves of a state, letter by letter.
use Rattle.std.proofs.Common.{◌≡◌, ℕ, ◌+◌, ◌<◌, ◌≤◌, true, false, ◌&&◌, nat_lt, nat_le, List, [], ◌∷◌, ◌++◌, All, length, Some, None, refl, sym, ap, ◌∙◌, subst, inl, inr, arith}
use Rattle.std.proofs.lemmas.Bool.{cases_lt, cases_eq, and_left, and_right, lt-leb, cond-false, cond-true, and_from, le-leb, lt-ltb}
use Rattle.std.proofs.lemmas.List.Elements.{All-nil, All-push}
use Rattle.kb_fsa.specs.Table.{lookup}
use Rattle.kb_fsa.proofs.Lookups.{Ascends-push, lookup_above, lookup-push_same, lookup-push_other}
use Rattle.kb_explore.specs.Machine.{AreMovesOf}
use Rattle.kb_trie.specs.States.{AreWords, States, word}
use Rattle.kb_trie.specs.Steps.{IsStep}
use Rattle.kb_trie.specs.Ends.{keeps}
use Rattle.kb_wa.specs.Dictionary.{dictionary, may_move, state_after, unless_left_side, AreMovesBefore}
use Rattle.kb_wa.proofs.States.{one_stands, stands_after}

-- no letter leads from what is none of n letters
pub no_move : (n : ℕ) (trie : States) (state letter : ℕ) → may_move n trie state letter ≡ false
    → (dictionary n trie).follow state letter ≡ None
no_move n trie state letter none = cond-false (may_move n trie state letter) _ None none

no_letter_zero : (n : ℕ) (trie : States) (state : ℕ) → (dictionary n trie).follow state 0 ≡ None
no_letter_zero n trie state =
    no_move n trie state 0
    (and_right (nat_lt state (length trie.words)) (nat_lt 0 0 && nat_le 0 n) (and_left (nat_lt 0 0) (nat_le 0 n) refl))

no_letter_above : (n : ℕ) (trie : States) (state letter : ℕ) → n < letter → (dictionary n trie).follow state letter ≡ None
no_letter_above n trie state letter above =
    no_move n trie state letter
    (and_right (nat_lt state (length trie.words)) (nat_lt 0 letter && nat_le letter n)
    (and_right (nat_lt 0 letter) (nat_le letter n) (lt-leb letter n above)))

-- a letter leads to the state of the longest suffix, unless a left side ends there
pub letter_leads : (n : ℕ) (trie : States) (state letter next : ℕ) → AreWords trie.words → state < length trie.words → 0 < letter → letter ≤ n
    → IsStep trie.words state letter next → (dictionary n trie).follow state letter ≡ unless_left_side trie next
letter_leads n trie state letter next are within positive upto step =
    let words : List (List ℕ) = trie.words in
    let w : List ℕ = word words state ++ letter ∷ [] in
    let may : may_move n trie state letter ≡ true =
    and_from (nat_lt state (length words)) (nat_lt 0 letter && nat_le letter n) (lt-ltb state (length words) within)
    (and_from (nat_lt 0 letter) (nat_le letter n) (lt-ltb 0 letter positive) (le-leb letter n upto)) in
    let same : state_after words w ≡ next =
    one_stands words are w (state_after words w) next (stands_after words are w) (record { within = step.within; longest = step.longest }) in
    cond-true (may_move n trie state letter) (unless_left_side trie (state_after words w)) None may
    ∙ ap (unless_left_side trie) same

pub unless_left : (trie : States) (state : ℕ) → keeps trie.numbers state ≡ true → unless_left_side trie state ≡ None
unless_left trie state left = cond-true (keeps trie.numbers state) None (Some state) left

pub unless_none : (trie : States) (state : ℕ) → keeps trie.numbers state ≡ false → unless_left_side trie state ≡ Some state
unless_none trie state none = cond-false (keeps trie.numbers state) None (Some state) none

pub no_moves_yet : (n : ℕ) (trie : States) (state : ℕ) → AreMovesBefore n trie state 1 []
no_moves_yet n trie state = record {
  within = omega arith;
  ascends = λ i j d low high. absurd (omega arith);
  letters = All-nil (λ (move : ℕ × ℕ). (0 < move.0) × (move.0 < 1));
  follow = λ other less.
      let same : 0 ≡ other = omega arith in
      let P : ℕ → Type 0 = λ x. None ≡ (dictionary n trie).follow state x in
      subst P same (sym (no_letter_zero n trie state));
}

module _ {n : ℕ} {trie : States} {state letter : ℕ} {moves : List (ℕ × ℕ)}
    (before : AreMovesBefore n trie state letter moves) where
  none_at : (other : ℕ) → letter ≤ other → lookup moves other ≡ None
  none_at other from = lookup_above moves other (λ k d h. let at = before.letters k d h in omega (arith, at.1))

  letters_longer : All (λ (move : ℕ × ℕ). (0 < move.0) × (move.0 < letter + 1)) moves
  letters_longer k d h = let at = before.letters k d h in (at.0, omega (arith, at.1))

  pub moves_with : (next : ℕ) → 0 < letter → letter ≤ n → Some next ≡ (dictionary n trie).follow state letter
      → AreMovesBefore n trie state (letter + 1) (moves ++ (letter, next) ∷ [])
  moves_with next positive upto follows = record {
    within = omega arith;
    ascends = Ascends-push moves letter next before.ascends (λ k d h. (before.letters k d h).1);
    letters = All-push (λ (move : ℕ × ℕ). (0 < move.0) × (move.0 < letter + 1)) moves (letter, next) letters_longer (positive, omega arith);
    follow = λ other less. elim (cases_eq other letter) [
      | inl same ↦
          let P : ℕ → Type 0 = λ x. lookup (moves ++ (letter, next) ∷ []) x ≡ (dictionary n trie).follow state x in
          subst P (sym same) (lookup-push_same moves letter next (none_at letter (omega arith)) ∙ follows)
      | inr apart ↦ lookup-push_other moves letter next other apart ∙ before.follow other (omega (arith, apart))
    ];
  }

  pub moves_without : letter ≤ n → None ≡ (dictionary n trie).follow state letter → AreMovesBefore n trie state (letter + 1) moves
  moves_without upto none = record {
    within = omega arith;
    ascends = before.ascends;
    letters = letters_longer;
    follow = λ other less. elim (cases_eq other letter) [
      | inl same ↦
          let P : ℕ → Type 0 = λ x. lookup moves x ≡ (dictionary n trie).follow state x in
          subst P (sym same) (none_at letter (omega arith) ∙ none)
      | inr apart ↦ before.follow other (omega (arith, apart))
    ];
  }

  -- past the last letter they are all moves
  pub all_moves : n + 1 ≤ letter → AreMovesOf (dictionary n trie) n state moves
  all_moves past = record {
    ascends = before.ascends;
    symbols = λ k d h. let at = before.letters k d h in (at.0, omega (arith, at.1, before.within));
    follow = λ other. elim (cases_lt other letter) [
      | inl earlier ↦ before.follow other earlier
      | inr late ↦ none_at other late ∙ sym (no_letter_above n trie state other (omega arith))
    ];
  }
