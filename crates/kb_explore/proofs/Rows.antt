-- Rows by numbers beside the moves of a machine.
use Rattle.std.proofs.Common.{◌≡◌, ℕ, zero, suc, ◌<◌, ◌≤◌, List, [], ◌∷◌, ◌++◌, length, get_or, slice_get, take, map, Some, refl, sym, ap, subst, ◌∙◌, inl, inr, arith}
use Rattle.std.specs.List.{All, AllZip}
use Rattle.std.specs.Option.{unwrap_or}
use Rattle.std.proofs.lemmas.Bool.{cases_eq}
use Rattle.std.proofs.lemmas.List.{get_or-take, get_or_default, map-id}
use Rattle.std.proofs.lemmas.List.Elements.{All-cons, All-weaker}
use Rattle.std.proofs.lemmas.Option.{none-some, same_Some}
use Rattle.kb_word.specs.Words.{Less}
use Rattle.kb_fsa.specs.Table.{Moves, IsRow, Ascends, lookup, target}
use Rattle.kb_fsa.proofs.Lookups.{lookup_here, lookup_there, lookup_at, lookup_below, Ascends-head, Ascends-tail}
use Rattle.kb_explore.specs.Machine.{Machine, AreMovesOf}
use Rattle.kb_explore.specs.Exploration.{numbered}
use Rattle.kb_explore.specs.Progress.{IsNumbered}
use Rattle.kb_explore.proofs.ExplorationLemmas.{number_positive, number_within}

-- ---- a move of a machine, at its place

module _ {S : Type 0} {machine : Machine S} {k : ℕ} {state : S} {moves : List (ℕ × S)} (are_moves : AreMovesOf machine k state moves)
    (passed : List (ℕ × S)) (symbol : ℕ) (target : S) (within : length passed < length moves)
    (here : (symbol, target) ≡ get_or moves (length passed) (symbol, target)) where
  follows_here : machine.follow state symbol ≡ Some target
  follows_here =
      let at = lookup_at moves (length passed) (symbol, target) are_moves.ascends within in
      let P : ℕ × S → Type 0 = λ move. lookup moves move.0 ≡ Some move.1 in
      sym (are_moves.follow symbol) ∙ subst P (sym here) at

  above_passed : map (λ move. move) passed ≡ take (length passed) moves → All (λ move. move.0 < symbol) passed
  above_passed are place d low =
      let front : passed ≡ take (length passed) moves = sym (map-id passed) ∙ are in
      let same : get_or passed place d ≡ get_or moves place d =
      ap (λ xs. get_or xs place d) front ∙ get_or-take (length passed) moves place d low in
      let ascends = are_moves.ascends place (length passed) d low within in
      let default = get_or_default moves (length passed) d (symbol, target) within in
      let number = ap (λ (move : ℕ × S). move.0) here in
      let left = ap (λ (move : ℕ × S). move.0) same in
      let right = ap (λ (move : ℕ × S). move.0) default in
      omega arith

-- what stands before an entry is found among those before it
lookup_before : {X : Type 0} (entries : List (ℕ × X)) (place x : ℕ) (y : X) (d : ℕ × X) → Ascends entries → place < length entries
    → x < (get_or entries place d).0 → lookup entries x ≡ Some y → lookup (take place entries) x ≡ Some y
lookup_before [] place x y d ascends within less found = absurd (none-some y found)
lookup_before {X} (entry ∷ rest) zero x y d ascends within less found =
    let above = All-weaker (λ (later : ℕ × X). entry.0 < later.0) (λ later. x < later.0) (λ later behind. omega arith) rest
    (Ascends-head entry rest ascends) in
    absurd (none-some y (sym (lookup_below (entry ∷ rest) x (All-cons (λ (e : ℕ × X). x < e.0) entry rest less above)) ∙ found))
lookup_before (entry ∷ rest) (suc place) x y d ascends within less found =
    elim (cases_eq entry.0 x) [
      | inl same ↦ lookup_here entry (take place rest) x same ∙ sym (lookup_here entry rest x same) ∙ found
      | inr differ ↦
          lookup_there entry (take place rest) x differ
          ∙ lookup_before rest place x y d (Ascends-tail entry rest ascends) (omega arith) less (sym (lookup_there entry rest x differ) ∙ found)
    ]

-- the moves are those of the state that was read at its place

module _ {S : Type 0} {machine : Machine S} {k : ℕ} (states : List S) (place : ℕ) (state read : S) (moves passed : List (ℕ × S))
    (at : slice_get states place ≡ Some state) (there : slice_get states place ≡ Some read) (are_moves : AreMovesOf machine k read moves) where
  moves_at : AreMovesOf machine k state moves
  moves_at = let P : S → Type 0 = λ s. AreMovesOf machine k s moves in subst P (same_Some read state (sym there ∙ at)) are_moves

  -- those by lesser symbols are passed before the next of them
  passed_before : (symbol : ℕ) (target : S) → map (λ move. move) passed ≡ take (length passed) moves
      → (length passed < length moves) × ((symbol, target) ≡ get_or moves (length passed) (symbol, target))
      → (x : ℕ) (next : S) → x < symbol → machine.follow state x ≡ Some next → lookup passed x ≡ Some next
  passed_before symbol target front turn x next less on =
      let number = ap (λ (move : ℕ × S). move.0) turn.1 in
      let own = moves_at in
      ap (λ xs. lookup xs x) (sym (map-id passed) ∙ front)
      ∙ lookup_before moves (length passed) x next (symbol, target) own.ascends turn.0 (omega arith) (own.follow x ∙ on)

  -- the next of them
  pub next_move : (symbol : ℕ) (target : S) → map (λ move. move) passed ≡ take (length passed) moves
      → (length passed < length moves) × ((symbol, target) ≡ get_or moves (length passed) (symbol, target))
      → (machine.follow state symbol ≡ Some target) × All (λ move. move.0 < symbol) passed
      × ((x : ℕ) (next : S) → x < symbol → machine.follow state x ≡ Some next → lookup passed x ≡ Some next)
  next_move symbol target front turn = (
    follows_here moves_at passed symbol target turn.0 turn.1,
    above_passed moves_at passed symbol target turn.0 turn.1 front,
    passed_before symbol target front turn,
  )

  -- all of them
  pub all_moves : map (λ move. move) passed ≡ moves → AreMovesOf machine k state passed
  all_moves whole =
      let P : List (ℕ × S) → Type 0 = λ xs. AreMovesOf machine k state xs in subst P (sym whole ∙ map-id passed) moves_at

-- ---- a row beside the moves

AllZip-at : {A B : Type 0} (R : A → B → Type 0) (xs : List A) (ys : List B) → AllZip R xs ys → (place : ℕ) (d : A) (e : B) → place < length xs
    → R (get_or xs place d) (get_or ys place e)
AllZip-at R [] [] all place d e within = absurd (let no : ⊥ = omega arith in no)
AllZip-at R [] (y ∷ ys) all place d e within = absurd all
AllZip-at R (x ∷ xs) [] all place d e within = absurd all
AllZip-at R (x ∷ xs) (y ∷ ys) all zero d e within = all.0
AllZip-at R (x ∷ xs) (y ∷ ys) all (suc place) d e within = AllZip-at R xs ys all.1 place d e (omega arith)

AllZip-length : {A B : Type 0} (R : A → B → Type 0) (xs : List A) (ys : List B) → AllZip R xs ys → length xs ≡ length ys
AllZip-length R [] [] all = refl
AllZip-length R [] (y ∷ ys) all = absurd all
AllZip-length R (x ∷ xs) [] all = absurd all
AllZip-length R (x ∷ xs) (y ∷ ys) all = ap suc (AllZip-length R xs ys all.1)

module _ {S : Type 0} (states : List S) (words : List (List ℕ)) (word : List ℕ) where
  -- each symbol leads to the number of the state to which the moves lead by it
  pub row_follows : (row : Moves) (moves : List (ℕ × S)) → AllZip (IsNumbered states words word) row moves → (symbol : ℕ)
      → numbered states (target row symbol) ≡ lookup moves symbol
  row_follows [] [] all symbol = refl
  row_follows [] (original ∷ moves) all symbol = absurd all
  row_follows (move ∷ row) [] all symbol = absurd all
  row_follows (move ∷ row) (original ∷ moves) all symbol =
      let is = all.0 in
      elim (cases_eq move.0 symbol) [
        | inl same ↦
            ap (λ o. numbered states (unwrap_or o 0)) (lookup_here move row symbol same) ∙ is.state
            ∙ sym (lookup_here original moves symbol (sym is.symbol ∙ same))
        | inr differ ↦
            ap (λ o. numbered states (unwrap_or o 0)) (lookup_there move row symbol differ) ∙ row_follows row moves all.1 symbol
            ∙ sym (lookup_there original moves symbol (λ same. differ (is.symbol ∙ same)))
      ]

  pub row_not_less : (row : Moves) (moves : List (ℕ × S)) → AllZip (IsNumbered states words word) row moves → (symbol : ℕ) (other : List ℕ)
      → numbered words (target row symbol) ≡ Some other → ¬ Less (word ++ symbol ∷ []) other
  row_not_less [] [] all symbol other at = absurd (none-some other at)
  row_not_less [] (original ∷ moves) all symbol other at = absurd all
  row_not_less (move ∷ row) [] all symbol other at = absurd all
  row_not_less (move ∷ row) (original ∷ moves) all symbol other at =
      let is = all.0 in
      elim (cases_eq move.0 symbol) [
        | inl same ↦ (
            let P : ℕ → Type 0 = λ x. ¬ Less (word ++ x ∷ []) other in
            subst P same (is.not_less other (sym (ap (λ o. numbered words (unwrap_or o 0)) (lookup_here move row symbol same)) ∙ at))
            )
        | inr differ ↦
            row_not_less row moves all.1 symbol other
            (sym (ap (λ o. numbered words (unwrap_or o 0)) (lookup_there move row symbol differ)) ∙ at)
      ]

  module _ {machine : Machine S} {k : ℕ} {state : S} {moves : List (ℕ × S)} (are_moves : AreMovesOf machine k state moves) (row : Moves)
      (all : AllZip (IsNumbered states words word) row moves) where
    beside : (place : ℕ) (d : ℕ × ℕ) → place < length row → IsNumbered states words word (get_or row place d) (get_or moves place (0, state))
    beside place d within = AllZip-at (IsNumbered states words word) row moves all place d (0, state) within

    pub row_is : IsRow row
    row_is = record {
      ascends = λ i j d less within.
          let count = AllZip-length (IsNumbered states words word) row moves all in
          let one = beside i d (omega arith) in
          let two = beside j d within in
          let ascends = are_moves.ascends i j (0, state) less (omega arith) in
          let left = one.symbol in let right = two.symbol in
          omega arith;
      numbers = λ place d within.
          let count = AllZip-length (IsNumbered states words word) row moves all in
          let is = beside place d within in
          let same = is.symbol in
          let symbols = are_moves.symbols place (0, state) (omega arith) in
          let positive = symbols.0 in
          (omega arith, number_positive states (get_or row place d).1 (get_or moves place (0, state)).1 is.state);
    }

    pub row_symbols : All (λ move. move.0 ≤ k) row
    row_symbols place d within =
        let count = AllZip-length (IsNumbered states words word) row moves all in
        let is = beside place d within in
        let same = is.symbol in
        let symbols = are_moves.symbols place (0, state) (omega arith) in
        let le = symbols.1 in
        omega arith

    pub row_within : All (λ move. move.1 ≤ length states) row
    row_within place d within =
        let is = beside place d within in number_within states (get_or row place d).1 (get_or moves place (0, state)).1 is.state
