-- The block of the moves whose first letter is the middle one.
use Rattle.std.proofs.Common.{◌≡◌, ℕ, ◌+◌, ◌-◌, ◌*◌, ◌/◌, ◌<◌, ◌≤◌, Bool, true, false, leb, if◌then◌else◌, List, [], ◌∷◌, ◌++◌, length, get_or, take, drop, Option, None, refl, sym, ap, ◌∙◌, subst, leb-true, arith, append_assoc, append-nil, length-append, take-append-drop}
use Rattle.std.specs.List.{All, cons_option, filter_map, flat_map}
use Rattle.std.specs.List.Sorted.{IsNonDecreasingBy, IsPartitionPoint}
use Rattle.std.proofs.Math.Nat.{mul_comm}
use Rattle.std.proofs.lemmas.Bool.{leb-false}
use Rattle.std.proofs.lemmas.List.{length-take-le, length-drop, get_or-take, get_or-drop, get_or_append_left}
use Rattle.std.proofs.lemmas.List.Elements.{All-nil, All-head, All-tail, filter_map-append}
use Rattle.std.proofs.lemmas.List.Concat.{flat_map-append}
use Rattle.std.proofs.lemmas.List.Sorted.{IsNonDecreasingBy-from_default, IsNonDecreasingBy-drop}
use Rattle.std.proofs.lemmas.Nat.{div-add-mod', mod_below}
use Rattle.kb_fsa.specs.Table.{Table, HasSymbols, Moves, Ascends, IsRow, moves_of, is_accepting}
use Rattle.kb_fsa.proofs.Lookups.{All-moves_of}
use Rattle.kb_fsa.specs.PairSymbols.{pair_symbol, pair_symbols, first_letter, second_letter}
use Rattle.kb_compose.specs.StatePairs.{stay, staying_moves, joined, joined_moves, IsBlock}
use Rattle.kb_compose.proofs.Stepping.{two_paddings}
use Rattle.kb_compose.proofs.Joins.{joined_apart}

-- symbols of a row rise
pub row_rises : (moves : Moves) → Ascends moves → IsNonDecreasingBy (λ move. move.0) moves
row_rises moves ascends = IsNonDecreasingBy-from_default (λ move. move.0) moves (0, 0) (λ i j le within.
    grind (arith, ascends i j (0, 0), λ (same : i ≡ j). ap (λ k. (get_or moves k (0, 0)).0) same))

pub block_parts : (moves : Moves) (low high i j : ℕ) → i ≤ length moves
    → IsPartitionPoint (λ move. leb move.0 low ≡ true) (λ move. leb move.0 low ≡ false) moves i → j ≤ length (drop i moves)
    → IsPartitionPoint (λ move. leb move.0 high ≡ true) (λ move. leb move.0 high ≡ false) (drop i moves) j
    → IsBlock moves low high (take j (drop i moves))
block_parts moves low high i j within first inside second = record {
  front = take i moves;
  back = drop j (drop i moves);
  whole = sym (take-append-drop i moves) ∙ ap (λ rest. take i moves ++ rest) (sym (take-append-drop j (drop i moves)));
  before = λ k d h.
      let less : k < i = omega (arith, length-take-le i moves within) in
      let at = get_or-take i moves k d less in
      let is = leb-true (get_or moves k d).0 low (first.0 k d (omega arith) less) in
      omega (arith, ap (λ (move : ℕ × ℕ). move.0) at);
  behind = λ k d h.
      let below : j + k < length (drop i moves) = omega (arith, length-drop j (drop i moves)) in
      let at = get_or-drop j (drop i moves) k d in
      let is = leb-false (get_or (drop i moves) (j + k) d).0 high (second.1 (j + k) d (omega arith) below) in
      omega (arith, ap (λ (move : ℕ × ℕ). move.0) at);
}

-- the symbols whose first letter is this one
pub letter_bounds : (n symbol c : ℕ) → 0 < symbol → first_letter n symbol ≡ c
    → ((n + 1) * c - (n + 1) < symbol) × (symbol ≤ (n + 1) * c)
letter_bounds n symbol c some is =
    let x = symbol - 1 in
    let parts = div-add-mod' x (n + 1) in
    let low = mod_below x (n + 1) (omega arith) in
    let turned = mul_comm (n + 1) (x / (n + 1)) in
    let whole : (n + 1) * (x / (n + 1) + 1) ≡ (n + 1) * (x / (n + 1)) + (n + 1) = grind arith in
    let same : (n + 1) * c ≡ (n + 1) * (x / (n + 1) + 1) = ap (λ z. (n + 1) * z) (sym is) in
    (omega arith, omega arith)

nothing_kept : {X Y : Type 0} (h : X → Option Y) (xs : List X) → All (λ x. h x ≡ None) xs → filter_map h xs ≡ []
nothing_kept h [] none = refl
nothing_kept {X} {Y} h (x ∷ xs) none =
    let P = λ (y : X). h y ≡ None in
    ap (λ o. cons_option o (filter_map h xs)) (All-head P x xs none) ∙ nothing_kept h xs (All-tail P x xs none)

-- the moves outside the block make nothing with the move
pub joined_block : (n : ℕ) (moves : Moves) (move : ℕ × ℕ) (low high : ℕ) (block : Moves) → IsRow moves
    → low ≡ (n + 1) * second_letter n move.0 - (n + 1) → high ≡ (n + 1) * second_letter n move.0
    → IsBlock moves low high block → filter_map (joined n move) block ≡ filter_map (joined n move) moves
joined_block n moves move low high block row low_is high_is is =
    let c = second_letter n move.0 in
    let h = joined n move in
    let P = λ (m : ℕ × ℕ). (0 < m.0) × (0 < m.1) in
    let numbers : All P (is.front ++ (block ++ is.back)) = subst (All P) is.whole row.numbers in
    let front : filter_map h is.front ≡ [] = nothing_kept h is.front (λ k d within.
    joined_apart n move (get_or is.front k d) (λ same.
    let positive = positive_at is.front (block ++ is.back) numbers k d within in
    let bounds = letter_bounds n (get_or is.front k d).0 c positive (sym same) in
    let no : ⊥ = omega (arith, is.before k d within) in no)) in
    let back : filter_map h is.back ≡ [] = nothing_kept h is.back (λ k d within.
    joined_apart n move (get_or is.back k d) (λ same.
    let above = is.behind k d within in
    let bounds = letter_bounds n (get_or is.back k d).0 c (omega arith) (sym same) in
    let no : ⊥ = omega arith in no)) in
    sym (ap (filter_map h) is.whole ∙ filter_map-append h is.front (block ++ is.back)
    ∙ ap (λ l. l ++ filter_map h (block ++ is.back)) front ∙ filter_map-append h block is.back
    ∙ ap (λ l. filter_map h block ++ l) back ∙ append-nil (filter_map h block))
  where
    positive_at : (xs ys : Moves) → All (λ m. (0 < m.0) × (0 < m.1)) (xs ++ ys) → (k : ℕ) (d : ℕ × ℕ) → k < length xs → 0 < (get_or xs k d).0
    positive_at xs ys all k d within =
        let P : ℕ × ℕ → Type 0 = λ m. 0 < m.0 in
        subst P (get_or_append_left xs ys d k within) (all k d (omega (arith, length-append xs ys))).0

-- ---- the stay

joined_all : (n : ℕ) (table : Table) (q : ℕ) (move : ℕ × ℕ)
    → joined_moves n table q move ≡ filter_map (joined n move) (moves_of table q) ++ filter_map (joined n move) (stay n table q)
joined_all n table q move = filter_map-append (joined n move) (moves_of table q) (stay n table q)

pub stay_accepting : (n : ℕ) (table : Table) (q : ℕ) → is_accepting table q ≡ true → stay n table q ≡ (pair_symbols n + 1, q) ∷ []
stay_accepting n table q accepts =
    ap (λ (b : Bool). if b then (pair_symbol n (n + 1) (n + 1), q) ∷ [] else []) accepts ∙ ap (λ s. (s, q) ∷ []) (two_paddings n)

pub stay_rejecting : (n : ℕ) (table : Table) (q : ℕ) → is_accepting table q ≡ false → stay n table q ≡ []
stay_rejecting n table q rejects = ap (λ (b : Bool). if b then (pair_symbol n (n + 1) (n + 1), q) ∷ [] else []) rejects

-- what is pushed, with the stay and without
pub pushed_staying : (n : ℕ) (table : Table) (q : ℕ) (move : ℕ × ℕ) (old : Moves) → is_accepting table q ≡ true
    → (old ++ filter_map (joined n move) (moves_of table q)) ++ filter_map (joined n move) ((pair_symbols n + 1, q) ∷ [])
    ≡ old ++ joined_moves n table q move
pushed_staying n table q move old accepts =
    append_assoc old (filter_map (joined n move) (moves_of table q)) (filter_map (joined n move) ((pair_symbols n + 1, q) ∷ []))
    ∙ ap (λ l. old ++ (filter_map (joined n move) (moves_of table q) ++ filter_map (joined n move) l)) (sym (stay_accepting n table q accepts))
    ∙ ap (λ l. old ++ l) (sym (joined_all n table q move))

pub pushed_moving : (n : ℕ) (table : Table) (q : ℕ) (move : ℕ × ℕ) (old : Moves) → is_accepting table q ≡ false
    → old ++ filter_map (joined n move) (moves_of table q) ≡ old ++ joined_moves n table q move
pushed_moving n table q move old rejects =
    ap (λ l. old ++ l) (sym (append-nil (filter_map (joined n move) (moves_of table q)))
    ∙ ap (λ l. filter_map (joined n move) (moves_of table q) ++ filter_map (joined n move) l) (sym (stay_rejecting n table q rejects))
    ∙ sym (joined_all n table q move))

-- the same for all moves of the first automaton
pub pair_staying : (n : ℕ) (first : Table) (p : ℕ) (old : Moves) (f : ℕ × ℕ → Moves) → is_accepting first p ≡ true
    → (old ++ flat_map f (moves_of first p)) ++ f (pair_symbols n + 1, p) ≡ old ++ flat_map f (staying_moves n first p)
pair_staying n first p old f accepts =
    append_assoc old (flat_map f (moves_of first p)) (f (pair_symbols n + 1, p))
    ∙ ap (λ l. old ++ (flat_map f (moves_of first p) ++ l)) (sym (append-nil (f (pair_symbols n + 1, p))))
    ∙ ap (λ l. old ++ (flat_map f (moves_of first p) ++ flat_map f l)) (sym (stay_accepting n first p accepts))
    ∙ ap (λ l. old ++ l) (sym (flat_map-append f (moves_of first p) (stay n first p)))

pub pair_moving : (n : ℕ) (first : Table) (p : ℕ) (old : Moves) (f : ℕ × ℕ → Moves) → is_accepting first p ≡ false
    → old ++ flat_map f (moves_of first p) ≡ old ++ flat_map f (staying_moves n first p)
pair_moving n first p old f rejects =
    ap (λ l. old ++ l) (sym (append-nil (flat_map f (moves_of first p)))
    ∙ ap (λ l. flat_map f (moves_of first p) ++ flat_map f l) (sym (stay_rejecting n first p rejects))
    ∙ sym (flat_map-append f (moves_of first p) (stay n first p)))

-- ---- what the searches find

pub rest_rises : (moves above : Moves) (i : ℕ) → above ≡ drop i moves → Ascends moves → IsNonDecreasingBy (λ move. move.0) above
rest_rises moves above i same ascends =
    let P : Moves → Type 0 = λ l. IsNonDecreasingBy (λ (move : ℕ × ℕ). move.0) l in
    subst P (sym same) (IsNonDecreasingBy-drop (λ (move : ℕ × ℕ). move.0) i moves (row_rises moves ascends))

pub block_found : (moves above : Moves) (low high i j : ℕ) → above ≡ drop i moves → i ≤ length moves
    → IsPartitionPoint (λ move. leb move.0 low ≡ true) (λ move. leb move.0 low ≡ false) moves i → j ≤ length above
    → IsPartitionPoint (λ move. leb move.0 high ≡ true) (λ move. leb move.0 high ≡ false) above j
    → IsBlock moves low high (take j above)
block_found moves above low high i j same within first inside second =
    let Fits = λ (l : Moves). j ≤ length l in
    let Parts = λ (l : Moves). IsPartitionPoint (λ move. leb move.0 high ≡ true) (λ move. leb move.0 high ≡ false) l j in
    let Block = λ (l : Moves). IsBlock moves low high (take j l) in
    subst Block (sym same) (block_parts moves low high i j within first (subst Fits same inside) (subst Parts same second))

-- what the block makes is what all moves of the state make
pub block_makes : (n : ℕ) (table : Table) (q : ℕ) (move : ℕ × ℕ) (slice : Moves) (low high : ℕ) (block : Moves) → slice ≡ moves_of table q
    → IsRow (moves_of table q) → low ≡ (n + 1) * second_letter n move.0 - (n + 1) → high ≡ (n + 1) * second_letter n move.0
    → IsBlock slice low high block → filter_map (joined n move) block ≡ filter_map (joined n move) (moves_of table q)
block_makes n table q move slice low high block same row low_is high_is is =
    let P : Moves → Type 0 = λ l. IsBlock l low high block in
    joined_block n (moves_of table q) move low high block row low_is high_is (subst P same is)

-- the symbols of a state's moves are low
pub symbol_low : (k : ℕ) (table : Table) (state : ℕ) (slice : Moves) → HasSymbols k table → slice ≡ moves_of table state → (i : ℕ) (d : ℕ × ℕ)
    → i < length slice → (get_or slice i d).0 ≤ k + 1
symbol_low k table state slice within same i d inside =
    let P = λ (m : ℕ × ℕ). m.0 ≤ k in
    let all : All P slice = subst (All P) (sym same) (All-moves_of (All P) table state (All-nil P) within) in
    omega (arith, all i d inside)
