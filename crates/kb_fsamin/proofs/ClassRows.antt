-- Rows with the classes of targets.
use Rattle.std.proofs.Common.{◌≡◌, ◌≢◌, ℕ, zero, suc, ◌+◌, ◌<◌, List, [], ◌∷◌, ◌++◌, length, get_or, take, All, unwrap_or, refl, sym, ap, ◌∙◌, subst, inl, inr, arith}
use Rattle.std.proofs.lemmas.Bool.{cases_eq, eq-eqb, ne_eqb}
use Rattle.std.proofs.lemmas.List.{take_more, append-nil}
use Rattle.std.proofs.lemmas.List.Elements.{filter_map-append, All-head, All-tail, All-cons}
use Rattle.kb_fsa.specs.Table.{Moves, IsRow, Ascends, target}
use Rattle.kb_fsa.proofs.Lookups.{Ascends-tail, Ascends-head, lookup_here, lookup_there, lookup_below, target_some, target_none}
use Rattle.kb_fsamin.specs.Rounds.{class_of, classed, class_row}

pub class_row-dead : (classes : List ℕ) (move : ℕ × ℕ) (rest : Moves) → class_of classes move.1 ≡ 0 → class_row classes (move ∷ rest) ≡ class_row classes rest
class_row-dead classes move rest is = rw (eq-eqb (class_of classes move.1) 0 is) refl

pub class_row-live : (classes : List ℕ) (move : ℕ × ℕ) (rest : Moves) → class_of classes move.1 ≢ 0
    → class_row classes (move ∷ rest) ≡ (move.0, class_of classes move.1) ∷ class_row classes rest
class_row-live classes move rest some = rw (ne_eqb (class_of classes move.1) 0 some) refl

more : (classes : List ℕ) (moves : Moves) (place : ℕ) → place < length moves
    → class_row classes (take (place + 1) moves) ≡ class_row classes (take place moves) ++ class_row classes (get_or moves place (0, 0) ∷ [])
more classes moves place within =
    ap (class_row classes) (take_more moves place (0, 0) within)
    ∙ filter_map-append (classed classes) (take place moves) (get_or moves place (0, 0) ∷ [])

pub class_row-more_dead : (classes : List ℕ) (moves : Moves) (place : ℕ) → place < length moves
    → class_of classes (get_or moves place (0, 0)).1 ≡ 0 → class_row classes (take (place + 1) moves) ≡ class_row classes (take place moves)
class_row-more_dead classes moves place within is =
    more classes moves place within ∙ ap (λ row. class_row classes (take place moves) ++ row) (class_row-dead classes (get_or moves place (0, 0)) [] is)
    ∙ append-nil (class_row classes (take place moves))

pub class_row-more_live : (classes : List ℕ) (moves : Moves) (place : ℕ) → place < length moves
    → class_of classes (get_or moves place (0, 0)).1 ≢ 0
    → class_row classes (take (place + 1) moves)
    ≡ class_row classes (take place moves) ++ ((get_or moves place (0, 0)).0, class_of classes (get_or moves place (0, 0)).1) ∷ []
class_row-more_live classes moves place within some =
    more classes moves place within ∙ ap (λ row. class_row classes (take place moves) ++ row) (class_row-live classes (get_or moves place (0, 0)) [] some)

-- ---- the row that a round sees is a row, and says the classes of all targets

All-class_row : (P : ℕ → Type 0) (classes : List ℕ) (moves : Moves) → All (λ move. P move.0) moves → All (λ move. P move.0) (class_row classes moves)
All-class_row P classes [] all = λ k d h. absurd (omega arith)
All-class_row P classes (move ∷ rest) all =
    let Q = λ (m : ℕ × ℕ). P m.0 in
    let later = All-class_row P classes rest (All-tail Q move rest all) in
    elim (cases_eq (class_of classes move.1) 0) [
      | inl is ↦ subst (All Q) (sym (class_row-dead classes move rest is)) later
      | inr some ↦
          subst (All Q) (sym (class_row-live classes move rest some))
          (All-cons Q (move.0, class_of classes move.1) (class_row classes rest) (All-head Q move rest all) later)
    ]

Ascends-cons : (entry : ℕ × ℕ) (rest : Moves) → All (λ later. entry.0 < later.0) rest → Ascends rest → Ascends (entry ∷ rest)
Ascends-cons entry rest above ascends zero zero d low high = absurd (omega arith)
Ascends-cons entry rest above ascends zero (suc j) d low high = above j d (omega arith)
Ascends-cons entry rest above ascends (suc i) zero d low high = absurd (omega arith)
Ascends-cons entry rest above ascends (suc i) (suc j) d low high = ascends i j d (omega arith) (omega arith)

Ascends-class_row : (classes : List ℕ) (moves : Moves) → Ascends moves → Ascends (class_row classes moves)
Ascends-class_row classes [] ascends = λ i j d low high. absurd (omega arith)
Ascends-class_row classes (move ∷ rest) ascends =
    let later = Ascends-class_row classes rest (Ascends-tail move rest ascends) in
    elim (cases_eq (class_of classes move.1) 0) [
      | inl is ↦ subst Ascends (sym (class_row-dead classes move rest is)) later
      | inr some ↦
          subst Ascends (sym (class_row-live classes move rest some))
          (Ascends-cons (move.0, class_of classes move.1) (class_row classes rest)
          (All-class_row (λ symbol. move.0 < symbol) classes rest (Ascends-head move rest ascends)) later)
    ]

numbers-class_row : (classes : List ℕ) (moves : Moves) → All (λ move. (0 < move.0) × (0 < move.1)) moves
    → All (λ move. (0 < move.0) × (0 < move.1)) (class_row classes moves)
numbers-class_row classes [] all = λ k d h. absurd (omega arith)
numbers-class_row classes (move ∷ rest) all =
    let Q = λ (m : ℕ × ℕ). (0 < m.0) × (0 < m.1) in
    let later = numbers-class_row classes rest (All-tail Q move rest all) in
    elim (cases_eq (class_of classes move.1) 0) [
      | inl is ↦ subst (All Q) (sym (class_row-dead classes move rest is)) later
      | inr some ↦
          subst (All Q) (sym (class_row-live classes move rest some))
          (All-cons Q (move.0, class_of classes move.1) (class_row classes rest) ((All-head Q move rest all).0, omega arith) later)
    ]

pub IsRow-class_row : (classes : List ℕ) (moves : Moves) → IsRow moves → IsRow (class_row classes moves)
IsRow-class_row classes moves row = record {
  ascends = Ascends-class_row classes moves row.ascends;
  numbers = numbers-class_row classes moves row.numbers;
}

target_here : (move : ℕ × ℕ) (rest : Moves) (symbol : ℕ) → move.0 ≡ symbol → target (move ∷ rest) symbol ≡ move.1
target_here move rest symbol same = target_some (move ∷ rest) symbol move.1 (lookup_here move rest symbol same)

target_there : (move : ℕ × ℕ) (rest : Moves) (symbol : ℕ) → move.0 ≢ symbol → target (move ∷ rest) symbol ≡ target rest symbol
target_there move rest symbol apart = ap (λ o. unwrap_or o 0) (lookup_there move rest symbol apart)

pub target-class_row : (classes : List ℕ) (moves : Moves) (symbol : ℕ) → class_of classes 0 ≡ 0 → Ascends moves
    → target (class_row classes moves) symbol ≡ class_of classes (target moves symbol)
target-class_row classes [] symbol none ascends = sym none
target-class_row classes (move ∷ rest) symbol none ascends =
    let later = target-class_row classes rest symbol none (Ascends-tail move rest ascends) in
    elim (cases_eq (class_of classes move.1) 0) [
      | inl is ↦
          ap (λ row. target row symbol) (class_row-dead classes move rest is) ∙ later
          ∙ elim (cases_eq move.0 symbol) [
            | inl same ↦
                let above : All (λ later. symbol < later.0) rest = λ k d h. omega (arith, Ascends-head move rest ascends k d h) in
                ap (class_of classes) (target_none rest symbol (lookup_below rest symbol above)) ∙ none ∙ sym is
                ∙ ap (class_of classes) (sym (target_here move rest symbol same))
            | inr apart ↦ ap (class_of classes) (sym (target_there move rest symbol apart))
          ]
      | inr some ↦
          ap (λ row. target row symbol) (class_row-live classes move rest some)
          ∙ elim (cases_eq move.0 symbol) [
            | inl same ↦
                target_here (move.0, class_of classes move.1) (class_row classes rest) symbol same
                ∙ ap (class_of classes) (sym (target_here move rest symbol same))
            | inr apart ↦
                target_there (move.0, class_of classes move.1) (class_row classes rest) symbol apart ∙ later
                ∙ ap (class_of classes) (sym (target_there move rest symbol apart))
          ]
    ]
