-- Moves by first letters, and those after the first word.
use Rattle.std.proofs.Common.{◌≡◌, ◌≢◌, ◌⊎◌, ℕ, zero, suc, ◌+◌, ◌<◌, true, false, List, [], ◌∷◌, ◌++◌, length, get_or, take, Option, Some, None, refl, sym, ap, ◌∙◌, subst, inl, inr, arith, append-nil}
use Rattle.std.specs.List.{Contains, cons_option, filter_map}
use Rattle.std.proofs.lemmas.Bool.{cases_eq, eq-eqb, ne_eqb}
use Rattle.std.proofs.lemmas.List.{take_more}
use Rattle.std.proofs.lemmas.List.Elements.{Contains-append_cases, Contains-append_left, Contains-append_right, filter_map-append}
use Rattle.std.proofs.lemmas.Option.{none-some, same_Some}
use Rattle.kb_fsa.specs.Table.{Moves}
use Rattle.kb_fsa.specs.PairSymbols.{first_letter, pads_first}
use Rattle.kb_fsadet.proofs.Sets.{Contains-none, Contains-here, Contains-there, Contains-cons_cases}
use Rattle.kb_fsadet.specs.FirstWords.{by_first, tail_edge, tail_edges}

-- ---- one more of what a map keeps

pub filter_map_more_some : {X Y : Type 0} (h : X → Option Y) (xs : List X) (i : ℕ) (d : X) (y : Y) → i < length xs → h (get_or xs i d) ≡ Some y
    → filter_map h (take (i + 1) xs) ≡ filter_map h (take i xs) ++ y ∷ []
filter_map_more_some {X} {Y} h xs i d y within kept =
    ap (filter_map h) (take_more xs i d within) ∙ filter_map-append h (take i xs) (get_or xs i d ∷ [])
    ∙ ap (λ o. filter_map h (take i xs) ++ one o) kept
  where
    one : Option Y → List Y
    one o = filter_map (λ (z : Option Y). z) (o ∷ [])

pub filter_map_more_none : {X Y : Type 0} (h : X → Option Y) (xs : List X) (i : ℕ) (d : X) → i < length xs → h (get_or xs i d) ≡ None
    → filter_map h (take (i + 1) xs) ≡ filter_map h (take i xs)
filter_map_more_none {X} {Y} h xs i d within dropped =
    ap (filter_map h) (take_more xs i d within) ∙ filter_map-append h (take i xs) (get_or xs i d ∷ [])
    ∙ ap (λ o. filter_map h (take i xs) ++ one o) dropped ∙ append-nil (filter_map h (take i xs))
  where
    one : Option Y → List Y
    one o = filter_map (λ (z : Option Y). z) (o ∷ [])

-- ---- what is kept of a move

by_first_letter : (n : ℕ) (move : ℕ × ℕ) → first_letter n move.0 ≢ n + 1 → by_first n move ≡ Some (first_letter n move.0, move.1)
by_first_letter n move letter = rw (ne_eqb (first_letter n move.0) (n + 1) letter) refl

by_first_padding : (n : ℕ) (move : ℕ × ℕ) → first_letter n move.0 ≡ n + 1 → by_first n move ≡ None
by_first_padding n move same = rw (eq-eqb (first_letter n move.0) (n + 1) same) refl

tail_edge_letter : (n state : ℕ) (move : ℕ × ℕ) → first_letter n move.0 ≢ n + 1 → tail_edge n state move ≡ None
tail_edge_letter n state move letter = rw (ne_eqb (first_letter n move.0) (n + 1) letter) refl

tail_edge_padding : (n state : ℕ) (move : ℕ × ℕ) → first_letter n move.0 ≡ n + 1 → tail_edge n state move ≡ Some (move.1, state)
tail_edge_padding n state move same = rw (eq-eqb (first_letter n move.0) (n + 1) same) refl

-- the same by the test
pub by_first-pads : (n : ℕ) (move : ℕ × ℕ) → pads_first n move.0 ≡ true → by_first n move ≡ None
by_first-pads n move pads = rw pads refl

pub by_first-no_pads : (n : ℕ) (move : ℕ × ℕ) → pads_first n move.0 ≡ false → by_first n move ≡ Some (first_letter n move.0, move.1)
by_first-no_pads n move letter = rw letter refl

pub tail_edge-pads : (n state : ℕ) (move : ℕ × ℕ) → pads_first n move.0 ≡ true → tail_edge n state move ≡ Some (move.1, state)
tail_edge-pads n state move pads = rw pads refl

pub tail_edge-no_pads : (n state : ℕ) (move : ℕ × ℕ) → pads_first n move.0 ≡ false → tail_edge n state move ≡ None
tail_edge-no_pads n state move letter = rw letter refl

-- ---- what a map keeps

filter_map-some : {X Y : Type 0} (h : X → Option Y) (x : X) (xs : List X) (y : Y) → h x ≡ Some y → filter_map h (x ∷ xs) ≡ y ∷ filter_map h xs
filter_map-some h x xs y kept = ap (λ o. cons_option o (filter_map h xs)) kept

filter_map-none : {X Y : Type 0} (h : X → Option Y) (x : X) (xs : List X) → h x ≡ None → filter_map h (x ∷ xs) ≡ filter_map h xs
filter_map-none h x xs dropped = ap (λ o. cons_option o (filter_map h xs)) dropped

option_cases : {Y : Type 0} (o : Option Y) → (o ≡ None) ⊎ ((y : Y) × (o ≡ Some y))
option_cases None = inl refl
option_cases (Some y) = inr (y, refl)

pub Contains-filter_map : {X Y : Type 0} (h : X → Option Y) (xs : List X) (y : Y) → Contains (filter_map h xs) y
    → (x : X) × (Contains xs x × (h x ≡ Some y))
Contains-filter_map h [] y at = absurd (Contains-none y at)
Contains-filter_map {X} {Y} h (x ∷ xs) y at =
    let P : List Y → Type 0 = λ ys. Contains ys y in
    elim (option_cases (h x)) [
      | inl dropped ↦
          let later = Contains-filter_map h xs y (subst P (filter_map-none h x xs dropped) at) in
          (later.0, (Contains-there x xs later.0 later.1.0, later.1.1))
      | inr kept ↦ elim (Contains-cons_cases kept.0 (filter_map h xs) y (subst P (filter_map-some h x xs kept.0 kept.1) at)) [
        | inl is ↦ (x, (Contains-here x xs, kept.1 ∙ ap (λ z. Some z) is))
        | inr there ↦
            let later = Contains-filter_map h xs y there in (later.0, (Contains-there x xs later.0 later.1.0, later.1.1))
      ]
    ]

pub filter_map_contains : {X Y : Type 0} (h : X → Option Y) (xs : List X) (x : X) (y : Y) → Contains xs x → h x ≡ Some y
    → Contains (filter_map h xs) y
filter_map_contains h [] x y at kept = absurd (Contains-none x at)
filter_map_contains {X} {Y} h (z ∷ xs) x y at kept =
    let P : List Y → Type 0 = λ ys. Contains ys y in
    elim (Contains-cons_cases z xs x at) [
      | inl is ↦ subst P (sym (filter_map-some h z xs y (ap h is ∙ kept))) (Contains-here y (filter_map h xs))
      | inr there ↦
          let later = filter_map_contains h xs x y there kept in
          elim (option_cases (h z)) [
            | inl dropped ↦ subst P (sym (filter_map-none h z xs dropped)) later
            | inr more ↦ subst P (sym (filter_map-some h z xs more.0 more.1)) (Contains-there more.0 (filter_map h xs) y later)
          ]
    ]

-- ---- moves by first letters

-- moves by a first letter are those by a symbol that it begins
pub record IsByFirst (n : ℕ) (moves : Moves) (first target : ℕ) : Type 0 where
  pub symbol : ℕ
  pub move : Contains moves (symbol, target)
  pub first_is : first_letter n symbol ≡ first
  pub letter : first ≢ n + 1

pub from_by_first : (n : ℕ) (moves : Moves) (first target : ℕ) → Contains (filter_map (by_first n) moves) (first, target)
    → IsByFirst n moves first target
from_by_first n moves first target at =
    let kept = Contains-filter_map (by_first n) moves (first, target) at in
    let move = kept.0 in
    elim (cases_eq (first_letter n move.0) (n + 1)) [
      | inl padding ↦ absurd (none-some (first, target) (sym (by_first_padding n move padding) ∙ kept.1.1))
      | inr letter ↦
          let is : (first_letter n move.0, move.1) ≡ (first, target) =
          same_Some _ _ (sym (by_first_letter n move letter) ∙ kept.1.1) in
          let one = ap (λ (m : ℕ × ℕ). m.0) is in
          let two = ap (λ (m : ℕ × ℕ). m.1) is in
          let P : ℕ → Type 0 = λ t. Contains moves (move.0, t) in record {
            symbol = move.0;
            move = subst P two kept.1.0;
            first_is = one;
            letter = λ same. letter (one ∙ same);
          }
    ]

pub by_first_from : (n : ℕ) (moves : Moves) (symbol first target : ℕ) → Contains moves (symbol, target) → first_letter n symbol ≡ first
    → first ≢ n + 1 → Contains (filter_map (by_first n) moves) (first, target)
by_first_from n moves symbol first target at is letter =
    filter_map_contains (by_first n) moves (symbol, target) (first, target) at
    (by_first_letter n (symbol, target) (λ same. letter (sym is ∙ same)) ∙ ap (λ i. Some (i, target)) is)

-- ---- moves after the first word

-- the edge is that of a move by a symbol that begins with padding
pub record IsTail (n state : ℕ) (rows : List Moves) (target from : ℕ) : Type 0 where
  pub place : ℕ
  pub is_state : from ≡ state + place
  pub symbol : ℕ
  pub move : Contains (get_or rows place []) (symbol, target)
  pub first_is : first_letter n symbol ≡ n + 1

no_places : (state : ℕ) → state ≡ state + 0
no_places state = omega arith

pub IsTail-from_edge : (n state : ℕ) (rows : List Moves) (target from : ℕ) → Contains (tail_edges n state rows) (target, from)
    → IsTail n state rows target from
IsTail-from_edge n state [] target from at = absurd (Contains-none (target, from) at)
IsTail-from_edge n state (row ∷ rows) target from at =
    elim (Contains-append_cases (filter_map (tail_edge n state) row) (tail_edges n (suc state) rows) (target, from) at) [
      | inl here ↦
          let kept = Contains-filter_map (tail_edge n state) row (target, from) here in
          let move = kept.0 in
          elim (cases_eq (first_letter n move.0) (n + 1)) [
            | inl same ↦
                let is : (move.1, state) ≡ (target, from) = same_Some _ _ (sym (tail_edge_padding n state move same) ∙ kept.1.1) in
                let one : move.1 ≡ target = ap (λ (m : ℕ × ℕ). m.0) is in
                let two : state ≡ from = ap (λ (m : ℕ × ℕ). m.1) is in
                let P : ℕ → Type 0 = λ t. Contains row (move.0, t) in record {
                  place = 0;
                  is_state = sym two ∙ no_places state;
                  symbol = move.0;
                  move = subst P one kept.1.0;
                  first_is = same;
                }
            | inr letter ↦ absurd (none-some (target, from) (sym (tail_edge_letter n state move letter) ∙ kept.1.1))
          ]
      | inr there ↦
          let later = IsTail-from_edge n (suc state) rows target from there in
          let place = later.is_state in record {
            place = suc later.place;
            is_state = omega arith;
            symbol = later.symbol;
            move = later.move;
            first_is = later.first_is;
          }
    ]

pub edge_from_tail : (n state : ℕ) (rows : List Moves) (place symbol target : ℕ) → Contains (get_or rows place []) (symbol, target)
    → first_letter n symbol ≡ n + 1 → Contains (tail_edges n state rows) (target, state + place)
edge_from_tail n state [] place symbol target at same = absurd (Contains-none (symbol, target) at)
edge_from_tail n state (row ∷ rows) zero symbol target at same =
    let P : ℕ → Type 0 = λ s. Contains (tail_edges n state (row ∷ rows)) (target, s) in
    subst P (let back : state ≡ state + 0 = omega arith in back)
    (Contains-append_left (filter_map (tail_edge n state) row) (tail_edges n (suc state) rows) (target, state)
    (filter_map_contains (tail_edge n state) row (symbol, target) (target, state) at (tail_edge_padding n state (symbol, target) same)))
edge_from_tail n state (row ∷ rows) (suc place) symbol target at same =
    let P : ℕ → Type 0 = λ s. Contains (tail_edges n state (row ∷ rows)) (target, s) in
    subst P (let back : suc state + place ≡ state + suc place = omega arith in back)
    (Contains-append_right (filter_map (tail_edge n state) row) (tail_edges n (suc state) rows) (target, suc state + place)
    (edge_from_tail n (suc state) rows place symbol target at same))
