-- What lists have that are made from others.
use Rattle.std.proofs.Common.{◌≡◌, ◌≢◌, ℕ, ◌<◌, List, [], ◌∷◌, map, refl, sym, ap, ◌∙◌, subst, inl, inr, nat_lt}
use Rattle.std.specs.List.{Contains, flat_map}
use Rattle.std.proofs.lemmas.Bool.{lt-ltb, true≢false}
use Rattle.std.proofs.lemmas.List.Concat.{flat_map-cons}
use Rattle.std.proofs.lemmas.List.Elements.{All-contains, Contains-append_cases, Contains-append_left, Contains-append_right}
use Rattle.kb_fsa.specs.Table.{Table, IsTable, moves_of, step, target}
use Rattle.kb_fsa.proofs.Lookups.{IsRow-moves_of, entry_from_lookup, lookup_from_entry, lookup_from_target, target_some}
use Rattle.kb_fsadet.proofs.Sets.{Contains-cons_cases, Contains-here, Contains-none, Contains-there}

pub contains_map : {X Y : Type 0} (f : X → Y) (xs : List X) (y : Y) → Contains (map f xs) y
    → (x : X) × (Contains xs x × (f x ≡ y))
contains_map f [] y at = absurd (Contains-none y at)
contains_map f (x ∷ xs) y at = elim (Contains-cons_cases (f x) (map f xs) y at) [
  | inl is ↦ (x, (Contains-here x xs, is))
  | inr there ↦
      let later = contains_map f xs y there in (later.0, (Contains-there x xs later.0 later.1.0, later.1.1))
]

pub map_contains : {X Y : Type 0} (f : X → Y) (xs : List X) (x : X) → Contains xs x → Contains (map f xs) (f x)
map_contains f [] x at = absurd (Contains-none x at)
map_contains {X} {Y} f (z ∷ xs) x at = elim (Contains-cons_cases z xs x at) [
  | inl is ↦
      let P : X → Type 0 = λ w. Contains (map f (z ∷ xs)) (f w) in subst P is (Contains-here (f z) (map f xs))
  | inr there ↦ Contains-there (f z) (map f xs) (f x) (map_contains f xs x there)
]

pub contains_flat_map : {X Y : Type 0} (f : X → List Y) (xs : List X) (y : Y) → Contains (flat_map f xs) y
    → (x : X) × (Contains xs x × Contains (f x) y)
contains_flat_map f [] y at = absurd (Contains-none y at)
contains_flat_map {X} {Y} f (x ∷ xs) y at =
    let P : List Y → Type 0 = λ ys. Contains ys y in
    elim (Contains-append_cases (f x) (flat_map f xs) y (subst P (flat_map-cons f x xs) at)) [
      | inl here ↦ (x, (Contains-here x xs, here))
      | inr there ↦
          let later = contains_flat_map f xs y there in (later.0, (Contains-there x xs later.0 later.1.0, later.1.1))
    ]

pub flat_map_contains : {X Y : Type 0} (f : X → List Y) (xs : List X) (x : X) (y : Y) → Contains xs x → Contains (f x) y
    → Contains (flat_map f xs) y
flat_map_contains f [] x y at inside = absurd (Contains-none x at)
flat_map_contains {X} {Y} f (z ∷ xs) x y at inside =
    let P : List Y → Type 0 = λ ys. Contains ys y in
    subst P (sym (flat_map-cons f z xs)) (elim (Contains-cons_cases z xs x at) [
      | inl is ↦
          let Q : X → Type 0 = λ w. Contains (f w) y in
          Contains-append_left (f z) (flat_map f xs) y (subst Q (sym is) inside)
      | inr there ↦ Contains-append_right (f z) (flat_map f xs) y (flat_map_contains f xs x y there inside)
    ])

-- a move of a table's state leads where the state's step does
pub step_of_move : (table : Table) → IsTable table → (state symbol to : ℕ)
    → Contains (moves_of table state) (symbol, to)
    → (step table state symbol ≡ to) × ((0 < symbol) × (to ≢ 0))
step_of_move table is state symbol to at =
    let row = moves_of table state in
    let is_row = IsRow-moves_of table state is in
    let numbers = All-contains (λ (move : ℕ × ℕ). (0 < move.0) × (0 < move.1)) row (symbol, to) is_row.numbers at in (
      target_some row symbol to (lookup_from_entry row symbol to is_row.ascends at),
      (numbers.0, λ none. true≢false (sym (lt-ltb 0 to numbers.1) ∙ ap (nat_lt 0) none)),
    )

pub move_of_step : (table : Table) (state symbol : ℕ) → 0 < step table state symbol
    → Contains (moves_of table state) (symbol, step table state symbol)
move_of_step table state symbol positive =
    let row = moves_of table state in
    entry_from_lookup row symbol (target row symbol) (lookup_from_target row symbol (target row symbol) positive refl)
