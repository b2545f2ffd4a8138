-- A row that is split at a symbol.
use Rattle.std.proofs.Common.{◌≡◌, ◌≢◌, ℕ, ◌<◌, ◌≤◌, ◌∷◌, length, refl, sym, ap, ◌∙◌, subst, arith}
use Rattle.std.specs.List.{All}
use Rattle.std.specs.Option.{unwrap_or}
use Rattle.std.proofs.lemmas.List.Elements.{All-cons, All-head, All-tail}
use Rattle.kb_fsa.specs.Table.{Moves, Ascends, IsRow, IsSplit, target}
use Rattle.kb_fsa.specs.Table.IsSplit.{without, with_move}
use Rattle.kb_fsa.proofs.Lookups.{lookup_here, lookup_there, lookup_below, target_none, target_some, Ascends-tail, Ascends-head}

pub split_here : (row : Moves) (symbol : ℕ) (least : ℕ × ℕ) (rest : Moves) → row ≡ least ∷ rest → least.0 ≡ symbol
    → IsSplit row symbol least.1 rest
split_here row symbol least rest is same = with_move (is ∙ ap (λ x. (x, least.1) ∷ rest) same)

pub split_later : (row : Moves) (symbol : ℕ) (least : ℕ × ℕ) (rest : Moves) → IsRow row → All (λ m. symbol ≤ m.0) row
    → row ≡ least ∷ rest → least.0 ≢ symbol → IsSplit row symbol 0 row
split_later row symbol least rest row_is low is differ =
    let ascends = subst Ascends is row_is.ascends in
    let P = λ (m : ℕ × ℕ). symbol ≤ m.0 in
    let Q = λ (m : ℕ × ℕ). symbol < m.0 in
    let head = All-head P least rest (subst (All P) is low) in
    let above = Ascends-head least rest ascends in
    without (subst (All Q) (sym is) (All-cons Q least rest (omega arith) (λ k d h. omega (arith, above k d h))))

pub split_nil : (row : Moves) (symbol : ℕ) → length row ≡ 0 → IsSplit row symbol 0 row
split_nil row symbol none = without (λ k d h. absurd (omega arith))

-- what the rest has: no lower symbols, and the same targets
pub record IsRest (row : Moves) (symbol state : ℕ) (rest : Moves) : Type 0 where
  pub is_row : IsRow rest
  pub above : All (λ m. symbol < m.0) rest
  pub here : target row symbol ≡ state
  pub others : (other : ℕ) → symbol ≢ other → target row other ≡ target rest other

pub rest_of_split : {row : Moves} {symbol state : ℕ} {rest : Moves} → IsRow row → IsSplit row symbol state rest → IsRest row symbol state rest
rest_of_split {row} {symbol} is (without above) = record {
  is_row = is;
  above = above;
  here = target_none row symbol (lookup_below row symbol above);
  others = λ other differ. refl;
}
rest_of_split {row} {symbol} {state} {rest} is (with_move e) =
    let is' = subst IsRow e is in
    record {
      is_row = record {
        ascends = Ascends-tail (symbol, state) rest is'.ascends;
        numbers = All-tail (λ (m : ℕ × ℕ). (0 < m.0) × (0 < m.1)) (symbol, state) rest is'.numbers;
      };
      above = Ascends-head (symbol, state) rest is'.ascends;
      here = ap (λ moves. target moves symbol) e ∙ target_some ((symbol, state) ∷ rest) symbol state (lookup_here (symbol, state) rest symbol refl);
      others = λ other differ.
          ap (λ moves. target moves other) e ∙ ap (λ o. unwrap_or o 0) (lookup_there (symbol, state) rest other differ);
    }
