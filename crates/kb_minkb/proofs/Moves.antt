-- The moves of a machine's state, symbol by symbol.
use Rattle.std.proofs.Common.{◌≡◌, ℕ, ◌+◌, ◌<◌, ◌≤◌, List, [], ◌∷◌, ◌++◌, All, Some, None, sym, ◌∙◌, subst, inl, inr, arith}
use Rattle.std.proofs.lemmas.Bool.{cases_lt, cases_eq}
use Rattle.std.proofs.lemmas.List.Elements.{All-nil, All-push}
use Rattle.kb_fsa.specs.Table.{lookup}
use Rattle.kb_fsa.proofs.Lookups.{Ascends-push, lookup_above, lookup-push_same, lookup-push_other}
use Rattle.kb_explore.specs.Machine.{Machine, AreMovesOf}
use Rattle.kb_minkb.specs.Progress.{AreMovesBefore}

pub no_moves_yet : {S : Type 0} (machine : Machine S) (state : S) → machine.follow state 0 ≡ None → AreMovesBefore machine state 1 []
no_moves_yet {S} machine state none = record {
  ascends = λ i j d low high. absurd (omega arith);
  symbols = All-nil (λ (move : ℕ × S). (0 < move.0) × (move.0 < 1));
  follow = λ other less.
      let same : 0 ≡ other = omega arith in
      let P : ℕ → Type 0 = λ x. None ≡ machine.follow state x in
      subst P same (sym none);
}

module _ {S : Type 0} {machine : Machine S} {state : S} where
  module _ {symbol : ℕ} {moves : List (ℕ × S)} (before : AreMovesBefore machine state symbol moves) where
    none_at : (other : ℕ) → symbol ≤ other → lookup moves other ≡ None
    none_at other from = lookup_above moves other (λ k d h. let at = before.symbols k d h in omega (arith, at.1))

    symbols_longer : All (λ (move : ℕ × S). (0 < move.0) × (move.0 < symbol + 1)) moves
    symbols_longer k d h = let at = before.symbols k d h in (at.0, omega (arith, at.1))

    pub moves_with : (next : S) → 0 < symbol → Some next ≡ machine.follow state symbol
        → AreMovesBefore machine state (symbol + 1) (moves ++ (symbol, next) ∷ [])
    moves_with next positive follows = record {
      ascends = Ascends-push moves symbol next before.ascends (λ k d h. (before.symbols k d h).1);
      symbols = All-push (λ (move : ℕ × S). (0 < move.0) × (move.0 < symbol + 1)) moves (symbol, next) symbols_longer (positive, omega arith);
      follow = λ other less. elim (cases_eq other symbol) [
        | inl same ↦
            let P : ℕ → Type 0 = λ x. lookup (moves ++ (symbol, next) ∷ []) x ≡ machine.follow state x in
            subst P (sym same) (lookup-push_same moves symbol next (none_at symbol (omega arith)) ∙ follows)
        | inr apart ↦ lookup-push_other moves symbol next other apart ∙ before.follow other (omega (arith, apart))
      ];
    }

    pub moves_without : None ≡ machine.follow state symbol → AreMovesBefore machine state (symbol + 1) moves
    moves_without none = record {
      ascends = before.ascends;
      symbols = symbols_longer;
      follow = λ other less. elim (cases_eq other symbol) [
        | inl same ↦
            let P : ℕ → Type 0 = λ x. lookup moves x ≡ machine.follow state x in
            subst P (sym same) (none_at symbol (omega arith) ∙ none)
        | inr apart ↦ before.follow other (omega (arith, apart))
      ];
    }

    -- past the last symbol they are all moves
    pub all_moves : (k : ℕ) → symbol ≡ k + 1 → ((other : ℕ) → k < other → machine.follow state other ≡ None)
        → AreMovesOf machine k state moves
    all_moves k past none = record {
      ascends = before.ascends;
      symbols = λ i d h. let at = before.symbols i d h in (at.0, omega (arith, at.1));
      follow = λ other. elim (cases_lt other symbol) [
        | inl earlier ↦ before.follow other earlier
        | inr late ↦ none_at other late ∙ sym (none other (omega arith))
      ];
    }
