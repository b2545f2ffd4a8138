-- The moves of a cascade product.
use Rattle.std.proofs.Common.{◌≡◌, ℕ, zero, suc, ◌<◌, ◌≤◌, [], ◌∷◌, map, Option, Some, refl, sym, ap, ◌∙◌, inl, inr, arith}
use Rattle.std.specs.List.{All}
use Rattle.std.specs.Prelude.{unwrap_or}
use Rattle.std.proofs.lemmas.Bool.{cases_eq}
use Rattle.std.proofs.lemmas.List.Elements.{All-head, All-tail, All-map, All-nil}
use Rattle.std.proofs.lemmas.List.Kept.{AllPairs-cons}
use Rattle.kb_fsa.specs.Table.{Table, Moves, IsTable, HasSymbols, Ascends, lookup, moves_of, target}
use Rattle.kb_fsa.proofs.Lookups.{lookup_here, lookup_there, Ascends-head, Ascends-tail, IsRow-moves_of, All-moves_of}
use Rattle.kb_explore.specs.Machine.{AreMovesOf}
use Rattle.kb_certificates.specs.declared.cascade.led.Led.{Led}
use Rattle.kb_certificates.specs.Cascade.{Follower, cascade, led, led_move}

pub led_some : {X : Type 0} (state : ℕ) (x : X) → 0 < state → led state x ≡ Some (record { leader = state; follower = x })
led_some zero x positive = absurd (let no : ⊥ = omega arith in no)
led_some (suc place) x positive = refl

module _ {X : Type 0} (follower : Follower X) (both : Led X) where
  looked_up : (row : Moves) → All (λ (move : ℕ × ℕ). (0 < move.0) × (0 < move.1)) row → (symbol : ℕ)
      → lookup (map (led_move follower both) row) symbol ≡ led (target row symbol) (follower.next both.leader both.follower symbol)
  looked_up [] numbers symbol = refl
  looked_up (move ∷ row) numbers symbol =
      let positive = All-head (λ (move : ℕ × ℕ). (0 < move.0) × (0 < move.1)) move row numbers in
      let next : ℕ → X = λ s. follower.next both.leader both.follower s in
      elim (cases_eq move.0 symbol) [
        | inl same ↦
            lookup_here (led_move follower both move) (map (led_move follower both) row) symbol same
            ∙ ap (λ s. Some (record { leader = move.1; follower = next s })) same
            ∙ sym (led_some move.1 (next symbol) positive.1)
            ∙ ap (λ (o : Option ℕ). led (unwrap_or o 0) (next symbol)) (sym (lookup_here move row symbol same))
        | inr other ↦
            lookup_there (led_move follower both move) (map (led_move follower both) row) symbol other
            ∙ looked_up row (All-tail (λ (move : ℕ × ℕ). (0 < move.0) × (0 < move.1)) move row numbers) symbol
            ∙ ap (λ (o : Option ℕ). led (unwrap_or o 0) (next symbol)) (sym (lookup_there move row symbol other))
      ]

  ascending : (row : Moves) → Ascends row → Ascends (map (led_move follower both) row)
  ascending [] ascends = λ i j d low high. absurd (let no : ⊥ = omega arith in no)
  ascending (move ∷ row) ascends =
      AllPairs-cons (λ (earlier : ℕ × Led X) (later : ℕ × Led X). earlier.0 < later.0) (led_move follower both move)
      (map (led_move follower both) row)
      (All-map (λ (later : ℕ × Led X). move.0 < later.0) (led_move follower both) row (Ascends-head move row ascends))
      (ascending row (Ascends-tail move row ascends))

  pub led_moves : (table : Table) (k : ℕ) → IsTable table → HasSymbols k table
      → AreMovesOf (cascade table follower) k both (map (led_move follower both) (moves_of table both.leader))
  led_moves table k is symbols =
      let row = moves_of table both.leader in
      let is_row = IsRow-moves_of table both.leader is in
      let low : All (λ move. move.0 ≤ k) row =
      All-moves_of (λ moves. All (λ move. move.0 ≤ k) moves) table both.leader (All-nil (λ (move : ℕ × ℕ). move.0 ≤ k)) symbols in record {
        ascends = ascending row is_row.ascends;
        symbols = All-map (λ (move : ℕ × Led X). (0 < move.0) × (move.0 ≤ k)) (led_move follower both) row
            (λ i d within. ((is_row.numbers i d within).0, low i d within));
        follow = looked_up row is_row.numbers;
      }
