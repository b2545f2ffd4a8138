-- A state without a move.
use Rattle.std.proofs.Common.{ℕ, ◌<◌, [], arith}
use Rattle.std.proofs.lemmas.List.Elements.{All-nil}
use Rattle.kb_fsa.specs.Table.{IsRow}

pub no_moves : IsRow []
no_moves = record {
  ascends = λ i j d less within. absurd (let no : ⊥ = omega arith in no);
  numbers = All-nil (λ (move : ℕ × ℕ). (0 < move.0) × (0 < move.1));
}
