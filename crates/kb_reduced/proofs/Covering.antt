-- Confluent rules stay so with more rules of the same congruence.
use Rattle.std.proofs.Common.{ℕ, List}
use Rattle.kb_word.specs.Words.{Pair, OneOf}
use Rattle.kb_word.specs.Order.{IsReductionOrder}
use Rattle.kb_word.specs.Congruence.{Congruent, SameCongruence}
use Rattle.kb_word.specs.Rewriting.{AreDecreasing, IsIrreducible}
use Rattle.kb_word.specs.Overlap.{IsConfluent}
use Rattle.kb_word.proofs.PathLemmas.{congruent_sides, congruent_covered}
use Rattle.kb_reduced.specs.Reduced.{IsLeastWord}
use Rattle.kb_reduced.proofs.Joining.{confluent_from_one}
use Rattle.kb_reduced.proofs.Least.{least_equal, irreducible_least}

module _ {below : List ℕ → List ℕ → Type 0} (order : IsReductionOrder below) (live lines : List Pair)
    (falling : AreDecreasing below live) (confluent : IsConfluent live) (more_falling : AreDecreasing below lines)
    (kept : (line : Pair) → OneOf lines line → Congruent (OneOf live) line.0 line.1)
    (covers : (rule : Pair) → OneOf live rule → OneOf lines rule) where
  covering_least : (w : List ℕ) → IsIrreducible (OneOf lines) w → IsLeastWord below live w
  covering_least w irreducible =
      irreducible_least order live falling confluent w (λ before pair after one. irreducible before pair after (covers pair one))

  pub covering_confluent : IsConfluent lines
  covering_confluent = confluent_from_one order lines more_falling
      (λ u v congruent first second. least_equal order u v (congruent_covered kept congruent) (covering_least u first) (covering_least v second))

pub covering_same : (live lines : List Pair) → ((line : Pair) → OneOf lines line → Congruent (OneOf live) line.0 line.1)
    → ((rule : Pair) → OneOf live rule → OneOf lines rule) → SameCongruence live lines
covering_same live lines kept covers =
    record { covered = λ rule one. congruent_sides rule (covers rule one); covers = kept }
