use Rattle.std.proofs.Common.{◌≢◌, ℕ, Bor, All}
use Rattle.kb_machine.specs.Lines.{rules_of}
use Rattle.kb_book.specs.Factors.{IsLeftFactor}
use Rattle.kb_book.proofs.killing.has_other_factor.Given as goal

abbrev pub invariant-loop-other : goal.invariant-loop-other
invariant-loop-other l =
    All (λ (other : Bor ℕ). ¬ ((other.now ≢ l.k) × IsLeftFactor (rules_of l.lines) other.now l.word)) l.yielded
