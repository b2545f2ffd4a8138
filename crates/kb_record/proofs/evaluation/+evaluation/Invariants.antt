use Rattle.std.proofs.Common.{◌≡◌, ℕ, ◌+◌, ◌*◌, ◌<◌, ◌≤◌, suc, List, [], IsTrue, length}
use Rattle.kb_record.specs.Tree.{Factor, Factors}
use Rattle.kb_record.specs.Reading.{remaining, passes, joined, after_items, read_factor}
use Rattle.kb_record.specs.Meaning.{product_meaning}
use Rattle.kb_record.specs.Evaluation.{GoesOn}
use Rattle.kb_record.specs.declared.cursor.Mark.TheVariants.{Star}
use Rattle.kb_record.proofs.Outcomes.{before}
use Rattle.kb_record.proofs.evaluation.+evaluation.Given as goal

abbrev pub decreases-factor : goal.decreases-factor
decreases-factor l = 3 * l.depth + 1

abbrev pub decreases-group : goal.decreases-group
decreases-group l = 3 * l.depth

abbrev pub decreases-product : goal.decreases-product
decreases-product l = 3 * l.depth + 2

abbrev pub invariant-product-loop-so_far : goal.invariant-product-loop-so_far
invariant-product-loop-so_far l =
    (items : List Factor) × (n : ℕ) × (length (remaining l.tokens) < n) × (length (remaining l.tokens) ≤ length (remaining l.initial.tokens))
    × (joined (read_factor l.depth) (passes Star) (suc (length (remaining l.initial.tokens))) (remaining l.initial.tokens)
    ≡ after_items items (joined (read_factor l.depth) (passes Star) n (remaining l.tokens)))
    × (IsTrue l.wanted → (others : Factors) → GoesOn l.presentation.names l.presentation.inv l.so_far others
    (product_meaning l.presentation.names l.presentation.inv [] (before items others)))

abbrev pub decreases-product-loop-so_far : goal.decreases-product-loop-so_far
decreases-product-loop-so_far l = length (remaining l.tokens)
