use Rattle.std.proofs.Common.{◌≡◌, ℕ, ◌+◌, ◌*◌, ◌<◌, ◌≤◌, suc, map, length}
use Rattle.kb_record.specs.Reading.{remaining, passes, joined, after_items, read_factor}
use Rattle.kb_record.specs.View.{factor_view}
use Rattle.kb_record.specs.declared.cursor.Mark.TheVariants.{Star}
use Rattle.kb_record.proofs.words.+words.Given as goal

abbrev pub decreases-factor : goal.decreases-factor
decreases-factor l = 3 * l.depth + 1

abbrev pub decreases-group : goal.decreases-group
decreases-group l = 3 * l.depth

abbrev pub decreases-word : goal.decreases-word
decreases-word l = 3 * l.depth + 2

abbrev pub invariant-word-loop-factors : goal.invariant-word-loop-factors
invariant-word-loop-factors l =
    (n : ℕ) × (length (remaining l.tokens) < n) × (length (remaining l.tokens) ≤ length (remaining l.initial.tokens))
    × (joined (read_factor l.depth) (passes Star) (suc (length (remaining l.initial.tokens))) (remaining l.initial.tokens)
    ≡ after_items (map factor_view l.factors.items) (joined (read_factor l.depth) (passes Star) n (remaining l.tokens)))

abbrev pub decreases-word-loop-factors : goal.decreases-word-loop-factors
decreases-word-loop-factors l = length (remaining l.tokens)
