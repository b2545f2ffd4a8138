use Rattle.std.proofs.Common.{◌≡◌, ℕ, ◌+◌, ◌*◌, ◌<◌, ◌≤◌, suc, List, length}
use Rattle.kb_record.specs.Tree.{Factor}
use Rattle.kb_record.specs.Reading.{remaining, whole_of, passes, joined, after_items, read_factor}
use Rattle.kb_record.specs.declared.cursor.Mark.TheVariants.{Star}
use Rattle.kb_record.proofs.passing.+passing.Given as goal

abbrev pub decreases-pass_factor : goal.decreases-pass_factor
decreases-pass_factor l = 3 * l.depth + 1

abbrev pub decreases-pass_group : goal.decreases-pass_group
decreases-pass_group l = 3 * l.depth

abbrev pub decreases-pass_word : goal.decreases-pass_word
decreases-pass_word l = 3 * l.depth + 2

abbrev pub invariant-pass_word-loop-tokens : goal.invariant-pass_word-loop-tokens
invariant-pass_word-loop-tokens l =
    (items : List Factor) × (n : ℕ) × (length (remaining l.tokens) < n) × (length (remaining l.tokens) ≤ length (remaining l.initial.tokens))
    × (joined (read_factor l.depth) (passes Star) (suc (length (remaining l.initial.tokens))) (remaining l.initial.tokens)
    ≡ after_items items (joined (read_factor l.depth) (passes Star) n (remaining l.tokens)))
    × (whole_of l.tokens ≡ whole_of l.initial.tokens)

abbrev pub decreases-pass_word-loop-tokens : goal.decreases-pass_word-loop-tokens
decreases-pass_word-loop-tokens l = length (remaining l.tokens)
