use Rattle.std.proofs.Common.{ℕ, ◌<◌}
use Rattle.kb_word.specs.Words.{StandsAt}
use Rattle.kb_word.proofs.factor.factor_at.Given as goal

abbrev pub invariant-loop-place : goal.invariant-loop-place
invariant-loop-place l = (earlier : ℕ) → earlier < l.place → ¬ StandsAt l.word l.factor earlier
