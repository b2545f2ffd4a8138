use Rattle.std.proofs.Common.{◌≡◌, ℕ, suc, ◌<◌, Some}
use Rattle.kb_word.specs.Relations.{inverse_letter}
use Rattle.kb_presfile.proofs.inverses.first_one_sided.Given as goal

abbrev pub invariant-loop-place : goal.invariant-loop-place
invariant-loop-place l = (k : ℕ) → k < l.place → (y : ℕ) → inverse_letter l.inverses (suc k) ≡ Some y → inverse_letter l.inverses y ≡ Some (suc k)
