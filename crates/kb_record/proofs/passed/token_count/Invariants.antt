use Rattle.std.proofs.Common.{◌≡◌, ◌≤◌, length, ◌+◌, ◌-◌}
use Rattle.kb_lexing.proofs.FrontTokens.{tokens_of}
use Rattle.kb_record.proofs.passed.token_count.Given as goal

abbrev pub invariant-loop-count : goal.invariant-loop-count
invariant-loop-count l = (l.count + length (tokens_of l.rest) ≡ length (tokens_of l.text)) × (l.count + length l.rest ≤ length l.text)

abbrev pub decreases-loop-count : goal.decreases-loop-count
decreases-loop-count l = length l.text - l.count
