use Rattle.kb_bylog.proofs.LineLemmas.{JoinedBefore}
use Rattle.kb_cmd_words.proofs.joining.first_apart.Given as goal

-- the relations before this place are joined
abbrev pub invariant-loop-place : goal.invariant-loop-place
invariant-loop-place l = JoinedBefore l.reducer.rules l.relations l.place
