use Rattle.kb_record.specs.View.{value_view}
use Rattle.kb_subfile.proofs.WordLemmas.{AreWordsBefore}
use Rattle.kb_subfile.proofs.words.word_count.Given as goal

abbrev pub invariant-loop-place : goal.invariant-loop-place
invariant-loop-place l = AreWordsBefore (value_view l.value) l.place
