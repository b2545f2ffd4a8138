use Rattle.std.proofs.Common.{◌≤◌, ℕ, List, length, None}
use Rattle.kb_record.specs.Meaning.{most_letters}
use Rattle.kb_wordreader.specs.Products.{Passed}
use Rattle.kb_wordreader.proofs.first.take_starred_names.Given as goal

-- what was read up to the beginning is read up to here
abbrev pub invariant-loop-rest : goal.invariant-loop-rest
invariant-loop-rest l = record {
  passed : (bytes : List ℕ) → Passed l.names bytes l.initial.text l.initial.word None → Passed l.names bytes l.text l.word None;
  few : length l.word ≤ most_letters;
  shorter : length l.text ≤ length l.initial.text;
}

abbrev pub decreases-loop-rest : goal.decreases-loop-rest
decreases-loop-rest l = length l.text
