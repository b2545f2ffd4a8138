use Rattle.std.proofs.Common.{◌+◌, ◌≤◌, length}
use Rattle.kb_lines.proofs.TogetherLemmas.{IsWithin}
use Rattle.kb_lines.proofs.together.answer_block.Given as goal

-- the lines before the rest of the bytes were answered
abbrev pub invariant-loop-line : goal.invariant-loop-line
invariant-loop-line g l = record {
  within : IsWithin (g.A.Answerer.parts l.answerer) (g.A.Answerer.answers l.answerer) l.bytes l.rest l.count l.text.items;
  number : l.count + length l.rest ≤ length l.bytes;
}

abbrev pub decreases-loop-line : goal.decreases-loop-line
decreases-loop-line g l = length l.rest
