use Rattle.std.proofs.Common.{◌≡◌, ◌+◌, ◌<◌, ◌≤◌, length, drop}
use Rattle.kb_share.proofs.signature.window_marks.Given as goal
use Rattle.kb_share.specs.Signatures.{window_mark, AreBitsOf}

-- the first windows are marked
abbrev pub invariant-loop-window : goal.invariant-loop-window
invariant-loop-window l = record {
  marks : AreBitsOf (window_mark l.size l.letters) (length l.yielded) l.bits;
  size : l.window-iterator.size ≡ l.size;
  rest : l.window-iterator.rest.now ≡ drop (length l.yielded) l.letters;
  within : 0 < length l.yielded → length l.yielded + l.size ≤ length l.letters + 1;
}
