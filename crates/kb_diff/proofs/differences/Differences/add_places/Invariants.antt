use Rattle.std.proofs.Common.{◌≡◌, length, take}
use Rattle.kb_diff.proofs.PathLemmas.{SoFar}
use Rattle.kb_diff.proofs.differences.Differences.add_places.Given as goal

-- the differences at the places before this one are kept
abbrev pub invariant-loop-place : goal.invariant-loop-place
invariant-loop-place g l = record {
  group : l.self.group ≡ l.initial.self.group;
  most : l.self.most ≡ l.initial.self.most;
  front : take (length l.initial.self.words) l.self.words ≡ l.initial.self.words;
  so_far : SoFar l.initial.self.group l.initial.self.most l.u l.v l.place l.initial.self.words l.self.words l.answer;
}
