use Rattle.std.proofs.Common.{◌≡◌, [], ◌∷◌, take}
use Rattle.kb_diff.specs.Groups.{group_of}
use Rattle.kb_diff.specs.Keeping.{AddsEach}
use Rattle.kb_diff.proofs.differences.Differences.from_rules.Given as goal

-- the differences of the rules before this one are kept
abbrev pub invariant-loop-rule : goal.invariant-loop-rule
invariant-loop-rule g l = record {
  group : l.kept.group ≡ group_of l.presentation l.rules.rules;
  most : l.kept.most ≡ l.max_diffs;
  each : AddsEach (group_of l.presentation l.rules.rules) l.max_diffs (take l.rule-index l.rules.rules) ([] ∷ []) l.kept.words;
}
