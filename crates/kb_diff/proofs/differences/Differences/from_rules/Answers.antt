use Rattle.std.proofs.Common.{◌∷◌, [], ℕ, List, true≢false, sym, ap, ◌∙◌, subst}
use Rattle.kb_diff.specs.Groups.{Group, group_of}
use Rattle.kb_diff.specs.Keeping.{AddsEach, none_left}
use Rattle.kb_diff.proofs.PathLemmas.{listed_at, over_by, adds_by, each_at, stopped_at, adds_each}
use Rattle.kb_diff.proofs.differences.Differences.from_rules.Goals as goal

pub loop-rule-init : goal.loop-rule-init
loop-rule-init g c =
    let P : List (List ℕ) → Type 0 = λ words. AddsEach (group_of c.args.presentation.now c.args.rules.now.rules) c.args.max_diffs [] ([] ∷ []) words in record {
      group = c.in_ok-kept.ensures.group;
      most = c.in_ok-kept.ensures.most;
      each = subst P (sym c.in_ok-kept.ensures.words) none_left;
    }

pub add_path-requires-clause-first : goal.add_path-requires-clause-first
add_path-requires-clause-first g c =
    let pair = c.rule-item.result in
    let at = listed_at c.args.rules.now.rules c.as_slice-listed.result.now c.loop-rule.rule-index pair c.as_slice-listed.ensures.rules c.loop-rule-test.true c.rule-item.is in
    let over = c.requires.letters pair (c.loop-rule.rule-index, at) in
    over_by c.args.presentation.now.n c.loop-rule.kept.group.n c.left.result.now pair.0 (ap (λ (it : Group). it.n) c.loop-rule.invariant.group) c.left.ensures over.0

pub add_path-requires-clause-second : goal.add_path-requires-clause-second
add_path-requires-clause-second g c =
    let pair = c.rule-item.result in
    let at = listed_at c.args.rules.now.rules c.as_slice-listed.result.now c.loop-rule.rule-index pair c.as_slice-listed.ensures.rules c.loop-rule-test.true c.rule-item.is in
    let over = c.requires.letters pair (c.loop-rule.rule-index, at) in
    over_by c.args.presentation.now.n c.loop-rule.kept.group.n c.right.result.now pair.1 (ap (λ (it : Group). it.n) c.loop-rule.invariant.group) c.right.ensures over.1

pub returns-then-is_full-clause-words : goal.returns-then-is_full-clause-words
returns-then-is_full-clause-words g c =
    let group = group_of c.args.presentation.now c.args.rules.now.rules in
    let pair = c.rule-item.result in
    let at = listed_at c.args.rules.now.rules c.as_slice-listed.result.now c.loop-rule.rule-index pair c.as_slice-listed.ensures.rules c.loop-rule-test.true c.rule-item.is in
    let adds = adds_by group c.loop-rule.kept.group c.args.max_diffs c.loop-rule.kept.most pair.0 pair.1 c.left.result.now c.right.result.now
    c.loop-rule.kept.words c.add_path.new.self.words c.in_ok-answer.answer c.loop-rule.invariant.group c.loop-rule.invariant.most c.left.ensures c.right.ensures
    c.in_ok-answer.ensures.ok in
    stopped_at group c.args.max_diffs c.args.rules.now.rules ([] ∷ []) c.loop-rule.kept.words c.add_path.new.self.words c.in_ok-answer.answer c.loop-rule.rule-index pair at
    c.loop-rule.invariant.each adds (c.is_full.ensures.0 c.if-is_full.true)

pub loop-rule-preserved : goal.loop-rule-preserved
loop-rule-preserved g c =
    let group = group_of c.args.presentation.now c.args.rules.now.rules in
    let pair = c.rule-item.result in
    let at = listed_at c.args.rules.now.rules c.as_slice-listed.result.now c.loop-rule.rule-index pair c.as_slice-listed.ensures.rules c.loop-rule-test.true c.rule-item.is in
    let adds = adds_by group c.loop-rule.kept.group c.args.max_diffs c.loop-rule.kept.most pair.0 pair.1 c.left.result.now c.right.result.now
    c.loop-rule.kept.words c.add_path.new.self.words c.in_ok-answer.answer c.loop-rule.invariant.group c.loop-rule.invariant.most c.left.ensures c.right.ensures
    c.in_ok-answer.ensures.ok in record {
      group = c.add_path.ensures.group ∙ c.loop-rule.invariant.group;
      most = c.add_path.ensures.most ∙ c.loop-rule.invariant.most;
      each = each_at group c.args.max_diffs c.args.rules.now.rules ([] ∷ []) c.loop-rule.kept.words c.add_path.new.self.words c.in_ok-answer.answer
          c.loop-rule.rule-index pair at c.loop-rule.invariant.each adds (λ full. true≢false (sym (c.is_full.ensures.1 full) ∙ c.if-is_full.false));
    }

pub returns-clause-words : goal.returns-clause-words
returns-clause-words g c =
    adds_each (group_of c.args.presentation.now c.args.rules.now.rules) c.args.max_diffs c.args.rules.now.rules c.as_slice-listed.result.now ([] ∷ [])
    c.loop-rule.kept.words c.loop-rule.rule-index c.as_slice-listed.ensures.rules c.loop-rule-test.false c.loop-rule.invariant.each
