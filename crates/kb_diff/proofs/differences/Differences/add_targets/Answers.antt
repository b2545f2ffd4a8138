use Rattle.std.proofs.Common.{refl, ap, ◌≡◌, ◌∙◌, subst, ℕ, List, ◌+◌, arith}
use Rattle.kb_diff.specs.Kept.{KeptDifferences}
use Rattle.kb_diff.specs.Tables.{AddsTargets, FrontLeads}
use Rattle.kb_diff.proofs.Entries.{targets_none, targets_more}
use Rattle.kb_diff.proofs.differences.Differences.add_targets.Goals as goal

pub loop-second-init : goal.loop-second-init
loop-second-init g c = record {
  front = refl;
  adds = targets_none c.args.self.now.group c.args.self.now.words c.args.scratch.now.front c.args.table.now.items;
}

pub loop-second-preserved : goal.loop-second-preserved
loop-second-preserved g c =
    let now = c.args.self.now in
    let so_far = c.loop-second.invariant in
    let P : List ℕ → Type 0 = λ front. FrontLeads now.group now.words front (c.loop-second.second + 1) c.in_ok-target.target in
    let leads = subst P so_far.front c.in_ok-target.ensures.target in record {
      front = c.in_ok-target.ensures.front ∙ so_far.front;
      adds = targets_more now.group now.words c.args.scratch.now.front c.loop-second.second c.in_ok-target.target c.args.table.now.items
          c.loop-second.table.items c.push.new.self.items so_far.adds leads c.in_ok-push.ensures.items;
    }

pub returns : goal.returns
returns g c =
    let now = c.args.self.now in
    let same : c.self.inside.presentation.n ≡ now.group.n = ap (λ (kept : KeptDifferences). kept.group.n) c.self.view_is in
    let count : c.loop-second.second ≡ now.group.n + 1 =
    omega (arith, c.loop-second.auto.second-end, c.loop-second-test.false, c.from-second-end.ensures, same) in
    let P : ℕ → Type 0 = λ k. AddsTargets now.group now.words c.args.scratch.now.front k c.args.table.now.items c.loop-second.table.items in
    subst P count c.loop-second.invariant.adds
