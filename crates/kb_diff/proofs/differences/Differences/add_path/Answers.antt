use Rattle.std.proofs.Common.{◌≡◌, ◌↔◌, [], length, subst}
use Rattle.kb_diff.specs.declared.grow.Grow.TheVariants.{Same}
use Rattle.kb_diff.specs.Differences.{HaveDifferences}
use Rattle.kb_diff.specs.Kept.{AreKept}
use Rattle.kb_diff.specs.Keeping.{Adds, IsFull, NamesMissing}
use Rattle.kb_diff.proofs.Inserting.{has_at}
use Rattle.kb_diff.proofs.PathLemmas.{same_exactly, full_exactly, full_names, if_ok_more}
use Rattle.kb_diff.proofs.differences.Differences.add_path.Goals as goal

pub returns-else-is_err-clause-same : goal.returns-else-is_err-clause-same
returns-else-is_err-clause-same g c =
    let now = c.args.self.now in
    let are : AreKept now = subst AreKept c.self.view_is c.self.invariant in
    let u = c.args.u.now in let v = c.args.v.now in
    let new = c.add_places-added.new.self.words in
    if_ok_more (Adds now.group now.most u v now.words new) (λ answer. (answer ≡ Same) ↔ HaveDifferences now.group now.words u v) c.add_places-added.result
    (λ answer adds. same_exactly now.group now.most u v now.words new answer (has_at now.words 0 [] are.first) are.empty adds) c.add_places-added.ensures.ok

pub returns-else-is_err-clause-full : goal.returns-else-is_err-clause-full
returns-else-is_err-clause-full g c =
    let now = c.args.self.now in
    let are : AreKept now = subst AreKept c.self.view_is c.self.invariant in
    let u = c.args.u.now in let v = c.args.v.now in
    let new = c.add_places-added.new.self.words in
    if_ok_more (Adds now.group now.most u v now.words new)
    (λ answer. IsFull answer ↔ ((length new ≡ now.most) × (¬ HaveDifferences now.group new u v))) c.add_places-added.result
    (λ answer adds. full_exactly now.group now.most u v now.words new answer (has_at now.words 0 [] are.first) are.empty adds) c.add_places-added.ensures.ok

pub returns-else-is_err-clause-named : goal.returns-else-is_err-clause-named
returns-else-is_err-clause-named g c =
    let now = c.args.self.now in
    let u = c.args.u.now in let v = c.args.v.now in
    let new = c.add_places-added.new.self.words in
    if_ok_more (Adds now.group now.most u v now.words new) (NamesMissing now.group new u v) c.add_places-added.result
    (λ answer adds. full_names now.group now.most u v now.words new answer adds) c.add_places-added.ensures.ok
