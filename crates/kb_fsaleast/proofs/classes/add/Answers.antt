use Rattle.std.proofs.Common.{◌≡◌, ℕ, ◌<◌, List, [], ◌∷◌, ◌++◌, length, ap, ◌∙◌, arith}
use Rattle.std.proofs.lemmas.Bool.Decides.{nat_tests}
use Rattle.kb_fsadet.specs.SubsetConstruction.{set_of}
use Rattle.kb_fsaleast.specs.Classes.Adds.{some}
use Rattle.kb_fsaleast.proofs.classes.add.Goals as goal

pub returns-in_ok-push-2 : goal.returns-in_ok-push-2
returns-in_ok-push-2 c =
    let members = c.args.classes.now.members.items in
    let fresh = c.in_ok-fresh.fresh.items in
    let count : length fresh ≡ c.in_ok-fresh.fresh.len = omega arith in
    let some_left = c.if-not-is_empty.ensures in
    let positive : 0 < length fresh = grind (arith, nat_tests) in
    let pushed : c.push.new.self.items ≡ members ++ c.of.result ∷ [] = c.in_ok-push.ensures.items in
    let class : members ++ c.of.result ∷ [] ≡ members ++ set_of fresh ∷ [] = ap (λ (set : List ℕ). members ++ set ∷ []) c.of.ensures in
    some {fresh = fresh} (◌∙◌ {A = List (List ℕ)} pushed class) c.in_ok-push-2.ensures.items positive c.in_ok-fresh.ensures
