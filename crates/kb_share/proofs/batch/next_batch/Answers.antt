use Rattle.std.proofs.Common.{◌≡◌, [], ◌∷◌, ◌++◌, List, Vec, Global, sym, ◌∙◌, ap, subst}
use Rattle.std.specs.List.{All}
use Rattle.std.proofs.lemmas.List.Elements.{All-push}
use Rattle.kb_share.specs.Passes.{IsApart}
use Rattle.kb_share.specs.declared.found.Found.{Found}
use Rattle.kb_share.proofs.batch.next_batch.Goals as goal
use Rattle.kb_share.proofs.batch.next_batch.Goals.{then-branch+in_ok-push, else-branch}

pub loop-one-preserved : goal.loop-one-preserved
loop-one-preserved g c =
    let version = c.args.version.now in
    let before = c.loop-one.batch.items in
    let Goes : List Found → Type 0 = λ found. All (IsApart version) found in
    elim c.if-branch.branch [
      | then-branch+in_ok-push w ↦
          let one = c.in-Some.one.found in
          let same : c.if-branch.batch.items ≡ before ++ one ∷ [] =
          ap (λ (v : Vec Found Global). v.items) w.batch-is ∙ w.in_ok-push.ensures.items in
          subst Goes (sym same) (All-push (IsApart version) before one c.loop-one.invariant (c.in_ok-is_apart.ensures w.if-branch.true))
      | else-branch w ↦
          let same : c.if-branch.batch.items ≡ before = ap (λ (v : Vec Found Global). v.items) w.batch-is in
          subst Goes (sym same) c.loop-one.invariant
    ]
