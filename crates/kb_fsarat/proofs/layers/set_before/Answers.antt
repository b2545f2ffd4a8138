use Rattle.std.proofs.Common.{ℕ, List, ◌++◌, map, take, sym, ap, ◌∙◌}
use Rattle.kb_fsa.specs.Table.{Moves}
use Rattle.kb_fsarat.specs.Layers.{targets_of_each}
use Rattle.kb_fsarat.proofs.LayerLemmas.{targets_more}
use Rattle.kb_fsarat.proofs.layers.set_before.Goals as goal

pub loop-member-preserved : goal.loop-member-preserved
loop-member-preserved c =
    let rows = c.args.turned.now in
    let members = c.as_slice-member-items.result.now in
    let index = c.loop-member.member-index in
    c.in_ok-push_targets.ensures
    ∙ ap (λ (states : List ℕ). states ++ map (λ move. move.1) c.moves_at.result.now) c.loop-member.invariant
    ∙ ap (λ (moves : Moves). targets_of_each rows (take index members) ++ map (λ move. move.1) moves) c.moves_at.ensures
    ∙ sym (targets_more rows members index _ c.loop-member-test.true)
