use Rattle.std.proofs.Common.{[], ◌∷◌, take, sym, ◌∙◌, append_assoc}
use Rattle.std.specs.List.{filter_map}
use Rattle.kb_fsadet.proofs.FirstWordLemmas.{filter_map_more_some, filter_map_more_none}
use Rattle.kb_compose.specs.StatePairs.{joined}
use Rattle.kb_compose.proofs.joining.push_each.Goals.{in-Some+in_ok-push, in_default}
use Rattle.kb_compose.proofs.joining.push_each.Goals as goal

pub loop-other-preserved : goal.loop-other-preserved
loop-other-preserved c =
    let h = joined c.args.symbols.n c.args.entry in
    let others = c.args.others.now in
    let place = c.loop-other.other-index in
    elim c.match-joined.branch [
      | in-Some+in_ok-push w ↦
          let both = w.in-Some.both in
          let more = filter_map_more_some h others place (0, 0) both c.loop-other-test.true (sym c.joined.ensures ∙ w.in-Some.is) in
          let pushed = w.in_ok-push.ensures.items in
          let whole = append_assoc c.args.moves.now.items (filter_map h (take place others)) (both ∷ []) in
          cc
      | in_default w ↦
          let more = filter_map_more_none h others place (0, 0) c.loop-other-test.true (sym c.joined.ensures ∙ w.in_default.is) in
          cc
    ]
