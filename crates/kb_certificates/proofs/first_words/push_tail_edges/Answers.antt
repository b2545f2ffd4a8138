use Rattle.std.proofs.Common.{◌∷◌, [], get_or, take, sym, ◌∙◌, append_assoc}
use Rattle.std.specs.List.{filter_map}
use Rattle.kb_fsadet.specs.FirstWords.{tail_edge}
use Rattle.kb_fsadet.proofs.FirstWordLemmas.{filter_map_more_some, filter_map_more_none, tail_edge-pads, tail_edge-no_pads}
use Rattle.kb_certificates.proofs.first_words.push_tail_edges.Goals.{then-pads_first+in_ok-push, else-pads_first}
use Rattle.kb_certificates.proofs.first_words.push_tail_edges.Goals as goal

pub loop-symbol-preserved : goal.loop-symbol-preserved
loop-symbol-preserved c =
    let n = c.args.symbols.n in
    let state = c.args.state in
    let moves = c.as_slice-symbol-items.result.now in
    let place = c.loop-symbol.symbol-index in
    let move = get_or moves place (0, 0) in
    let before = filter_map (tail_edge n state) (take place moves) in
    elim c.if-pads_first.branch [
      | then-pads_first+in_ok-push w ↦
          let more = filter_map_more_some (tail_edge n state) moves place (0, 0) (move.1, state) c.loop-symbol-test.true
          (tail_edge-pads n state move (sym c.pads_first.ensures ∙ w.if-pads_first.true)) in
          let pushed = w.in_ok-push.ensures.items in
          let joined = append_assoc c.args.edges.now.items before ((move.1, state) ∷ []) in
          cc
      | else-pads_first w ↦
          let more = filter_map_more_none (tail_edge n state) moves place (0, 0) c.loop-symbol-test.true
          (tail_edge-no_pads n state move (sym c.pads_first.ensures ∙ w.if-pads_first.false)) in
          cc
    ]
