use Rattle.std.proofs.Common.{get_or, sym, ◌∙◌}
use Rattle.kb_fsa.specs.PairSymbols.{first_letter}
use Rattle.kb_fsadet.specs.FirstWords.{by_first}
use Rattle.kb_fsadet.proofs.FirstWordLemmas.{filter_map_more_some, filter_map_more_none, by_first-pads, by_first-no_pads}
use Rattle.kb_certificates.proofs.first_words.row_by_first.Goals.{then-not-pads_first+in_ok-push, else-not-pads_first}
use Rattle.kb_certificates.proofs.first_words.row_by_first.Goals as goal

pub loop-symbol-preserved : goal.loop-symbol-preserved
loop-symbol-preserved c =
    let n = c.args.symbols.n in
    let moves = c.as_slice-symbol-items.result.now in
    let place = c.loop-symbol.symbol-index in
    let move = get_or moves place (0, 0) in
    elim c.if-not-pads_first.branch [
      | then-not-pads_first+in_ok-push w ↦
          let more = filter_map_more_some (by_first n) moves place (0, 0) (first_letter n move.0, move.1) c.loop-symbol-test.true
          (by_first-no_pads n move (sym c.pads_first.ensures ∙ w.if-not-pads_first.true)) in
          let pushed = w.in_ok-push.ensures.ok in
          cc
      | else-not-pads_first w ↦
          let more = filter_map_more_none (by_first n) moves place (0, 0) c.loop-symbol-test.true (by_first-pads n move (sym c.pads_first.ensures ∙ w.if-not-pads_first.false)) in
          cc
    ]
