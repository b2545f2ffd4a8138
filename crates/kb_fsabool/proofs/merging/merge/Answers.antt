use Rattle.std.proofs.Common.{ℕ, List, sym, ap, ◌∙◌, subst}
use Rattle.kb_fsabool.specs.declared.connective.StatePair.{StatePair}
use Rattle.kb_fsabool.specs.Products.{IsMerging}
use Rattle.kb_fsabool.proofs.RowMerges.{splits_shorter, merging_with, merging_without, merging_ends}
use Rattle.kb_fsabool.proofs.merging.merge.Goals as goal
use Rattle.kb_fsabool.proofs.merging.merge.Goals.{in-Some-pair+in_ok-push, in_default-pair}

pub loop-symbol-smaller : goal.loop-symbol-smaller
loop-symbol-smaller c = splits_shorter c.in-Some.ensures.some c.split_at_symbol-one.ensures c.split_at_symbol-two.ensures

pub loop-symbol-preserved : goal.loop-symbol-preserved
loop-symbol-preserved c =
    let first = c.args.first.now in let second = c.args.second.now in
    let P = λ (moves : List (ℕ × StatePair)). IsMerging c.args.connective first second moves c.split_at_symbol-one.result.1.now c.split_at_symbol-two.result.1.now in
    elim c.match-pair.branch [
      | in-Some-pair+in_ok-push w ↦
          let pushed = merging_with c.loop-symbol.invariant c.split_at_symbol-one.ensures c.split_at_symbol-two.ensures w.in-Some-pair.state (sym c.pair.ensures ∙ w.in-Some-pair.is) in
          subst P (sym w.in_ok-push.ensures.items ∙ ap (λ v. v.items) (sym w.moves-is)) pushed
      | in_default-pair w ↦
          let same = merging_without c.loop-symbol.invariant c.split_at_symbol-one.ensures c.split_at_symbol-two.ensures (sym c.pair.ensures ∙ w.in_default-pair.is) in
          subst P (ap (λ v. v.items) (sym w.moves-is)) same
    ]

pub returns : goal.returns
returns c =
    let left = c.in_default.ensures.none in
    merging_ends c.loop-symbol.invariant left.0 left.1
