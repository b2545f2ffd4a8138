use Rattle.std.proofs.Common.{[], ◌∷◌, ◌++◌, get_or, sym, ap, ◌∙◌, arith}
use Rattle.kb_fsamin.specs.Rounds.{class_of}
use Rattle.kb_fsamin.proofs.ClassRows.{class_row-more_dead, class_row-more_live}
use Rattle.kb_fsamin.proofs.rounds.signature_of.Goals as goal
use Rattle.kb_fsamin.proofs.rounds.signature_of.Goals.{then-class-ne0+in_ok-push, else-class-ne0}

pub loop-symbol-preserved : goal.loop-symbol-preserved
loop-symbol-preserved c =
    let classes = c.args.classes.now in
    let moves = c.args.row.now in
    let place = c.loop-symbol.symbol-index in
    let move = get_or moves place (0, 0) in
    elim c.if-class-ne0.branch [
      | then-class-ne0+in_ok-push w ↦
          ap (λ v. v.items) w.moves-is ∙ w.in_ok-push.ensures.items ∙ ap (λ ms. ms ++ (move.0, class_of classes move.1) ∷ []) c.loop-symbol.invariant
          ∙ sym (class_row-more_live classes moves place (omega arith) w.if-class-ne0.true)
      | else-class-ne0 w ↦
          ap (λ v. v.items) w.moves-is ∙ c.loop-symbol.invariant ∙ sym (class_row-more_dead classes moves place (omega arith) w.if-class-ne0.false)
    ]
