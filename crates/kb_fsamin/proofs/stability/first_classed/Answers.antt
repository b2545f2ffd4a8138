use Rattle.std.proofs.Common.{◌<◌, ◌∙◌, ℕ, length, sym, ap}
use Rattle.std.proofs.lemmas.List.Elements.{All-rest}
use Rattle.kb_fsamin.specs.Rounds.{class_row}
use Rattle.kb_fsamin.proofs.ClassRows.{class_row-dead}
use Rattle.kb_fsamin.proofs.stability.first_classed.Goals as goal

pub loop-first-preserved : goal.loop-first-preserved
loop-first-preserved c =
    let classes = c.args.classes.now in
    let first = c.in-Some.first.now in
    let later = c.in-Some.later.now in
    let rest = c.loop-first.rest.now in
    record {
      same = sym (class_row-dead classes first later c.if-class-ne0.false) ∙ ap (class_row classes) (sym c.in-Some.ensures.cases.0)
          ∙ c.loop-first.invariant.same;
      known = All-rest (λ (move : ℕ × ℕ). move.1 < length classes) first later rest c.in-Some.ensures.cases.0 c.loop-first.invariant.known;
    }
