use Rattle.std.proofs.lemmas.Result.{err_from_is_err_and}
use Rattle.kb_record.specs.View.{word_view}
use Rattle.kb_record.specs.Listed.{place_view}
use Rattle.kb_presfile.proofs.EquationFaults.{left_fault, right_fault}
use Rattle.kb_presfile.proofs.RefusalLemmas.{word_refused}
use Rattle.kb_presfile.proofs.equations.equation_at.Goals as goal

pub returns-in_err-left-clause-fault : goal.returns-in_err-left-clause-fault
returns-in_err-left-clause-fault c =
    let p = err_from_is_err_and c.from_residual-in_err-left.result c.from_residual-in_err-left.ensures.1 in
    rw p.1 (left_fault c.args.presentation.now.names c.args.presentation.now.inv (place_view c.args.place)
    (word_view c.in-Some.left, word_view c.in-Some.right) _ (rw c.in-Some.is at c.in_ok-sides.ensures.found) (word_refused _ _ p.0 c.in_err-left.ensures p.2))

pub returns-in_err-right-clause-fault : goal.returns-in_err-right-clause-fault
returns-in_err-right-clause-fault c =
    let p = err_from_is_err_and c.from_residual-in_err-right.result c.from_residual-in_err-right.ensures.1 in
    rw p.1 (right_fault c.args.presentation.now.names c.args.presentation.now.inv (place_view c.args.place)
    (word_view c.in-Some.left, word_view c.in-Some.right) _ (rw c.in-Some.is at c.in_ok-sides.ensures.found) _ c.in_ok-left.ensures
    (word_refused _ _ p.0 c.in_err-right.ensures p.2))

pub returns-clause-read : goal.returns-clause-read
returns-clause-read c = record {
  sides = (word_view c.in-Some.left, word_view c.in-Some.right);
  stands = rw c.in-Some.is at c.in_ok-sides.ensures.found;
  left = c.in_ok-left.ensures;
  right = c.in_ok-right.ensures;
}
