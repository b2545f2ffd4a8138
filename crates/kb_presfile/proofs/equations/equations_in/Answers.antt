use Rattle.std.proofs.lemmas.Result.{err_from_is_err_and}
use Rattle.kb_record.specs.View.{value_view}
use Rattle.kb_record.specs.Listed.{listed}
use Rattle.kb_presfile.proofs.EquationFaults.{place_fault, none_more}
use Rattle.kb_presfile.proofs.EquationLemmas.{equations_more}
use Rattle.kb_presfile.proofs.equations.equations_in.Goals as goal

pub returns-in_err-equation_at-clause-fault : goal.returns-in_err-equation_at-clause-fault
returns-in_err-equation_at-clause-fault c =
    let p = err_from_is_err_and c.from_residual-in_err-equation_at.result c.from_residual-in_err-equation_at.ensures.1 in
    rw (p.1, p.2) (place_fault c.args.presentation.now.names c.args.presentation.now.inv (listed (value_view c.args.list.now)) c.loop-place.place
    _ c.place.ensures c.loop-place.invariant.none _ c.in_err-equation_at.ensures.fault)

pub loop-place-preserved : goal.loop-place-preserved
loop-place-preserved c = record {
  read = equations_more c.args.presentation.now.names c.args.presentation.now.inv (listed (value_view c.args.list.now)) c.loop-place.place _
      c.loop-place.equations.items _ c.in_ok-equation_at.field-0 c.place.ensures c.loop-place.invariant.read c.in_ok-equation_at.ensures.read
      c.in_ok-push.ensures.items;
  none = none_more c.args.presentation.now.names c.args.presentation.now.inv (listed (value_view c.args.list.now)) c.loop-place.place _
      c.place.ensures c.loop-place.invariant.none _ c.in_ok-equation_at.ensures.read;
}
