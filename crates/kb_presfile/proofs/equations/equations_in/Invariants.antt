use Rattle.std.proofs.Common.{take}
use Rattle.kb_record.specs.View.{value_view, places_of}
use Rattle.kb_record.specs.Listed.{listed}
use Rattle.kb_presfile.specs.Holds.{AreEquations}
use Rattle.kb_presfile.proofs.EquationFaults.{NoneBefore}
use Rattle.kb_presfile.proofs.equations.equations_in.Given as goal

abbrev pub invariant-loop-place : goal.invariant-loop-place
invariant-loop-place l = record {
  read : AreEquations l.presentation.names l.presentation.inv (places_of (take l.place (listed (value_view l.list)))) l.equations.items;
  none : NoneBefore l.presentation.names l.presentation.inv (listed (value_view l.list)) l.place;
}
