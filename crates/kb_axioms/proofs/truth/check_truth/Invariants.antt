use Rattle.kb_word.specs.Relations.{relations_of}
use Rattle.kb_labels.specs.Labels.{AreEqualSides}
use Rattle.kb_axioms.specs.Truth.{AgreeUpTo}
use Rattle.kb_axioms.proofs.Truths.{RelateProductsUpTo}
use Rattle.kb_axioms.proofs.truth.check_truth.Given as goal

-- the label words of all multipliers so far agree
abbrev pub invariant-loop-place : goal.invariant-loop-place
invariant-loop-place g l = record {
  agree : AgreeUpTo l.presentation (g.R.Reducer.rules l.reducer) l.multipliers l.place;
  sound : AreEqualSides (relations_of l.presentation.inv l.presentation.eqs) (g.R.Reducer.rules l.reducer)
      → RelateProductsUpTo l.presentation l.multipliers l.place;
}
