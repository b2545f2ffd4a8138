-- Automata that pass the certificates of the kinds N1, N2, N4 and N5 can be followed.
use Rattle.kb_structure.specs.StructureOf.{FitTogether}
use Rattle.kb_relations.specs.Images.{CanBeFollowed}
use Rattle.kb_axioms.specs.Checked.{Checked, PassesSingle}

pub can_be_followed : (checked : Checked) → FitTogether checked.acceptor checked.multipliers → PassesSingle checked
    → CanBeFollowed checked.acceptor checked.multipliers
can_be_followed checked fit passes = record {
  fit = fit;
  unique_images = λ order relations. record {
    images = passes.earlier.images order relations;
    none_outside = passes.earlier.earlier.inside order relations;
    no_two = passes.single order relations;
  };
}
