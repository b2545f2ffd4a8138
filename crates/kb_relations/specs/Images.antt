-- Automata by which each accepted word has exactly one image under each generator.
use Rattle.std.specs.Prelude.{ℕ, List}
use Rattle.kb_fsa.specs.Language.{Automaton}
use Rattle.kb_structure.specs.Structure.{Structure}
use Rattle.kb_structure.specs.StructureOf.{FitTogether, OfAutomata}
use Rattle.kb_structure.specs.Certificates.{HasImages, PairOutsideAcceptor, TwoImages}

-- Each accepted word has an image under each generator, and there are no certificates N2 and N5: so the image is
-- accepted, and the only one.
pub record HasUniqueImages (structure : Structure) : Type 0 where
  pub images : HasImages structure
  pub none_outside : (x : ℕ) (u v : List ℕ) → ¬ PairOutsideAcceptor structure x u v
  pub no_two : (x : ℕ) (u v other : List ℕ) → ¬ TwoImages structure x u v other

-- words can be followed by the automata: they fit together, and each accepted word has exactly one image under each
-- generator
pub record CanBeFollowed (acceptor : Automaton) (multipliers : List Automaton) : Type 0 where
  pub fit : FitTogether acceptor multipliers
  pub unique_images : OfAutomata acceptor multipliers HasUniqueImages
