-- From a word to its image, and from letter to letter.
use Rattle.std.proofs.Common.{◌≡◌, ℕ, List, [], Some, refl, ap, subst}
use Rattle.kb_word.specs.Relations.{IsOver}
use Rattle.kb_word.specs.declared.word_order.WordOrder.TheVariants.{ShortLex}
use Rattle.kb_fsa.specs.Language.{Automaton, Accepts, generators}
use Rattle.kb_leastpair.specs.LeastPair.{IsAccepted}
use Rattle.kb_structure.specs.Structure.{Multiplies}
use Rattle.kb_structure.specs.StructureOf.{FitTogether, OfAutomata, accepts_text, multiplier_of}
use Rattle.kb_structure.specs.Certificates.{HasImages, PrefixNotAccepted, PairOutsideAcceptor, TwoImages}
use Rattle.kb_structure.specs.Certificates.PrefixNotAccepted.{empty_word}
use Rattle.kb_structure.proofs.OfAutomata.{pair_multiplied}
use Rattle.kb_relations.specs.Images.{CanBeFollowed}
use Rattle.kb_relations.proofs.UniqueImages.{decided}

-- the multiplier accepts the word beside its image
pub image_of_accepted : (acceptor : Automaton) (multipliers : List Automaton) → CanBeFollowed acceptor multipliers → (x : ℕ) (multiplier : Automaton)
    → multiplier_of multipliers x ≡ Some multiplier → (word image : List ℕ) → IsAccepted multiplier word image
    → OfAutomata acceptor multipliers (λ structure. Multiplies structure x word image)
image_of_accepted acceptor multipliers followed x multiplier at word image pair order relations =
    let same : generators multiplier.alphabet ≡ generators acceptor.alphabet = ap generators (followed.fit.pairs x multiplier at) in
    let Over : List ℕ → ℕ → Type 0 = λ w k. IsOver k w in
    pair_multiplied order relations acceptor multipliers x multiplier at word image
    (subst (Over word) same pair.first_over) (subst (Over image) same pair.second_over) pair.accepted

-- what is asked of the automata is what a check of them finds
pub followed_without_certificates : (acceptor : Automaton) (multipliers : List Automaton) → FitTogether acceptor multipliers
    → OfAutomata acceptor multipliers HasImages
    → OfAutomata acceptor multipliers (λ structure. (u : List ℕ) → ¬ PrefixNotAccepted structure u)
    → OfAutomata acceptor multipliers (λ structure. (x : ℕ) (u v : List ℕ) → ¬ PairOutsideAcceptor structure x u v)
    → OfAutomata acceptor multipliers (λ structure. (x : ℕ) (u v other : List ℕ) → ¬ TwoImages structure x u v other)
    → CanBeFollowed acceptor multipliers × Accepts acceptor []
followed_without_certificates acceptor multipliers fit images prefixes inside single = (
  record {
    fit = fit;
    unique_images = λ order relations. record {
      images = images order relations;
      none_outside = inside order relations;
      no_two = single order relations;
    };
  },
  decided (accepts_text acceptor []) (λ refused. prefixes ShortLex [] [] (empty_word refl (λ accepts. refused accepts.accepted))),
)
