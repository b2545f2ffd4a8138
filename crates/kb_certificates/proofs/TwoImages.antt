-- Words with two images.
use Rattle.std.proofs.Common.{◌≡◌, ◌↔◌, ℕ, ◌<◌, ◌≤◌, List, Some, sym, ap, subst, inl, inr}
use Rattle.kb_word.specs.Words.{Less, Pair as Sides}
use Rattle.kb_word.specs.ShortlexLaws.{shortlex_total}
use Rattle.kb_word.specs.Relations.{IsOver}
use Rattle.kb_word.specs.declared.word_order.WordOrder.{WordOrder}
use Rattle.kb_fsa.specs.Language.{Automaton, generators}
use Rattle.kb_leastpair.specs.LeastPair.{IsAccepted, IsLeastWord}
use Rattle.kb_structure.specs.Structure.{Structure, Multiplies}
use Rattle.kb_structure.specs.StructureOf.{FitTogether, multiplier_of, structure_of}
use Rattle.kb_structure.specs.Certificates.{TwoImages}
use Rattle.kb_structure.proofs.OfAutomata.{multiplied_pair, pair_multiplied}
use Rattle.kb_certificates.specs.Later.{HasLater}
use Rattle.kb_certificates.specs.First.{HasTwo, IsLeastTriple, IsOther}

module _ (pairs : Automaton) where
  -- of two second words the greater makes a later pair
  two_has_later : (u v w : List ℕ) → HasTwo pairs u v w → HasLater pairs u
  two_has_later u v w has = elim (shortlex_total v w) [
    | inl same ↦ absurd (has.different same)
    | inr apart ↦ elim apart [
      | inl less ↦ record {
        second = w;
        later = record { accepted = has.two; lesser = v; less = less; lesser_accepted = has.one };
      }
      | inr more ↦ record {
        second = v;
        later = record { accepted = has.one; lesser = w; less = more; lesser_accepted = has.two };
      }
    ]
  ]

  pub no_two : ((first : List ℕ) → ¬ HasLater pairs first) → (u v w : List ℕ) → ¬ HasTwo pairs u v w
  no_two none u v w has = none u (two_has_later u v w has)

  module _ (word : List ℕ) (first : IsLeastWord (HasLater pairs) word) where
    pub word_over : IsOver (generators pairs.alphabet) word
    word_over = first.holds.later.accepted.first_over

    -- the word has an image
    pub has_image : ¬ ((image : List ℕ) → ¬ IsAccepted pairs word image)
    has_image none = none first.holds.second first.holds.later.accepted

    module _ (image : List ℕ) (least : IsLeastWord (IsAccepted pairs word) image) where
      -- and another one than the least
      pub has_other : ¬ ((other : List ℕ) → ¬ IsOther pairs word image other)
      has_other none =
          let later = first.holds.later in
          let P : List ℕ → Type 0 = λ w. Less later.lesser w in
          none first.holds.second (record {
            accepted = later.accepted;
            different = λ same. least.least later.lesser later.lesser_accepted (subst P (sym same) later.less);
          })

      pub least_two_words : (other : List ℕ) → IsLeastWord (IsOther pairs word image) other → IsLeastTriple (HasTwo pairs) word image other
      least_two_words other next = record {
        holds = record { one = least.holds; two = next.holds.accepted; different = next.holds.different };
        least_first = λ a b c has less. first.least a (two_has_later a b c has) less;
        least_second = λ b c has less. least.least b has.one less;
        least_third = λ c has less. next.least c (record { accepted = has.two; different = has.different }) less;
      }

module _ (order : WordOrder) (relations : List Sides) (acceptor : Automaton) (multipliers : List Automaton)
    (fit : FitTogether acceptor multipliers) (x : ℕ) (multiplier : Automaton)
    (at : multiplier_of multipliers x ≡ Some multiplier) where
  abbrev structure : Structure
  structure = structure_of order relations acceptor multipliers

  same_generators : generators multiplier.alphabet ≡ generators acceptor.alphabet
  same_generators = ap generators (fit.pairs x multiplier at)

  multiplied_accepted : (u v : List ℕ) → Multiplies structure x u v ↔ IsAccepted multiplier u v
  multiplied_accepted u v =
      let P : List ℕ → ℕ → Type 0 = λ w k. IsOver k w in (
        λ multiplies. record {
          first_over = subst (P u) (sym same_generators) multiplies.first_letters;
          second_over = subst (P v) (sym same_generators) multiplies.second_letters;
          accepted = multiplied_pair order relations acceptor multipliers x multiplier at u v multiplies;
        },
        λ accepted. pair_multiplied order relations acceptor multipliers x multiplier at u v
            (subst (P u) same_generators accepted.first_over) (subst (P v) same_generators accepted.second_over) accepted.accepted,
      )

  two_are : (0 < x) × (x ≤ generators acceptor.alphabet) → (u v w : List ℕ) → HasTwo multiplier u v w ↔ TwoImages structure x u v w
  two_are letter u v w = (
    λ has. record {
      generator = letter;
      one = (multiplied_accepted u v).1 has.one;
      two = (multiplied_accepted u w).1 has.two;
      different = has.different;
    },
    λ certificate. record {
      one = (multiplied_accepted u v).0 certificate.one;
      two = (multiplied_accepted u w).0 certificate.two;
      different = certificate.different;
    },
  )

  pub least_images : (0 < x) × (x ≤ generators acceptor.alphabet) → (u v w : List ℕ) → IsLeastTriple (HasTwo multiplier) u v w
      → IsLeastTriple (TwoImages structure x) u v w
  least_images letter u v w least = record {
    holds = (two_are letter u v w).0 least.holds;
    least_first = λ a b c certificate. least.least_first a b c ((two_are letter a b c).1 certificate);
    least_second = λ b c certificate. least.least_second b c ((two_are letter u b c).1 certificate);
    least_third = λ c certificate. least.least_third c ((two_are letter u v c).1 certificate);
  }

  pub none_images : ((u v w : List ℕ) → ¬ HasTwo multiplier u v w) → (u v w : List ℕ) → ¬ TwoImages structure x u v w
  none_images none u v w certificate = none u v w ((two_are certificate.generator u v w).1 certificate)
