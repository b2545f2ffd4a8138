-- Where there is no certificate, the axioms hold, since it can be decided which words and pairs are accepted.
use Rattle.std.proofs.Common.{◌≡◌, ℕ, Bool, true, false, IsTrue, List, [], ◌∷◌, ◌++◌, refl, sym, subst, inl, inr}
use Rattle.std.proofs.lemmas.Bool.{true≢false}
use Rattle.kb_word.specs.Words.{Pair, OneOf}
use Rattle.kb_word.specs.ShortlexLaws.{shortlex_total, shortlex_irreflexive}
use Rattle.kb_word.specs.Words.{Less}
use Rattle.kb_word.specs.Relations.{IsOver}
use Rattle.kb_structure.specs.Structure.{Structure, IsGenerator, Accepts, Multiplies}
use Rattle.kb_structure.specs.Axioms.{SatisfiesMultiplierAxioms, ActAlike, SatisfiesAxioms}
use Rattle.kb_structure.specs.Certificates.{HasNoCertificate, HasImages, IsTrueToGroup}
use Rattle.kb_structure.specs.Certificates.PrefixNotAccepted.{empty_word, prefix}
use Rattle.kb_structure.proofs.Letters.{over_empty, over_front}

decided : (b : Bool) → (¬ IsTrue b → ⊥) → IsTrue b
decided true never = refl
decided false never = absurd (never (λ is. true≢false (sym is)))

same_word : (u v : List ℕ) → ((u ≡ v → ⊥) → ⊥) → u ≡ v
same_word u v never = elim (shortlex_total u v) [
  | inl same ↦ same
  | inr apart ↦ absurd (never (λ same. elim apart [
    | inl lower ↦ let P : List ℕ → Type 0 = λ w. Less w v in shortlex_irreflexive v (subst P same lower)
    | inr upper ↦ let P : List ℕ → Type 0 = λ w. Less v w in shortlex_irreflexive v (subst P same upper)
  ]))
]

-- a word over the generators is accepted where it can't be that it isn't
accepts_decided : (structure : Structure) (w : List ℕ) → IsOver structure.n w → (¬ Accepts structure w → ⊥) → Accepts structure w
accepts_decided structure w letters never = record {
  letters = letters;
  accepted = decided (structure.acceptor w) (λ refused. never (λ accepts. refused accepts.accepted));
}

multiplies_decided : (structure : Structure) (x : ℕ) (u v : List ℕ) → IsOver structure.n u → IsOver structure.n v
    → (¬ Multiplies structure x u v → ⊥) → Multiplies structure x u v
multiplies_decided structure x u v first second never = record {
  first_letters = first;
  second_letters = second;
  accepted = decided (structure.multiplier x u v) (λ refused. never (λ multiplies. refused multiplies.accepted));
}

module _ (structure : Structure) (none : HasNoCertificate structure) where
  empty_accepted : Accepts structure []
  empty_accepted = accepts_decided structure [] (over_empty structure.n) (λ refused. none.n1 [] (empty_word refl refused))

  prefixes_accepted : (u w : List ℕ) → Accepts structure (u ++ w) → Accepts structure u
  prefixes_accepted u w accepted = accepts_decided structure u (over_front structure.n u w accepted.letters)
      (λ refused. none.n1 (u ++ w) (prefix u w refl accepted refused))

  relations_act : (relation : Pair) → OneOf structure.relations relation → ActAlike structure relation.0 relation.1
  relations_act relation one u a b accepted left right = same_word a b (λ different.
      none.n8 one.0 u a b (record {
        relation = relation;
        is_relation = one.1;
        accepted = accepted;
        left = left;
        right = right;
        different = different;
      }))

  module _ (images : HasImages structure) (true_to_group : IsTrueToGroup structure) where
    multiplier_axioms : (x : ℕ) → IsGenerator structure x → SatisfiesMultiplierAxioms structure x
    multiplier_axioms x generator = record {
      inside = λ u v multiplies. (
        accepts_decided structure u multiplies.first_letters
            (λ refused. none.n2 x u v (record { generator = generator; multiplies = multiplies; outside = inl refused })),
        accepts_decided structure v multiplies.second_letters
            (λ refused. none.n2 x u v (record { generator = generator; multiplies = multiplies; outside = inr refused })),
      );
      total = λ u accepted. images x u generator accepted;
      single_valued = λ u v other one two. same_word v other
          (λ different. none.n5 x u v other (record { generator = generator; one = one; two = two; different = different }));
      extends = λ u accepted. multiplies_decided structure x u (u ++ x ∷ []) (over_front structure.n u (x ∷ []) accepted.letters)
          accepted.letters (λ missing. none.n6 x u (record { generator = generator; accepted = accepted; missing = missing }));
      not_greater = λ u v multiplies greater.
          none.n7 x u v (record { generator = generator; multiplies = multiplies; greater = greater });
      true_to_the_group = λ u v multiplies. true_to_group x u v generator multiplies;
    }

    pub axioms_hold : SatisfiesAxioms structure
    axioms_hold = record {
      has_empty_word = empty_accepted;
      closed_under_prefixes = prefixes_accepted;
      multipliers = multiplier_axioms;
      relations_act_alike = relations_act;
    }
