-- What is always so of the automata that are made of word differences: they are true to the group, and there is no
-- certificate N1 or N2 against them.
use Rattle.std.proofs.Common.{◌≡◌, ◌↔◌, ℕ, zero, suc, IsTrue, List, [], ◌∷◌, ◌++◌, Option, None, Some, refl, sym, ap, ◌∙◌, subst, inl, inr, append_assoc}
use Rattle.std.proofs.lemmas.Bool.{true≢false}
use Rattle.std.proofs.lemmas.Option.{none-some}
use Rattle.kb_word.specs.Words.{IsFactor, Pair as Sides}
use Rattle.kb_word.specs.Relations.{IsOver, relations_of}
use Rattle.kb_word.specs.WordOrders.{Below}
use Rattle.kb_word.specs.WordOrderLaws.{word_orders}
use Rattle.kb_word.specs.declared.word_order.WordOrder.{WordOrder}
use Rattle.kb_word.specs.declared.word_order.WordOrder.TheVariants.{ShortLex}
use Rattle.kb_word.specs.declared.presentation.Presentation.{Presentation}
use Rattle.kb_rules.proofs.Exists.{nothing_below_empty}
use Rattle.kb_fsa.specs.Language.{Automaton, IsAutomaton, generators}
use Rattle.kb_fsa.specs.declared.alphabet.Alphabet.TheVariants.{Plain}
use Rattle.kb_diff.specs.Groups.{Group, group_of}
use Rattle.kb_diff.specs.Languages.{DifferenceAcceptor}
use Rattle.kb_diffwa.specs.Multipliers.{IsMultiplied, IsMultiplier}
use Rattle.kb_structure.specs.Structure.{Accepts, Multiplies, Structure}
use Rattle.kb_structure.specs.StructureOf.{accepts_pair, multiplier_of, structure_of}
use Rattle.kb_structure.specs.Certificates.{IsTrueToGroup, PairOutsideAcceptor, PrefixNotAccepted}
use Rattle.kb_structure.specs.Certificates.PrefixNotAccepted.{empty_word, prefix}
use Rattle.kb_structure.specs.declared.cert.Cert.{Cert}
use Rattle.kb_structure.proofs.Letters.{over_empty, over_front}
use Rattle.kb_structure.proofs.OfAutomata.{accepts_word, multiplied_pair}
use Rattle.kb_labels.specs.Labels.{AreEqualSides}
use Rattle.kb_axioms.specs.Answered.{checked_in}
use Rattle.kb_axioms.specs.Checked.{IsFirstCertificate, PassesRelations}
use Rattle.kb_axioms.specs.Checked.IsFirstCertificate.{n1, n2, n4, n5, n6, n7, n8}
use Rattle.kb_axioms.specs.Truth.{AreMultipliers as ReadPairs}
use Rattle.kb_axioms.proofs.GroupAutomata.{multipliers_read}
use Rattle.kb_axioms.proofs.Presented.{own}
use Rattle.kb_round.specs.Rounds.{AreMadeOf, IsOwnStructure}
use Rattle.kb_round.specs.Shown.{HasEquality}
use Rattle.kb_round.proofs.LedWords.{multiplied_words}

-- ---- the language of differences

-- the empty word has no factor but itself
empty_factor : (s : List ℕ) → IsFactor [] s → s ≡ []
empty_factor s factor = inner factor.1.before s factor.1.after factor.1.whole
  where
    inner : (before s after : List ℕ) → [] ≡ before ++ s ++ after → s ≡ []
    inner [] [] after is = refl
    inner [] (x ∷ s) after is = absurd (cc is)
    inner (x ∷ before) s after is = absurd (cc is)

accepts_empty : (group : Group) (words : List (List ℕ)) → DifferenceAcceptor group words []
accepts_empty group words = record {
  letters = over_empty group.n;
  not_greater = λ s factor greater.
      let P : List ℕ → Type 0 = λ w. Below group.order greater.v w in
      nothing_below_empty (word_orders group.order) greater.v (subst P (empty_factor s factor) greater.less);
}

-- a factor of a prefix is one of the word
factor_longer : (front rest s : List ℕ) → IsFactor front s → IsFactor (front ++ rest) s
factor_longer front rest s factor =
    let at = factor.1 in
    let longer : front ++ rest ≡ at.before ++ s ++ (at.after ++ rest) = ap (λ w. w ++ rest) at.whole ∙ simp append_assoc in
    (factor.0, record { before = at.before; after = at.after ++ rest; whole = longer; at = at.at })

accepts_prefix : (group : Group) (words : List (List ℕ)) (front rest : List ℕ) → DifferenceAcceptor group words (front ++ rest)
    → DifferenceAcceptor group words front
accepts_prefix group words front rest accepts = record {
  letters = over_front group.n front rest accepts.letters;
  not_greater = λ s factor. accepts.not_greater s (factor_longer front rest s factor);
}

-- ---- the structure

-- the pair has a multiplier
has_multiplier : (found : Option Automaton) (u v : List ℕ) → IsTrue (accepts_pair found u v) → (multiplier : Automaton) × (found ≡ Some multiplier)
has_multiplier None u v accepted = absurd (true≢false (sym accepted))
has_multiplier (Some multiplier) u v accepted = (multiplier, refl)

module _ (presentation : Presentation) (rules : List Sides) (words : List (List ℕ)) (acceptor : Automaton)
    (multipliers : List Automaton) (made : AreMadeOf (group_of presentation rules) words acceptor multipliers) where
  abbrev group : Group
  group = group_of presentation rules

  -- they read words and pairs over the generators
  pub read_pairs : ReadPairs presentation.n multipliers
  read_pairs = record {
    one_each = made.multiply.one_each;
    pairs = multipliers_read presentation.n multipliers made.multiply.alphabets;
  }

  number : generators acceptor.alphabet ≡ presentation.n
  number = ap generators made.accepts.alphabet

  plain : acceptor.alphabet ≡ Plain (generators acceptor.alphabet)
  plain = made.accepts.alphabet ∙ ap Plain (sym number)

  is_multiplier : (x : ℕ) (multiplier : Automaton) → multiplier_of multipliers x ≡ Some multiplier
      → IsMultiplier group words acceptor x multiplier
  is_multiplier zero multiplier at = absurd (none-some multiplier at)
  is_multiplier (suc index) multiplier at = made.multiply.languages index multiplier at

  module _ (order : WordOrder) (relations : List Sides) where
    abbrev structure : Structure
    structure = structure_of order relations acceptor multipliers

    -- the words of a pair of the structure are multiplied
    multiplied : (x : ℕ) (u v : List ℕ) → Multiplies structure x u v → IsMultiplied group words acceptor x u v
    multiplied x u v multiplies =
        let has = has_multiplier (multiplier_of multipliers x) u v multiplies.accepted in
        let P : ℕ → Type 0 = λ n. IsOver n u in
        let Q : ℕ → Type 0 = λ n. IsOver n v in
        (is_multiplier x has.0 has.1 u v (subst P number multiplies.first_letters) (subst Q number multiplies.second_letters)).0
        (multiplied_pair order relations acceptor multipliers x has.0 has.1 u v multiplies)

    module _ (is : IsAutomaton acceptor) where
      means : (w : List ℕ) → Accepts structure w ↔ DifferenceAcceptor group words w
      means w =
          let accepted = accepts_word order relations acceptor multipliers plain is w in
          let language = made.accepts.language w in
          (λ accepts. language.0 (accepted.0 accepts), λ accepts. accepted.1 (language.1 accepts))

      pub no_prefix : (u : List ℕ) → ¬ PrefixNotAccepted structure u
      no_prefix u (empty_word same refused) =
          let P : List ℕ → Type 0 = λ w. Accepts structure w in
          refused (subst P (sym same) ((means []).1 (accepts_empty group words)))
      no_prefix u (prefix front rest whole accepts refused) =
          let P : List ℕ → Type 0 = λ w. DifferenceAcceptor group words w in
          refused ((means front).1 (accepts_prefix group words front rest (subst P whole ((means u).0 accepts))))

      pub no_outside : (x : ℕ) (u v : List ℕ) → ¬ PairOutsideAcceptor structure x u v
      no_outside x u v certificate =
          let pair = multiplied x u v certificate.multiplies in
          let language = made.accepts.language in
          elim certificate.outside [
            | inl one ↦ one ((means u).1 ((language u).0 pair.first))
            | inr two ↦ two ((means v).1 ((language v).0 pair.second))
          ]

  -- the multipliers relate only words that differ by their generators
  pub true_to_group : AreEqualSides (relations_of presentation.inv presentation.eqs) rules
      → IsTrueToGroup (structure_of presentation.order (relations_of presentation.inv presentation.eqs) acceptor multipliers)
  true_to_group equal_sides x u v generator multiplies =
      let has = has_multiplier (multiplier_of multipliers x) u v multiplies.accepted in
      let P : ℕ → Type 0 = λ n. IsOver n u in
      let Q : ℕ → Type 0 = λ n. IsOver n v in
      multiplied_words presentation rules words x has.0 equal_sides acceptor u v
      (subst P number multiplies.first_letters) (subst Q number multiplies.second_letters)
      (multiplied presentation.order (relations_of presentation.inv presentation.eqs) x u v multiplies)

  -- a first certificate against them is of one of the kinds that have an equality
  pub has_equality : IsAutomaton acceptor → (limit : ℕ) (cert : Cert)
      → IsFirstCertificate (checked_in presentation acceptor multipliers limit) cert → HasEquality cert
  has_equality is limit cert (n1 least) = no_prefix ShortLex [] is _ (least ShortLex []).holds
  has_equality is limit cert (n2 passes first) = no_outside ShortLex [] is _ _ _ (first ShortLex []).least.holds
  has_equality is limit cert (n4 passes first few) = tt
  has_equality is limit cert (n5 passes first) = tt
  has_equality is limit cert (n6 passes first) = tt
  has_equality is limit cert (n7 passes first) = tt
  has_equality is limit cert (n8 passes at) = tt

  -- where they pass they are the group's own
  pub own_structure_made : (limit : ℕ) → presentation.order ≡ ShortLex
      → AreEqualSides (relations_of presentation.inv presentation.eqs) rules
      → PassesRelations (checked_in presentation acceptor multipliers limit) → IsOwnStructure presentation limit acceptor multipliers
  own_structure_made limit shortlex equal_sides passes = record {
    words = made.accepts.alphabet;
    pairs = read_pairs;
    passes = passes;
    own = own presentation acceptor multipliers made.accepts.alphabet limit shortlex passes (true_to_group equal_sides);
    acceptor_is_canonical = made.accepts.canonical;
    multipliers_are_canonical = made.canonical;
  }
