-- Pairs of a multiplier with a word that isn't accepted.
use Rattle.std.proofs.Common.{◌≡◌, ◌↔◌, ◌⊎◌, ℕ, ◌+◌, ◌<◌, ◌≤◌, Bool, true, not, ◌&&◌, IsTrue, List, [], ◌∷◌, Some, if◌then◌else◌, refl, sym, ap, ap₂, ◌∙◌, subst, inl, inr, arith}
use Rattle.std.proofs.lemmas.Bool.{and_from, and_left, and_parts, and_right, cases_Bool, eq-eqb, false_from_ne_true, ne_eqb, not-true, not_from_false, true≢false}
use Rattle.kb_word.specs.Words.{Pair as Sides}
use Rattle.kb_word.specs.Relations.{IsOver}
use Rattle.kb_word.specs.declared.word_order.WordOrder.{WordOrder}
use Rattle.kb_fsa.specs.Table.{Table, after, is_accepting, state_after, step}
use Rattle.kb_fsa.specs.PairSymbols.{pair_symbol}
use Rattle.kb_fsa.specs.Padding.{padded}
use Rattle.kb_fsa.specs.Language.{Automaton, IsAutomaton, AcceptsText, generators}
use Rattle.kb_fsa.proofs.PairSymbolLaws.{first_letter-pair_symbol, second_letter-pair_symbol}
use Rattle.kb_leastpair.specs.LeastPair.{IsLeastPair}
use Rattle.kb_structure.specs.Structure.{Structure, Accepts}
use Rattle.kb_structure.specs.StructureOf.{FitTogether, multiplier_of, structure_of}
use Rattle.kb_structure.specs.Certificates.{PairOutsideAcceptor}
use Rattle.kb_structure.proofs.Letters.{over_first, over_later}
use Rattle.kb_structure.proofs.OfAutomata.{accepts_word, multiplied_pair, pair_multiplied}
use Rattle.kb_certificates.specs.Cascade.{followed}
use Rattle.kb_certificates.specs.declared.word_states.WordStates.{WordStates}
use Rattle.kb_certificates.specs.Followers.{after_letter, word_states}
use Rattle.kb_certificates.specs.LedPairs.{IsLedPair}
use Rattle.kb_certificates.proofs.Leasts.{least_pair_same}

module _ (n : ℕ) (multiplier acceptor : Table) where
  read_letter : (q a : ℕ) → (0 < a) × (a ≤ n) → after_letter n acceptor q a ≡ step acceptor q a
  read_letter q a letter = ap (λ (b : Bool). if b then q else step acceptor q a) (ne_eqb a (n + 1) (λ same. omega (arith, letter.1, same)))

  read_padding : (q : ℕ) → after_letter n acceptor q (n + 1) ≡ q
  read_padding q = ap (λ (b : Bool). if b then q else step acceptor q (n + 1)) (eq-eqb (n + 1) (n + 1) refl)

  read_symbol : (state q r i j to other : ℕ) → 0 < i → (0 < j) × (j ≤ n + 1) → after_letter n acceptor q i ≡ to → after_letter n acceptor r j ≡ other
      → (word_states n multiplier acceptor).next state (record { first = q; second = r }) (pair_symbol n i j) ≡ record { first = to; second = other }
  read_symbol state q r i j to other positive second one two =
      let make : ℕ → ℕ → WordStates = λ p s. record { first = p; second = s } in
      ap₂ make (ap (after_letter n acceptor q) (first_letter-pair_symbol n i j positive second) ∙ one)
      (ap (after_letter n acceptor r) (second_letter-pair_symbol n i j second) ∙ two)

  abbrev run : ℕ → ℕ → ℕ → List ℕ → WordStates
  run state q r text = followed multiplier (word_states n multiplier acceptor) state (record { first = q; second = r }) text

  -- along a pair the follower goes along both words
  words_run : (state q r : ℕ) (u v : List ℕ) → IsOver n u → IsOver n v
      → run state q r (padded n u v) ≡ record { first = after acceptor q u; second = after acceptor r v }
  words_run state q r [] [] over also = refl
  words_run state q r (a ∷ u) [] over also =
      let letter = over_first n a u over in
      let symbol = pair_symbol n a (n + 1) in
      ap (λ (words : WordStates). followed multiplier (word_states n multiplier acceptor) (step multiplier state symbol) words (padded n u []))
      (read_symbol state q r a (n + 1) (step acceptor q a) r letter.0 (omega arith, omega arith) (read_letter q a letter) (read_padding r))
      ∙ words_run (step multiplier state symbol) (step acceptor q a) r u [] (over_later n a u over) also
  words_run state q r [] (b ∷ v) over also =
      let letter = over_first n b v also in
      let symbol = pair_symbol n (n + 1) b in
      ap (λ (words : WordStates). followed multiplier (word_states n multiplier acceptor) (step multiplier state symbol) words (padded n [] v))
      (read_symbol state q r (n + 1) b q (step acceptor r b) (omega arith) (letter.0, omega (arith, letter.1)) (read_padding q) (read_letter r b letter))
      ∙ words_run (step multiplier state symbol) q (step acceptor r b) [] v over (over_later n b v also)
  words_run state q r (a ∷ u) (b ∷ v) over also =
      let first = over_first n a u over in
      let letter = over_first n b v also in
      let symbol = pair_symbol n a b in
      ap (λ (words : WordStates). followed multiplier (word_states n multiplier acceptor) (step multiplier state symbol) words (padded n u v))
      (read_symbol state q r a b (step acceptor q a) (step acceptor r b) first.0 (letter.0, omega (arith, letter.1)) (read_letter q a first) (read_letter r b letter))
      ∙ words_run (step multiplier state symbol) (step acceptor q a) (step acceptor r b) u v (over_later n a u over) (over_later n b v also)

-- not both
neither : (a b : Bool) → not (a && b) ≡ true → ¬ IsTrue a ⊎ ¬ IsTrue b
neither a b refused = elim (cases_Bool a) [
  | inl one ↦ inr (λ two. true≢false (sym (and_from a b one two) ∙ not-true (a && b) refused))
  | inr none ↦ inl (λ one. true≢false (sym one ∙ none))
]

not_both : (a b : Bool) → ¬ IsTrue a ⊎ ¬ IsTrue b → not (a && b) ≡ true
not_both a b (inl one) = not_from_false (a && b) (and_left a b (false_from_ne_true a one))
not_both a b (inr two) = not_from_false (a && b) (and_right a b (false_from_ne_true b two))

module _ (order : WordOrder) (relations : List Sides) (acceptor : Automaton) (multipliers : List Automaton)
    (fit : FitTogether acceptor multipliers) (is : IsAutomaton acceptor) (x : ℕ) (multiplier : Automaton)
    (at : multiplier_of multipliers x ≡ Some multiplier) where
  abbrev n : ℕ
  n = generators multiplier.alphabet

  abbrev structure : Structure
  structure = structure_of order relations acceptor multipliers

  abbrev means : (w : List ℕ) → Accepts structure w ↔ AcceptsText acceptor w
  means w = accepts_word order relations acceptor multipliers fit.words is w

  same_generators : n ≡ generators acceptor.alphabet
  same_generators = ap generators (fit.pairs x multiplier at)

  abbrev Led : List ℕ → List ℕ → Type 0
  Led u v = IsLedPair multiplier (word_states n multiplier.table acceptor.table) u v

  abbrev words : List ℕ → List ℕ → WordStates
  words u v = run n multiplier.table acceptor.table multiplier.table.initial acceptor.table.initial acceptor.table.initial (padded n u v)

  words_are : (u v : List ℕ) → IsOver n u → IsOver n v
      → words u v ≡ record { first = state_after acceptor.table u; second = state_after acceptor.table v }
  words_are u v over also =
      words_run n multiplier.table acceptor.table multiplier.table.initial acceptor.table.initial acceptor.table.initial u v over also

  abbrev first_accepted : List ℕ → List ℕ → Bool
  first_accepted u v = is_accepting acceptor.table (words u v).first

  abbrev second_accepted : List ℕ → List ℕ → Bool
  second_accepted u v = is_accepting acceptor.table (words u v).second

  first_is : (u v : List ℕ) → IsOver n u → IsOver n v → first_accepted u v ≡ is_accepting acceptor.table (state_after acceptor.table u)
  first_is u v over also = ap (λ (both : WordStates). is_accepting acceptor.table both.first) (words_are u v over also)

  second_is : (u v : List ℕ) → IsOver n u → IsOver n v → second_accepted u v ≡ is_accepting acceptor.table (state_after acceptor.table v)
  second_is u v over also = ap (λ (both : WordStates). is_accepting acceptor.table both.second) (words_are u v over also)

  pub led_outside : (0 < x) × (x ≤ generators acceptor.alphabet) → (u v : List ℕ) → Led u v ↔ PairOutsideAcceptor structure x u v
  led_outside letter u v = (forth, back)
    where
      forth : Led u v → PairOutsideAcceptor structure x u v
      forth led =
          let P : ℕ → Type 0 = λ k. IsOver k u in
          let Q : ℕ → Type 0 = λ k. IsOver k v in
          let over = led.first_over in let also = led.second_over in
          let both = and_parts (is_accepting multiplier.table (state_after multiplier.table (padded n u v))) (not (first_accepted u v && second_accepted u v)) led.led in record {
            generator = letter;
            multiplies = pair_multiplied order relations acceptor multipliers x multiplier at u v (subst P same_generators over) (subst Q same_generators also) both.0;
            outside = elim (neither (first_accepted u v) (second_accepted u v) both.1) [
              | inl one ↦ inl (λ accepts. one (first_is u v over also ∙ (means u).0 accepts))
              | inr two ↦ inr (λ accepts. two (second_is u v over also ∙ (means v).0 accepts))
            ];
          }

      back : PairOutsideAcceptor structure x u v → Led u v
      back certificate =
          let P : ℕ → Type 0 = λ k. IsOver k u in
          let Q : ℕ → Type 0 = λ k. IsOver k v in
          let multiplies = certificate.multiplies in
          let over = subst P (sym same_generators) multiplies.first_letters in
          let also = subst Q (sym same_generators) multiplies.second_letters in
          let outside : ¬ IsTrue (first_accepted u v) ⊎ ¬ IsTrue (second_accepted u v) = elim certificate.outside [
            | inl one ↦ inl (λ yes. one ((means u).1 (sym (first_is u v over also) ∙ yes)))
            | inr two ↦ inr (λ yes. two ((means v).1 (sym (second_is u v over also) ∙ yes)))
          ] in record {
            first_over = over;
            second_over = also;
            led = and_from (is_accepting multiplier.table (state_after multiplier.table (padded n u v))) (not (first_accepted u v && second_accepted u v))
                (multiplied_pair order relations acceptor multipliers x multiplier at u v multiplies)
                (not_both (first_accepted u v) (second_accepted u v) outside);
          }

  -- the follower over as many letters as the multiplier has
  module _ (m : ℕ) (is_n : m ≡ n) where
    abbrev LedBy : List ℕ → List ℕ → Type 0
    LedBy u v = IsLedPair multiplier (word_states m multiplier.table acceptor.table) u v

    led_by_outside : (0 < x) × (x ≤ generators acceptor.alphabet) → (u v : List ℕ) → LedBy u v ↔ PairOutsideAcceptor structure x u v
    led_by_outside letter u v =
        let P : ℕ → Type 0 = λ k. IsLedPair multiplier (word_states k multiplier.table acceptor.table) u v ↔ PairOutsideAcceptor structure x u v in
        subst P (sym is_n) (led_outside letter u v)

    pub least_outside : (0 < x) × (x ≤ generators acceptor.alphabet) → (u v : List ℕ) → IsLeastPair LedBy u v
        → IsLeastPair (PairOutsideAcceptor structure x) u v
    least_outside letter = least_pair_same LedBy (PairOutsideAcceptor structure x) (led_by_outside letter)

    pub none_outside : ((u v : List ℕ) → ¬ LedBy u v) → (u v : List ℕ) → ¬ PairOutsideAcceptor structure x u v
    none_outside none u v certificate = none u v ((led_by_outside certificate.generator u v).1 certificate)
