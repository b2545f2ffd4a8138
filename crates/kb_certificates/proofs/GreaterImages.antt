-- Images that are greater than the word with the generator after it.
use Rattle.std.proofs.Common.{◌≡◌, ◌↔◌, ℕ, zero, suc, ◌+◌, ◌<◌, ◌≤◌, Bool, true, nat_eq, List, [], ◌∷◌, ◌++◌, length, Some, if◌then◌else◌, refl, sym, ap, ap₂, ◌∙◌, subst, inl, inr, arith, length-append}
use Rattle.std.proofs.lemmas.Bool.{and_from, and_parts, cases_lt, cases_order, eq-eqb, false≢true, le-ltb, lt-ltb, ne_eqb}
use Rattle.kb_word.specs.Words.{IsEarlier, Less, Pair as Sides}
use Rattle.kb_word.specs.Words.Less.{earlier, shorter}
use Rattle.kb_word.specs.Relations.{IsOver}
use Rattle.kb_word.specs.declared.word_order.WordOrder.TheVariants.{ShortLex}
use Rattle.kb_fsa.specs.Table.{Table, is_accepting, state_after, step}
use Rattle.kb_fsa.specs.PairSymbols.{pair_symbol}
use Rattle.kb_fsa.specs.Padding.{padded}
use Rattle.kb_fsa.specs.Language.{Automaton, generators}
use Rattle.kb_fsa.proofs.PairSymbolLaws.{first_letter-pair_symbol, second_letter-pair_symbol}
use Rattle.kb_leastpair.specs.LeastPair.{IsLeastPair}
use Rattle.kb_structure.specs.Structure.{Structure}
use Rattle.kb_structure.specs.StructureOf.{FitTogether, multiplier_of, structure_of}
use Rattle.kb_structure.specs.Certificates.{ImageNotLeast}
use Rattle.kb_structure.proofs.Letters.{over_first, over_later}
use Rattle.kb_structure.proofs.OfAutomata.{multiplied_pair, pair_multiplied}
use Rattle.kb_certificates.specs.Cascade.{followed}
use Rattle.kb_certificates.specs.declared.comparison.Comparison.{Comparison}
use Rattle.kb_certificates.specs.declared.comparison.Comparison.TheVariants.{Same, Earlier, Later, Reached, Lower}
use Rattle.kb_certificates.specs.Followers.{compared, comparing, is_lower, lengthened, outlasted}
use Rattle.kb_certificates.specs.LedPairs.{IsLedPair}
use Rattle.kb_certificates.proofs.Leasts.{least_pair_same, none_below}

-- a letter more at the front of both words
less_with : (a b : ℕ) (u v : List ℕ) → a ≡ b → Less u v → Less (a ∷ u) (b ∷ v)
less_with a b u v same (shorter less) = shorter (omega arith)
less_with a b u v same (earlier long before) = earlier (omega arith) (inr (same, before))

less_without : (a b : ℕ) (u v : List ℕ) → a ≡ b → Less (a ∷ u) (b ∷ v) → Less u v
less_without a b u v same (shorter less) = shorter (omega arith)
less_without a b u v same (earlier long (inl below)) = absurd (let no : ⊥ = omega arith in no)
less_without a b u v same (earlier long (inr both)) = earlier (omega arith) both.1

-- where the first letter is greater, only a shorter word is less
shorter_only : (a b : ℕ) (u v : List ℕ) → b ≤ a → ¬ ((a ≡ b) × IsEarlier u v) → Less (a ∷ u) (b ∷ v) → length u < length v
shorter_only a b u v low apart (shorter less) = omega arith
shorter_only a b u v low apart (earlier long (inl below)) = absurd (let no : ⊥ = omega arith in no)
shorter_only a b u v low apart (earlier long (inr both)) = absurd (apart both)

length_of_less : (u v : List ℕ) → Less u v → length u ≤ length v
length_of_less u v (shorter less) = omega arith
length_of_less u v (earlier long before) = omega arith

-- where the first letter is less, any word that is no longer is less
less_by_first : (a b : ℕ) (u v : List ℕ) → a < b → length u ≤ length v → Less (a ∷ u) (b ∷ v)
less_by_first a b u v below low = elim (cases_lt (length u) (length v)) [
  | inl less ↦ shorter (omega arith)
  | inr more ↦ earlier (omega arith) (inl below)
]

module _ (n x : ℕ) (multiplier : Table) where
  abbrev next : ℕ → Comparison → ℕ → Comparison
  next state comparison symbol = (comparing n x multiplier).next state comparison symbol

  symbol_compared : (state i j : ℕ) (comparison : Comparison) → 0 < i → (0 < j) × (j ≤ n + 1)
      → next state comparison (pair_symbol n i j) ≡ compared n x comparison i j
  symbol_compared state i j comparison positive second =
      ap₂ (compared n x comparison) (first_letter-pair_symbol n i j positive second) (second_letter-pair_symbol n i j second)

  next_ended : (state a : ℕ) (comparison : Comparison) → (0 < a) × (a ≤ n) → next state comparison (pair_symbol n a (n + 1)) ≡ Later
  next_ended state a comparison letter =
      let rest : Comparison = if nat_eq a (n + 1) then outlasted x comparison (n + 1) else lengthened comparison a (n + 1) in
      symbol_compared state a (n + 1) comparison letter.0 (omega arith, omega arith)
      ∙ ap (λ (b : Bool). if b then Later else rest) (eq-eqb (n + 1) (n + 1) refl)

  next_outlasted : (state b : ℕ) (comparison : Comparison) → (0 < b) × (b ≤ n) → next state comparison (pair_symbol n (n + 1) b) ≡ outlasted x comparison b
  next_outlasted state b comparison letter =
      let rest : Comparison = if nat_eq (n + 1) (n + 1) then outlasted x comparison b else lengthened comparison (n + 1) b in
      symbol_compared state (n + 1) b comparison (omega arith) (letter.0, omega (arith, letter.1))
      ∙ ap (λ (t : Bool). if t then Later else rest) (ne_eqb b (n + 1) (λ same. omega (arith, letter.1, same)))
      ∙ ap (λ (t : Bool). if t then outlasted x comparison b else lengthened comparison (n + 1) b) (eq-eqb (n + 1) (n + 1) refl)

  next_lengthened : (state a b : ℕ) (comparison : Comparison) → (0 < a) × (a ≤ n) → (0 < b) × (b ≤ n)
      → next state comparison (pair_symbol n a b) ≡ lengthened comparison a b
  next_lengthened state a b comparison first letter =
      let rest : Comparison = if nat_eq a (n + 1) then outlasted x comparison b else lengthened comparison a b in
      symbol_compared state a b comparison first.0 (letter.0, omega (arith, letter.1))
      ∙ ap (λ (t : Bool). if t then Later else rest) (ne_eqb b (n + 1) (λ same. omega (arith, letter.1, same)))
      ∙ ap (λ (t : Bool). if t then outlasted x comparison b else lengthened comparison a b) (ne_eqb a (n + 1) (λ same. omega (arith, first.1, same)))

  -- from the state and the comparison a text ends in a comparison as lower
  abbrev IsLower : ℕ → Comparison → List ℕ → Type 0
  IsLower state comparison text = is_lower (followed multiplier (comparing n x multiplier) state comparison text) ≡ true

  -- after a symbol that leads to another comparison
  module _ (state symbol : ℕ) (text : List ℕ) (comparison to : Comparison) (leads : next state comparison symbol ≡ to) (Fact : Type 0) where
    by_next : (IsLower (step multiplier state symbol) to text ↔ Fact) → (IsLower state comparison (symbol ∷ text) ↔ Fact)
    by_next means =
        let P : Comparison → Type 0 = λ c. IsLower (step multiplier state symbol) c text in
        (λ lower. means.0 (subst P leads lower), λ fact. subst P (sym leads) (means.1 fact))

  lower_stays : (state : ℕ) (v : List ℕ) → IsOver n v → IsLower state Lower (padded n [] v)
  lower_stays state [] also = refl
  lower_stays state (b ∷ v) also =
      let P : Comparison → Type 0 = λ c. IsLower (step multiplier state (pair_symbol n (n + 1) b)) c (padded n [] v) in
      subst P (sym (next_outlasted state b Lower (over_first n b v also)))
      (lower_stays (step multiplier state (pair_symbol n (n + 1) b)) v (over_later n b v also))

  always_lower : (state : ℕ) (v : List ℕ) (Fact : Type 0) → IsOver n v → Fact → IsLower state Lower (padded n [] v) ↔ Fact
  always_lower state v Fact also fact = (λ lower. fact, λ yes. lower_stays state v also)

  reached_run : (state : ℕ) (v : List ℕ) → IsOver n v → IsLower state Reached (padded n [] v) ↔ (0 < length v)
  reached_run state [] also = (λ lower. absurd (false≢true lower), λ less. absurd (let no : ⊥ = omega arith in no))
  reached_run state (b ∷ v) also =
      by_next state (pair_symbol n (n + 1) b) (padded n [] v) Reached Lower (next_outlasted state b Reached (over_first n b v also)) (0 < length (b ∷ v))
      (always_lower (step multiplier state (pair_symbol n (n + 1) b)) v (0 < length (b ∷ v)) (over_later n b v also) (omega arith))

  later_run : (state : ℕ) (u v : List ℕ) → IsOver n u → IsOver n v → IsLower state Later (padded n u v) ↔ (suc (length u) < length v)
  later_run state [] [] over also = (λ lower. absurd (false≢true lower), λ less. absurd (let no : ⊥ = omega arith in no))
  later_run state (a ∷ u) [] over also =
      let rest = later_run (step multiplier state (pair_symbol n a (n + 1))) u [] (over_later n a u over) also in
      by_next state (pair_symbol n a (n + 1)) (padded n u []) Later Later (next_ended state a Later (over_first n a u over)) (suc (length (a ∷ u)) < 0)
      (λ lower. absurd (let less = rest.0 lower in let no : ⊥ = omega arith in no), λ less. absurd (let no : ⊥ = omega arith in no))
  later_run state [] (b ∷ v) over also =
      let rest = reached_run (step multiplier state (pair_symbol n (n + 1) b)) v (over_later n b v also) in
      by_next state (pair_symbol n (n + 1) b) (padded n [] v) Later Reached (next_outlasted state b Later (over_first n b v also)) (suc zero < length (b ∷ v))
      (λ lower. (let less = rest.0 lower in omega arith), λ less. rest.1 (omega arith))
  later_run state (a ∷ u) (b ∷ v) over also =
      let rest = later_run (step multiplier state (pair_symbol n a b)) u v (over_later n a u over) (over_later n b v also) in
      by_next state (pair_symbol n a b) (padded n u v) Later Later (next_lengthened state a b Later (over_first n a u over) (over_first n b v also))
      (suc (length (a ∷ u)) < length (b ∷ v)) (λ lower. (let less = rest.0 lower in omega arith), λ less. rest.1 (omega arith))

  earlier_run : (state : ℕ) (u v : List ℕ) → IsOver n u → IsOver n v → IsLower state Earlier (padded n u v) ↔ (length u < length v)
  earlier_run state [] [] over also = (λ lower. absurd (false≢true lower), λ less. absurd (let no : ⊥ = omega arith in no))
  earlier_run state (a ∷ u) [] over also =
      let rest = later_run (step multiplier state (pair_symbol n a (n + 1))) u [] (over_later n a u over) also in
      by_next state (pair_symbol n a (n + 1)) (padded n u []) Earlier Later (next_ended state a Earlier (over_first n a u over)) (length (a ∷ u) < 0)
      (λ lower. absurd (let less = rest.0 lower in let no : ⊥ = omega arith in no), λ less. absurd (let no : ⊥ = omega arith in no))
  earlier_run state [] (b ∷ v) over also =
      by_next state (pair_symbol n (n + 1) b) (padded n [] v) Earlier Lower (next_outlasted state b Earlier (over_first n b v also)) (0 < length (b ∷ v))
      (always_lower (step multiplier state (pair_symbol n (n + 1) b)) v (0 < length (b ∷ v)) (over_later n b v also) (omega arith))
  earlier_run state (a ∷ u) (b ∷ v) over also =
      let rest = earlier_run (step multiplier state (pair_symbol n a b)) u v (over_later n a u over) (over_later n b v also) in
      by_next state (pair_symbol n a b) (padded n u v) Earlier Earlier (next_lengthened state a b Earlier (over_first n a u over) (over_first n b v also))
      (length (a ∷ u) < length (b ∷ v)) (λ lower. (let less = rest.0 lower in omega arith), λ less. rest.1 (omega arith))

  same_run : (state : ℕ) (u v : List ℕ) → IsOver n u → IsOver n v → IsLower state Same (padded n u v) ↔ Less (u ++ x ∷ []) v
  same_run state [] [] over also = (λ lower. absurd (false≢true lower), λ less. absurd (none_below (x ∷ []) less))
  same_run state (a ∷ u) [] over also =
      let rest = later_run (step multiplier state (pair_symbol n a (n + 1))) u [] (over_later n a u over) also in
      by_next state (pair_symbol n a (n + 1)) (padded n u []) Same Later (next_ended state a Same (over_first n a u over)) (Less (a ∷ u ++ x ∷ []) [])
      (λ lower. absurd (let less = rest.0 lower in let no : ⊥ = omega arith in no), λ less. absurd (none_below (a ∷ u ++ x ∷ []) less))
  same_run state [] (b ∷ v) over also =
      let symbol = pair_symbol n (n + 1) b in
      let letter = over_first n b v also in
      let later = over_later n b v also in
      elim (cases_lt x b) [
        | inl below ↦
            by_next state symbol (padded n [] v) Same Lower
            (next_outlasted state b Same letter ∙ ap (λ (t : Bool). if t then Lower else Reached) (lt-ltb x b below)) (Less (x ∷ []) (b ∷ v))
            (always_lower (step multiplier state symbol) v (Less (x ∷ []) (b ∷ v)) later (less_by_first x b [] v below (omega arith)))
        | inr low ↦
            let rest = reached_run (step multiplier state symbol) v later in
            by_next state symbol (padded n [] v) Same Reached
            (next_outlasted state b Same letter ∙ ap (λ (t : Bool). if t then Lower else Reached) (le-ltb x b low)) (Less (x ∷ []) (b ∷ v))
            (λ lower. (let less = rest.0 lower in shorter (omega arith)), λ less. rest.1 (shorter_only x b [] v low (λ both. both.1) less))
      ]
  same_run state (a ∷ u) (b ∷ v) over also =
      let symbol = pair_symbol n a b in
      let to = step multiplier state symbol in
      let first = over_later n a u over in
      let second = over_later n b v also in
      let long = length-append u (x ∷ []) in
      let on = next_lengthened state a b Same (over_first n a u over) (over_first n b v also) in
      let Fact : Type 0 = Less (a ∷ u ++ x ∷ []) (b ∷ v) in
      let other : Comparison = if nat_eq a b then Same else Later in
      elim (cases_order a b) [
        | inl same ↦
            let rest = same_run to u v first second in
            by_next state symbol (padded n u v) Same Same
            (on ∙ ap (λ (t : Bool). if t then Earlier else other) (le-ltb a b (omega arith)) ∙ ap (λ (t : Bool). if t then Same else Later) (eq-eqb a b same)) Fact
            (λ lower. less_with a b (u ++ x ∷ []) v same (rest.0 lower), λ less. rest.1 (less_without a b (u ++ x ∷ []) v same less))
        | inr apart ↦ elim apart [
          | inl below ↦
              let rest = earlier_run to u v first second in
              by_next state symbol (padded n u v) Same Earlier
              (on ∙ ap (λ (t : Bool). if t then Earlier else other) (lt-ltb a b below)) Fact (
                λ lower. (let less = rest.0 lower in less_by_first a b (u ++ x ∷ []) v below (omega arith)),
                λ less. rest.1 (let low = length_of_less (a ∷ u ++ x ∷ []) (b ∷ v) less in omega arith),
              )
          | inr above ↦
              let rest = later_run to u v first second in
              by_next state symbol (padded n u v) Same Later
              (on ∙ ap (λ (t : Bool). if t then Earlier else other) (le-ltb a b (omega arith)) ∙ ap (λ (t : Bool). if t then Same else Later) (ne_eqb a b (λ same. omega arith))) Fact (
                λ lower. (let less = rest.0 lower in shorter (omega arith)),
                λ less. rest.1 (let low = shorter_only a b (u ++ x ∷ []) v (omega arith) (λ both. omega (arith, both.0)) less in omega arith),
              )
        ]
      ]

module _ (relations : List Sides) (acceptor : Automaton) (multipliers : List Automaton)
    (fit : FitTogether acceptor multipliers) (x : ℕ) (multiplier : Automaton)
    (at : multiplier_of multipliers x ≡ Some multiplier) where
  abbrev k : ℕ
  k = generators multiplier.alphabet

  abbrev structure : Structure
  structure = structure_of ShortLex relations acceptor multipliers

  same_generators : k ≡ generators acceptor.alphabet
  same_generators = ap generators (fit.pairs x multiplier at)

  abbrev Led : List ℕ → List ℕ → Type 0
  Led u v = IsLedPair multiplier (comparing k x multiplier.table) u v

  abbrev accepts : List ℕ → List ℕ → Bool
  accepts u v = is_accepting multiplier.table (state_after multiplier.table (padded k u v))

  abbrev lower : List ℕ → List ℕ → Bool
  lower u v = is_lower (followed multiplier.table (comparing k x multiplier.table) multiplier.table.initial Same (padded k u v))

  pub led_greater : (0 < x) × (x ≤ generators acceptor.alphabet) → (u v : List ℕ) → Led u v ↔ ImageNotLeast structure x u v
  led_greater letter u v = (forth, back)
    where
      forth : Led u v → ImageNotLeast structure x u v
      forth led =
          let P : ℕ → Type 0 = λ n. IsOver n u in
          let Q : ℕ → Type 0 = λ n. IsOver n v in
          let over = led.first_over in let also = led.second_over in
          let both = and_parts (accepts u v) (lower u v) led.led in record {
            generator = letter;
            multiplies = pair_multiplied ShortLex relations acceptor multipliers x multiplier at u v (subst P same_generators over) (subst Q same_generators also) both.0;
            greater = (same_run k x multiplier.table multiplier.table.initial u v over also).0 both.1;
          }

      back : ImageNotLeast structure x u v → Led u v
      back certificate =
          let P : ℕ → Type 0 = λ n. IsOver n u in
          let Q : ℕ → Type 0 = λ n. IsOver n v in
          let multiplies = certificate.multiplies in
          let over = subst P (sym same_generators) multiplies.first_letters in
          let also = subst Q (sym same_generators) multiplies.second_letters in record {
            first_over = over;
            second_over = also;
            led = and_from (accepts u v) (lower u v) (multiplied_pair ShortLex relations acceptor multipliers x multiplier at u v multiplies)
                ((same_run k x multiplier.table multiplier.table.initial u v over also).1 certificate.greater);
          }

  -- the follower over as many letters as the multiplier has
  module _ (m : ℕ) (is_n : m ≡ k) where
    abbrev LedBy : List ℕ → List ℕ → Type 0
    LedBy u v = IsLedPair multiplier (comparing m x multiplier.table) u v

    led_by_greater : (0 < x) × (x ≤ generators acceptor.alphabet) → (u v : List ℕ) → LedBy u v ↔ ImageNotLeast structure x u v
    led_by_greater letter u v =
        let P : ℕ → Type 0 = λ n. IsLedPair multiplier (comparing n x multiplier.table) u v ↔ ImageNotLeast structure x u v in
        subst P (sym is_n) (led_greater letter u v)

    pub least_greater : (0 < x) × (x ≤ generators acceptor.alphabet) → (u v : List ℕ) → IsLeastPair LedBy u v
        → IsLeastPair (ImageNotLeast structure x) u v
    least_greater letter = least_pair_same LedBy (ImageNotLeast structure x) (led_by_greater letter)

    pub none_greater : ((u v : List ℕ) → ¬ LedBy u v) → (u v : List ℕ) → ¬ ImageNotLeast structure x u v
    none_greater none u v certificate = none u v ((led_by_greater certificate.generator u v).1 certificate)
