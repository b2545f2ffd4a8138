-- The second words that the machine accepts.
use Rattle.std.proofs.Common.{◌≡◌, ◌↔◌, ℕ, zero, suc, ◌+◌, ◌<◌, ◌≤◌, min, not, ◌&&◌, Bool, true, false, nat_eq, List, [], ◌∷◌, ◌++◌, length, get_or, drop, drop-cons, Option, Some, None, option_map, if◌then◌else◌, refl, sym, ap, ◌∙◌, subst, inl, inr, arith, append_assoc}
use Rattle.std.specs.Cmp.Lexicographic.{pointwise}
use Rattle.std.proofs.lemmas.Bool.{cases_Bool, cases_lt, false≢true, true≢false}
use Rattle.std.proofs.lemmas.List.{drop_all, get_or_past, append-nil}
use Rattle.std.proofs.lemmas.List.Elements.{All-nil, All-cons, All-head, All-tail}
use Rattle.std.proofs.lemmas.Option.{none-some, same_Some}
use Rattle.kb_word.specs.Comparison.{pointwise_from_same, same_from_pointwise}
use Rattle.kb_word.specs.Words.{Pair, OneOf}
use Rattle.kb_word.specs.Rewriting.{IsIrreducible, NormalForm}
use Rattle.kb_rules.proofs.Unique.{normal_form_unique, normal_form_of_irreducible, irreducible_is_normal}
use Rattle.kb_fsa.specs.declared.alphabet.Alphabet.TheVariants.{Plain}
use Rattle.kb_fsa.specs.Table.{IsLive, after, is_accepting, step}
use Rattle.kb_fsa.specs.PairSymbols.{pair_symbol}
use Rattle.kb_fsa.specs.Padding.{padded}
use Rattle.kb_fsa.specs.EndedWords.{is_symbol}
use Rattle.kb_fsa.specs.Graphs.{IsMarked}
use Rattle.kb_explore.specs.Machine.{Machine, MachineAccepts, lead}
use Rattle.kb_diff.proofs.Reading.{normal_form_then}
use Rattle.kb_labels.specs.declared.reading.Reading.{Reading}
use Rattle.kb_labels.specs.Seconds.{Beside, ends, read_on, reading_at, second_words}
use Rattle.kb_labels.specs.Unequal.{IsOther}
use Rattle.kb_labels.proofs.MarkedMoves.{is_marked, not_marked}
use Rattle.kb_labels.proofs.SecondMoves.{letter_above, letter_true, letter_zero}

-- the first symbol of a pair's text, from a place of the first word on
padded_from : (n : ℕ) (first : List ℕ) (place letter : ℕ) (second : List ℕ)
    → padded n (drop place first) (letter ∷ second)
    ≡ pair_symbol n (get_or first place (n + 1)) letter ∷ padded n (drop (min (place + 1) (length first)) first) second
padded_from n first place letter second = elim (cases_lt place (length first)) [
  | inl within ↦
      let next : min (place + 1) (length first) ≡ suc place = omega arith in
      ap (λ u. padded n u (letter ∷ second)) (drop-cons first place (n + 1) within)
      ∙ ap (λ p. pair_symbol n (get_or first place (n + 1)) letter ∷ padded n (drop p first) second) (sym next)
  | inr past ↦
      let end : min (place + 1) (length first) ≡ length first = omega arith in
      ap (λ u. padded n u (letter ∷ second)) (drop_all place first past)
      ∙ ap (λ x. pair_symbol n x letter ∷ padded n [] second) (sym (get_or_past first place (n + 1) past))
      ∙ ap (λ u. pair_symbol n (get_or first place (n + 1)) letter ∷ padded n u second)
      (sym (ap (λ p. drop p first) end ∙ drop_all (length first) first (omega arith)))
]

-- a number is that of a letter where the test says so
letter_is : (n letter : ℕ) → is_symbol (Plain n) letter ≡ true → (0 < letter) × (letter ≤ n)
letter_is n zero is = absurd (false≢true (sym (letter_zero n) ∙ is))
letter_is n (suc x) is = elim (cases_lt n (suc x)) [
  | inl above ↦ absurd (false≢true (sym (letter_above n (suc x) above) ∙ is))
  | inr within ↦ (omega arith, within)
]

both_true : (b c : Bool) → (b && c) ≡ true → (b ≡ true) × (c ≡ true)
both_true true c is = (refl, is)
both_true false c is = absurd (false≢true is)

true_both : (b c : Bool) → b ≡ true → c ≡ true → (b && c) ≡ true
true_both true c one two = two
true_both false c one two = absurd (false≢true one)

not_true : (b : Bool) → not b ≡ true → b ≡ false
not_true true is = absurd (false≢true is)
not_true false is = refl

true_not : (b : Bool) → b ≡ false → not b ≡ true
true_not true is = absurd (true≢false is)
true_not false is = refl

module _ (beside : Beside) (rules : List Pair) (normal : (w : List ℕ) → NormalForm rules w (beside.normal w))
    (live : (state : ℕ) → IsMarked beside.marks state ↔ IsLive beside.table state) where
  abbrev machine : Machine Reading
  machine = second_words beside

  -- from what is given the word leads to a reading that accepts
  abbrev Ends : Option Reading → List ℕ → Type 0
  Ends from second = (reading : Reading) × ((lead machine from second ≡ Some reading) × (machine.accepts reading ≡ true))

  abbrev Other : ℕ → ℕ → List ℕ → List ℕ → Type 0
  Other place state word second = IsOther beside.n rules beside.table state (drop place beside.first) word beside.target second

  nowhere : (second : List ℕ) → ¬ Ends None second
  nowhere second reached = none-some reached.0 reached.1.0

  read_there : (place : ℕ) (word : List ℕ) (state : ℕ) → get_or beside.marks state false ≡ true
      → reading_at beside place word state ≡ Some (record { place = place; state = state; word = word })
  read_there place word state mark = ap (option_map (λ s. record { place = place; state = s; word = word })) (is_marked beside.marks state mark)

  read_nowhere : (place : ℕ) (word : List ℕ) (state : ℕ) → get_or beside.marks state false ≡ false → reading_at beside place word state ≡ None
  read_nowhere place word state mark = ap (option_map (λ s. record { place = place; state = s; word = word })) (not_marked beside.marks state mark)

  -- the word with a letter more
  longer_normal : (word : List ℕ) (letter : ℕ) (second m : List ℕ) → NormalForm rules (beside.normal (word ++ letter ∷ []) ++ second) m
      → NormalForm rules (word ++ letter ∷ second) m
  longer_normal word letter second m rest =
      let P : List ℕ → Type 0 = λ w. NormalForm rules w m in
      subst P (append_assoc word (letter ∷ []) second)
      (normal_form_then rules (word ++ letter ∷ []) (beside.normal (word ++ letter ∷ [])) second m (normal (word ++ letter ∷ [])) rest)

  other_of_end : (second : List ℕ) (place state : ℕ) (word : List ℕ) → IsIrreducible (OneOf rules) word
      → get_or beside.marks state false ≡ true → Ends (Some (record { place = place; state = state; word = word })) second
      → Other place state word second
  other_of_end [] place state word irreducible mark reached =
      let here : Reading = record { place = place; state = state; word = word } in
      let P : Reading → Type 0 = λ reading. (ends beside reading && not (pointwise nat_eq reading.word beside.target)) ≡ true in
      let accepts = subst P (sym (same_Some here reached.0 reached.1.0)) reached.1.1 in
      let both = both_true (ends beside here) (not (pointwise nat_eq word beside.target)) accepts in
      let Q : List ℕ → Type 0 = λ w. NormalForm rules w word in
      record {
        over = All-nil (λ x. (0 < x) × (x ≤ beside.n));
        accepted = both.0;
        normal = word;
        is_normal = subst Q (sym (append-nil word)) (irreducible_is_normal rules word irreducible);
        different = λ same. true≢false (sym (pointwise_from_same word beside.target same)
            ∙ not_true (pointwise nat_eq word beside.target) both.1);
      }
  other_of_end (letter ∷ second) place state word irreducible mark reached = elim (cases_Bool (is_symbol (Plain beside.n) letter)) [
    | inl letter_yes ↦
        let here : Reading = record { place = place; state = state; word = word } in
        let next = min (place + 1) (length beside.first) in
        let to = step beside.table state (pair_symbol beside.n (get_or beside.first place (beside.n + 1)) letter) in
        let word' : List ℕ = beside.normal (word ++ letter ∷ []) in
        let P : Bool → Type 0 = λ b. Ends (if b then read_on beside here letter else None) second in
        let goes : Ends (reading_at beside next word' to) second = subst P letter_yes reached in
        let Q : Option Reading → Type 0 = λ o. Ends o second in
        elim (cases_Bool (get_or beside.marks to false)) [
          | inl some ↦
              let rest = other_of_end second next to word' (normal (word ++ letter ∷ [])).irreducible some (subst Q (read_there next word' to some) goes) in
              record {
                over = All-cons (λ x. (0 < x) × (x ≤ beside.n)) letter second (letter_is beside.n letter letter_yes) rest.over;
                accepted = ap (λ text. is_accepting beside.table (after beside.table state text))
                    (padded_from beside.n beside.first place letter second)
                    ∙ rest.accepted;
                normal = rest.normal;
                is_normal = longer_normal word letter second rest.normal rest.is_normal;
                different = rest.different;
              }
          | inr none ↦ absurd (nowhere second (subst Q (read_nowhere next word' to none) goes))
        ]
    | inr letter_no ↦
        let here : Reading = record { place = place; state = state; word = word } in
        let P : Bool → Type 0 = λ b. Ends (if b then read_on beside here letter else None) second in
        absurd (nowhere second (subst P letter_no reached))
  ]

  end_of_other : (second : List ℕ) (place state : ℕ) (word : List ℕ) → IsIrreducible (OneOf rules) word
      → Other place state word second → Ends (reading_at beside place word state) second
  end_of_other [] place state word irreducible other =
      let here : Reading = record { place = place; state = state; word = word } in
      let mark = (live state).1 (padded beside.n (drop place beside.first) [], other.accepted) in
      let Q : Option Reading → Type 0 = λ o. Ends o [] in
      let N : List ℕ → Type 0 = λ w. NormalForm rules w other.normal in
      let same : other.normal ≡ word = normal_form_of_irreducible irreducible (subst N (append-nil word) other.is_normal) in
      let differ : pointwise nat_eq word beside.target ≡ false = elim (cases_Bool (pointwise nat_eq word beside.target)) [
        | inl alike ↦ absurd (other.different (same ∙ same_from_pointwise word beside.target alike))
        | inr apart ↦ apart
      ] in
      subst Q (sym (read_there place word state mark)) (
        here,
        (
          refl,
          true_both (ends beside here) (not (pointwise nat_eq word beside.target)) other.accepted
              (true_not (pointwise nat_eq word beside.target) differ),
        ),
      )
  end_of_other (letter ∷ second) place state word irreducible other =
      let here : Reading = record { place = place; state = state; word = word } in
      let mark = (live state).1 (padded beside.n (drop place beside.first) (letter ∷ second), other.accepted) in
      let next = min (place + 1) (length beside.first) in
      let to = step beside.table state (pair_symbol beside.n (get_or beside.first place (beside.n + 1)) letter) in
      let word' : List ℕ = beside.normal (word ++ letter ∷ []) in
      let own = normal (word' ++ second) in
      let same : beside.normal (word' ++ second) ≡ other.normal =
      normal_form_unique (longer_normal word letter second (beside.normal (word' ++ second)) own) other.is_normal in
      let N : List ℕ → Type 0 = λ m. NormalForm rules (word' ++ second) m in
      let rest = end_of_other second next to word' (normal (word ++ letter ∷ [])).irreducible (record {
        over = All-tail (λ x. (0 < x) × (x ≤ beside.n)) letter second other.over;
        accepted = ap (λ text. is_accepting beside.table (after beside.table state text))
            (sym (padded_from beside.n beside.first place letter second))
            ∙ other.accepted;
        normal = other.normal;
        is_normal = subst N same own;
        different = other.different;
      }) in
      let is_letter = letter_true beside.n letter (All-head (λ x. (0 < x) × (x ≤ beside.n)) letter second other.over) in
      let P : Bool → Type 0 = λ b. Ends (if b then read_on beside here letter else None) second in
      let Q : Option Reading → Type 0 = λ o. Ends o (letter ∷ second) in
      subst Q (sym (read_there place word state mark)) (subst P (sym is_letter) rest)

  -- the machine accepts the second words that are other ones
  pub second_accepted : IsIrreducible (OneOf rules) beside.word → (second : List ℕ)
      → MachineAccepts machine second
      ↔ IsOther beside.n rules beside.table beside.state beside.first beside.word beside.target second
  second_accepted irreducible second = (forth, back)
    where
      forth : MachineAccepts machine second → IsOther beside.n rules beside.table beside.state beside.first beside.word beside.target second
      forth accepts = elim (cases_Bool (get_or beside.marks beside.state false)) [
        | inl some ↦
            let Q : Option Reading → Type 0 = λ o. Ends o second in
            other_of_end second 0 beside.state beside.word irreducible some
            (subst Q (read_there 0 beside.word beside.state some) (accepts.state, (accepts.leads_there, accepts.accepts)))
        | inr none ↦
            let Q : Option Reading → Type 0 = λ o. Ends o second in
            absurd (nowhere second (subst Q (read_nowhere 0 beside.word beside.state none) (accepts.state, (accepts.leads_there, accepts.accepts))))
      ]

      back : IsOther beside.n rules beside.table beside.state beside.first beside.word beside.target second → MachineAccepts machine second
      back other =
          let reached = end_of_other second 0 beside.state beside.word irreducible other in
          record { state = reached.0; leads_there = reached.1.0; accepts = reached.1.1 }
