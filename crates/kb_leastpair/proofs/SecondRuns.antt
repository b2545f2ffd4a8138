-- The second words that the machine accepts.
use Rattle.std.proofs.Common.{◌≡◌, ◌↔◌, ℕ, zero, suc, ◌+◌, ◌<◌, ◌≤◌, min, Bool, true, IsTrue, List, [], ◌∷◌, length, get_or, drop, drop-cons, Option, Some, None, if◌then◌else◌, refl, sym, ap, ◌∙◌, subst, inl, inr, arith}
use Rattle.std.proofs.lemmas.Bool.{cases_Bool, cases_lt, false≢true}
use Rattle.std.proofs.lemmas.List.{drop_all, get_or_past}
use Rattle.std.proofs.lemmas.List.Elements.{All-nil, All-cons, All-head, All-tail}
use Rattle.std.proofs.lemmas.Option.{none-some, same_Some}
use Rattle.kb_word.specs.Relations.{IsOver}
use Rattle.kb_fsa.specs.declared.alphabet.Alphabet.TheVariants.{Plain}
use Rattle.kb_fsa.specs.Table.{Table, AcceptsFrom, after, is_accepting, step}
use Rattle.kb_fsa.specs.PairSymbols.{pair_symbol}
use Rattle.kb_fsa.specs.Padding.{padded}
use Rattle.kb_fsa.specs.EndedWords.{is_symbol}
use Rattle.kb_fsa.proofs.Lookups.{after_none}
use Rattle.kb_explore.specs.Machine.{Machine, MachineAccepts, lead}
use Rattle.kb_leastpair.specs.declared.reading.Reading.{Reading}
use Rattle.kb_leastpair.specs.SecondWords.{read_on, reading_at, second_words}
use Rattle.kb_leastpair.proofs.SecondMoves.{letter_above, letter_true, letter_zero}

-- the first symbol of a pair's text, from a place of the first word on
pub padded_from : (n : ℕ) (first : List ℕ) (place letter : ℕ) (second : List ℕ)
    → padded n (drop place first) (letter ∷ second)
    ≡ pair_symbol n (get_or first place (n + 1)) letter ∷ padded n (drop (min (place + 1) (length first)) first) second
padded_from n first place letter second = elim (cases_lt place (length first)) [
  | inl within ↦
      let next : min (place + 1) (length first) ≡ suc place = omega arith in
      ap (λ u. padded n u (letter ∷ second)) (drop-cons first place (n + 1) within)
      ∙ ap (λ p. pair_symbol n (get_or first place (n + 1)) letter ∷ padded n (drop p first) second) (sym next)
  | inr past ↦
      let end : min (place + 1) (length first) ≡ length first = omega arith in
      ap (λ u. padded n u (letter ∷ second)) (drop_all place first past)
      ∙ ap (λ x. pair_symbol n x letter ∷ padded n [] second) (sym (get_or_past first place (n + 1) past))
      ∙ ap (λ u. pair_symbol n (get_or first place (n + 1)) letter ∷ padded n u second)
      (sym (ap (λ p. drop p first) end ∙ drop_all (length first) first (omega arith)))
]

-- a number is that of a letter where the test says so
letter_is : (n letter : ℕ) → is_symbol (Plain n) letter ≡ true → (0 < letter) × (letter ≤ n)
letter_is n zero is = absurd (false≢true (sym (letter_zero n) ∙ is))
letter_is n (suc x) is = elim (cases_lt n (suc x)) [
  | inl above ↦ absurd (false≢true (sym (letter_above n (suc x) above) ∙ is))
  | inr within ↦ (omega arith, within)
]

module _ (n : ℕ) (table : Table) (first : List ℕ) (from start : ℕ) where
  abbrev machine : Machine Reading
  machine = second_words n table first from start

  -- from what is given the word leads to a reading that accepts
  abbrev Ends : Option Reading → List ℕ → Type 0
  Ends from second = (reading : Reading) × ((lead machine from second ≡ Some reading) × (machine.accepts reading ≡ true))

  nowhere : (second : List ℕ) → ¬ Ends None second
  nowhere second ends = none-some ends.0 ends.1.0

  none_accepted : (text : List ℕ) → ¬ AcceptsFrom table 0 text
  none_accepted text accepts = false≢true (sym (ap (is_accepting table) (after_none table text)) ∙ accepts)

  accepted_of_end : (place state : ℕ) (second : List ℕ) → Ends (reading_at place state) second
      → IsOver n second × AcceptsFrom table state (padded n (drop place first) second)
  accepted_of_end place zero second ends = absurd (nowhere second ends)
  accepted_of_end place (suc s) [] ends =
      let P : Reading → Type 0 = λ reading. IsTrue (is_accepting table (after table reading.state (padded n (drop reading.place first) []))) in
      (All-nil (λ x. (0 < x) × (x ≤ n)), subst P (sym (same_Some (record { place = place; state = suc s }) ends.0 ends.1.0)) ends.1.1)
  accepted_of_end place (suc s) (letter ∷ second) ends = elim (cases_Bool (is_symbol (Plain n) letter)) [
    | inl letter_yes ↦
        let here : Reading = record { place = place; state = suc s } in
        let next = min (place + 1) (length first) in
        let to = step table (suc s) (pair_symbol n (get_or first place (n + 1)) letter) in
        let P : Bool → Type 0 = λ b. Ends (if b then read_on n table first here letter else None) second in
        let both = accepted_of_end next to second (subst P letter_yes ends) in (
          All-cons (λ x. (0 < x) × (x ≤ n)) letter second (letter_is n letter letter_yes) both.0,
          ap (λ text. is_accepting table (after table (suc s) text)) (padded_from n first place letter second) ∙ both.1,
        )
    | inr letter_no ↦
        let here : Reading = record { place = place; state = suc s } in
        let P : Bool → Type 0 = λ b. Ends (if b then read_on n table first here letter else None) second in
        absurd (nowhere second (subst P letter_no ends))
  ]

  end_of_accepted : (place state : ℕ) (second : List ℕ) → IsOver n second → AcceptsFrom table state (padded n (drop place first) second)
      → Ends (reading_at place state) second
  end_of_accepted place zero second over accepts = absurd (none_accepted (padded n (drop place first) second) accepts)
  end_of_accepted place (suc s) [] over accepts = (record { place = place; state = suc s }, (refl, accepts))
  end_of_accepted place (suc s) (letter ∷ second) over accepts =
      let here : Reading = record { place = place; state = suc s } in
      let next = min (place + 1) (length first) in
      let to = step table (suc s) (pair_symbol n (get_or first place (n + 1)) letter) in
      let rest = end_of_accepted next to second (All-tail (λ x. (0 < x) × (x ≤ n)) letter second over)
      (ap (λ text. is_accepting table (after table (suc s) text)) (sym (padded_from n first place letter second)) ∙ accepts) in
      let is_letter = letter_true n letter (All-head (λ x. (0 < x) × (x ≤ n)) letter second over) in
      let P : Bool → Type 0 = λ b. Ends (if b then read_on n table first here letter else None) second in
      subst P (sym is_letter) rest

  -- the machine accepts the second words of the pairs that lead to acceptance
  pub second_accepted : (second : List ℕ)
      → MachineAccepts machine second ↔ (IsOver n second × AcceptsFrom table start (padded n (drop from first) second))
  second_accepted second = (
    λ accepts. accepted_of_end from start second (accepts.state, (accepts.leads_there, accepts.accepts)),
    λ accepted.
        let ends = end_of_accepted from start second accepted.0 accepted.1 in
        record { state = ends.0; leads_there = ends.1.0; accepts = ends.1.1 },
  )
