-- What multipliers accept, said by their states after a text.
use Rattle.std.proofs.Common.{◌≡◌, ◌≢◌, ◌↔◌, ℕ, ◌+◌, ◌≤◌, nat_eq, true, IsTrue, List, [], ◌∷◌, ◌++◌, length, Some, sym, ap, ◌∙◌, refl, subst, arith}
use Rattle.std.proofs.lemmas.Bool.{eq-eqb, ne_eqb, cond-true, cond-false}
use Rattle.kb_fsa.specs.declared.alphabet.Alphabet.{Alphabet}
use Rattle.kb_fsa.specs.declared.alphabet.Alphabet.TheVariants.{Pair}
use Rattle.kb_fsa.specs.Table.{step, state_after, is_accepting}
use Rattle.kb_fsa.specs.PairSymbols.{pair_symbol}
use Rattle.kb_fsa.specs.Padding.{padded, IsPadded, IsTextOfPair}
use Rattle.kb_fsa.specs.Language.{Automaton, IsAutomaton, IsTextOf, AcceptsPair, generators}
use Rattle.kb_fsa.proofs.Lookups.{accepting_positive}
use Rattle.kb_fsa.proofs.PairSymbolLaws.{IsLetter}
use Rattle.kb_minkb.specs.RuleMachine.{accepts_with, state_with}
use Rattle.kb_minkb.proofs.Places.{state_push}
use Rattle.kb_minkb.proofs.LastSymbols.{padded_second, second_goes_on}

-- an automaton of pairs of words over n letters
pub record IsOfPairs (n : ℕ) (automaton : Automaton) : Type 0 where
  pub is : IsAutomaton automaton
  pub pairs : automaton.alphabet ≡ Pair n

module _ {n : ℕ} {multiplier : Automaton} (given : IsOfPairs n multiplier) where
  -- the texts that lead to a state are padded
  pub padded_of_leads : (text : List ℕ) → state_after multiplier.table text ≢ 0 → IsPadded n text
  padded_of_leads text some =
      let P : Alphabet → Type 0 = λ alphabet. IsTextOf alphabet text in subst P given.pairs (given.is.texts text some)

  accepts_padded : (u w : List ℕ) → IsTrue (is_accepting multiplier.table (state_after multiplier.table (padded n u w)))
      → AcceptsPair multiplier u w
  accepts_padded u w accepts =
      let P : ℕ → Type 0 = λ k. IsTrue (is_accepting multiplier.table (state_after multiplier.table (padded k u w))) in
      subst P (sym (ap generators given.pairs)) accepts

  pub padded_accepts : (u w : List ℕ) → AcceptsPair multiplier u w
      → IsTrue (is_accepting multiplier.table (state_after multiplier.table (padded n u w)))
  padded_accepts u w accepts =
      let P : ℕ → Type 0 = λ k. IsTrue (is_accepting multiplier.table (state_after multiplier.table (padded k u w))) in
      subst P (ap generators given.pairs) accepts

  module _ {text u v : List ℕ} (pair : IsTextOfPair n text u v) where
    state_alone : state_with n multiplier (state_after multiplier.table text) (n + 1) ≡ state_after multiplier.table (padded n u v)
    state_alone =
        let state = state_after multiplier.table text in
        cond-true (nat_eq (n + 1) (n + 1)) state (step multiplier.table state (pair_symbol n (n + 1) (n + 1))) (eq-eqb (n + 1) (n + 1) refl)
        ∙ ap (state_after multiplier.table) pair.is_text

    -- with the padding, the pair of the text
    pub accepts_alone : (accepts_with n (Some multiplier) (state_after multiplier.table text) (n + 1) ≡ true) ↔ AcceptsPair multiplier u v
    accepts_alone =
        let P : ℕ → Type 0 = λ s. IsTrue (is_accepting multiplier.table s) in (
          λ holds. accepts_padded u v (subst P state_alone holds),
          λ accepts. subst P (sym state_alone) (padded_accepts u v accepts),
        )

    module _ (y : ℕ) (letter : IsLetter n y) where
      state_step : state_with n multiplier (state_after multiplier.table text) y
          ≡ state_after multiplier.table (text ++ pair_symbol n (n + 1) y ∷ [])
      state_step =
          let state = state_after multiplier.table text in
          cond-false (nat_eq y (n + 1)) state (step multiplier.table state (pair_symbol n (n + 1) y))
          (ne_eqb y (n + 1) (λ same. let no : ⊥ = omega (arith, same, letter.1) in no))
          ∙ sym (state_push multiplier.table text (pair_symbol n (n + 1) y))

      text_more : length u ≤ length v → text ++ pair_symbol n (n + 1) y ∷ [] ≡ padded n u (v ++ y ∷ [])
      text_more low = ap (λ t. t ++ pair_symbol n (n + 1) y ∷ []) pair.is_text ∙ sym (padded_second n u v y low)

      -- with a letter, the pair whose second word has it behind, and then this word isn't the shorter one
      pub second_no_shorter : state_after multiplier.table (text ++ pair_symbol n (n + 1) y ∷ []) ≢ 0 → length u ≤ length v
      second_no_shorter some =
          let P : List ℕ → Type 0 = λ t. IsPadded n (t ++ pair_symbol n (n + 1) y ∷ []) in
          second_goes_on n u v y pair.first_over pair.second_over letter (subst P pair.is_text (padded_of_leads _ some))

      pub accepts_letter : accepts_with n (Some multiplier) (state_after multiplier.table text) y ≡ true
          → (length u ≤ length v) × AcceptsPair multiplier u (v ++ y ∷ [])
      accepts_letter holds =
          let P : ℕ → Type 0 = λ s. IsTrue (is_accepting multiplier.table s) in
          let there = subst P state_step holds in
          let positive = accepting_positive multiplier.table _ there in
          let low = second_no_shorter (λ none. let no : ⊥ = omega (arith, positive, none) in no) in
          (low, accepts_padded u (v ++ y ∷ []) (subst P (ap (state_after multiplier.table) (text_more low)) there))

      pub letter_accepts : length u ≤ length v → AcceptsPair multiplier u (v ++ y ∷ [])
          → accepts_with n (Some multiplier) (state_after multiplier.table text) y ≡ true
      letter_accepts low accepts =
          let P : ℕ → Type 0 = λ s. IsTrue (is_accepting multiplier.table s) in
          subst P (sym (state_step ∙ ap (state_after multiplier.table) (text_more low))) (padded_accepts u (v ++ y ∷ []) accepts)
