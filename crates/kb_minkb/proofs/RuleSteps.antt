-- Single steps of the machine of rules.
use Rattle.std.proofs.Common.{◌≡◌, ℕ, ◌+◌, ◌<◌, ◌≤◌, nat_lt, nat_le, List, Option, None, refl, sym, ap, ◌∙◌, subst, arith}
use Rattle.std.proofs.lemmas.Bool.{and_from, and_left, and_right, lt-ltb, le-leb, lt-leb, cond-true, cond-false}
use Rattle.kb_fsa.specs.declared.alphabet.Alphabet.TheVariants.{Pair}
use Rattle.kb_fsa.specs.PairSymbols.{first_letter, pair_symbols}
use Rattle.kb_fsa.specs.EndedWords.{is_symbol}
use Rattle.kb_fsa.specs.Language.{Automaton, generators}
use Rattle.kb_fsa.proofs.PairSymbolLaws.{first_within}
use Rattle.kb_minkb.specs.declared.pair_place.PairPlace.{PairPlace}
use Rattle.kb_minkb.specs.LeftMachine.{left_sides, next_place}
use Rattle.kb_minkb.specs.RuleMachine.{rules, place_by}
use Rattle.kb_minkb.proofs.Places.{no_letter_above, letter_follows}

module _ (acceptor : Automaton) (multipliers : List Automaton) (place : PairPlace) where
  abbrev n : ℕ
  n = generators acceptor.alphabet

  abbrev by_symbol : ℕ → Option PairPlace
  by_symbol symbol =
      place_by n multipliers place.states symbol ((left_sides acceptor).follow place.left (first_letter n symbol))

  pub no_symbol_zero : (rules acceptor multipliers).follow place 0 ≡ None
  no_symbol_zero =
      cond-false (is_symbol (Pair n) 0) (by_symbol 0) None (and_left (nat_lt 0 0) (nat_le 0 (pair_symbols n)) refl)

  pub no_symbol_above : (symbol : ℕ) → pair_symbols n < symbol → (rules acceptor multipliers).follow place symbol ≡ None
  no_symbol_above symbol above =
      cond-false (is_symbol (Pair n) symbol) (by_symbol symbol) None
      (and_right (nat_lt 0 symbol) (nat_le symbol (pair_symbols n)) (lt-leb symbol (pair_symbols n) above))

  module _ (symbol : ℕ) (positive : 0 < symbol) (low : symbol ≤ pair_symbols n) where
    follows_symbol : (rules acceptor multipliers).follow place symbol ≡ by_symbol symbol
    follows_symbol =
        cond-true (is_symbol (Pair n) symbol) (by_symbol symbol) None
        (and_from (nat_lt 0 symbol) (nat_le symbol (pair_symbols n)) (lt-ltb 0 symbol positive) (le-leb symbol (pair_symbols n) low))

    -- with the padding for the first letter it leads nowhere
    pub padding_follows : first_letter n symbol ≡ n + 1 → None ≡ (rules acceptor multipliers).follow place symbol
    padding_follows padding =
        let P : ℕ → Type 0 = λ k. n < k in
        let above : n < first_letter n symbol = subst P (sym padding) (omega arith) in
        sym (follows_symbol
        ∙ ap (place_by n multipliers place.states symbol) (no_letter_above acceptor place.left (first_letter n symbol) above))

    -- and with another one where this leads
    pub letter_leads : first_letter n symbol ≤ n
        → place_by n multipliers place.states symbol (next_place acceptor.table place.left (first_letter n symbol))
        ≡ (rules acceptor multipliers).follow place symbol
    letter_leads letter =
        ap (place_by n multipliers place.states symbol) (letter_follows acceptor place.left (first_letter n symbol) (omega arith) letter)
        ∙ sym follows_symbol

    pub first_low : first_letter n symbol ≤ n + 1
    first_low = omega (arith, first_within n symbol (positive, low))
