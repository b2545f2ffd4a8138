-- The machine of rules leads each text to its place.
use Rattle.std.proofs.Common.{◌≡◌, ◌≢◌, ◌↔◌, ℕ, ◌+◌, ◌-◌, ◌<◌, ◌≤◌, nat_lt, nat_le, Bool, true, false, IsTrue, List, [], ◌∷◌, ◌++◌, length, get_or, slice_get, Option, Some, None, if◌then◌else◌, refl, sym, ap, ◌∙◌, subst, inl, inr, arith, append_assoc}
use Rattle.std.proofs.lemmas.Bool.{true≢false, false≢true, cases_eq, and_from, lt-ltb, le-leb, and_parts, ltb-true, leb-true}
use Rattle.std.proofs.lemmas.List.{append-nil, length_push, nil_from_length}
use Rattle.std.proofs.lemmas.List.Elements.{All-contains, Contains-push}
use Rattle.std.proofs.lemmas.Option.{none-some}
use Rattle.kb_fsa.specs.declared.alphabet.Alphabet.TheVariants.{Plain, Pair}
use Rattle.kb_fsa.specs.Table.{state_after}
use Rattle.kb_fsa.specs.PairSymbols.{pair_symbol, pair_symbols, first_letter, second_letter}
use Rattle.kb_fsa.specs.Padding.{IsTextOfPair}
use Rattle.kb_fsa.specs.EndedWords.{is_symbol}
use Rattle.kb_fsa.specs.Language.{Automaton, AcceptsPair, generators}
use Rattle.kb_fsa.proofs.PairSymbolLaws.{IsLetter, IsPairSymbol, SymbolCase, symbol_case}
use Rattle.kb_fsa.proofs.PairSymbolLaws.SymbolCase.{two_letters, first_padded, second_padded}
use Rattle.kb_fsa.proofs.Paddings.{padded-injective, IsTextOfPair-nil, IsPadded-from_pair, length-padded, symbols_of_padded}
use Rattle.kb_explore.specs.Machine.{lead, leads}
use Rattle.kb_minkb.specs.declared.place.LeftPlace.{LeftPlace}
use Rattle.kb_minkb.specs.declared.place.LeftPlace.TheVariants.{Start, Inside, End}
use Rattle.kb_minkb.specs.declared.pair_place.PairPlace.{PairPlace}
use Rattle.kb_minkb.specs.LeftSides.{LeadsSomewhere, HasPlace}
use Rattle.kb_minkb.specs.LeftSides.HasPlace.{at_start, at_end}
use Rattle.kb_minkb.specs.LeftMachine.{left_sides, next_place}
use Rattle.kb_minkb.specs.Rules.{IsRuleOf, HasPairPlace, states_after, has_state}
use Rattle.kb_minkb.specs.Rules.HasPairPlace.{on_the_way, at_rule}
use Rattle.kb_minkb.specs.RuleMachine.{rules, place_by, place_with, rule_place, makes_rule, accepts_with, next_states}
use Rattle.kb_minkb.proofs.Places.{one_place, just_outside_some}
use Rattle.kb_minkb.proofs.LastSymbols.{LastSymbol, last_symbol, same_last, first_of_last, second_of_last, first_of_padding}
use Rattle.kb_minkb.proofs.LastSymbols.LastSymbol.{of_first, of_both}
use Rattle.kb_minkb.proofs.Going.{text_first, text_both, both_long}
use Rattle.kb_minkb.proofs.Multiplied.{padded_of_leads, accepts_alone, accepts_letter, letter_accepts}
use Rattle.kb_minkb.proofs.States.{some_state, state_at, next_states_push}
use Rattle.kb_minkb.proofs.PairPlaces.{IsStructure, of_number, next_of_place, place_of_next, none_behind_end, one_pair_place, before_symbol, pair_place_before}

-- the text has the place, or none
data Outcome (acceptor : Automaton) (multipliers : List Automaton) (text : List ℕ) : Option PairPlace → Type 0 where
  somewhere : {place : PairPlace} → HasPairPlace acceptor multipliers text place → Outcome acceptor multipliers text (Some place)
  nowhere : ((place : PairPlace) → ¬ HasPairPlace acceptor multipliers text place) → Outcome acceptor multipliers text None

-- a text of two words with a symbol more, whose first letter is x and whose second one is y
record Step (n : ℕ) (text : List ℕ) (symbol : ℕ) (u v : List ℕ) (x y : ℕ) : Type 0 where
  is : IsTextOfPair n text u v
  short : length v ≤ length u
  letter : IsLetter n x
  other : (0 < y) × (y ≤ n + 1)
  same : symbol ≡ pair_symbol n x y

module _ {acceptor : Automaton} {multipliers : List Automaton} (given : IsStructure acceptor multipliers) where
  abbrev n : ℕ
  n = generators acceptor.alphabet

  abbrev after : List ℕ → List ℕ
  after text = states_after multipliers text

  -- whether the symbol makes a rule, by its letters
  makes_is : (text : List ℕ) (symbol x y : ℕ) → first_letter n symbol ≡ x → second_letter n symbol ≡ y
      → makes_rule n multipliers (after text) symbol ≡ accepts_with n (slice_get multipliers (x - 1)) (get_or (after text) (x - 1) 0) y
  makes_is text symbol x y first second =
      ap (λ a. accepts_with n (slice_get multipliers (a - 1)) (get_or (after text) (a - 1) 0) (second_letter n symbol)) first
      ∙ ap (λ b. accepts_with n (slice_get multipliers (x - 1)) (get_or (after text) (x - 1) 0) b) second

  -- the same where the letter has this multiplier
  accepts_is : (text : List ℕ) (x y : ℕ) (multiplier : Automaton) → slice_get multipliers (x - 1) ≡ Some multiplier
      → accepts_with n (slice_get multipliers (x - 1)) (get_or (after text) (x - 1) 0) y
      ≡ accepts_with n (Some multiplier) (state_after multiplier.table text) y
  accepts_is text x y multiplier at =
      ap (λ o. accepts_with n o (get_or (after text) (x - 1) 0) y) at
      ∙ ap (λ s. accepts_with n (Some multiplier) s y) (state_at multipliers text (x - 1) multiplier at)

  multiplier_at : (x : ℕ) (multiplier : Automaton) {left right : List ℕ} (rule : IsRuleOf n (LeadsSomewhere acceptor) multipliers left right)
      → 0 < x → x ≡ rule.letter → slice_get multipliers (x - 1) ≡ Some rule.multiplier
  multiplier_at x multiplier rule positive same =
      let P : ℕ → Type 0 = λ k. slice_get multipliers (k - 1) ≡ Some rule.multiplier in
      subst P (sym same) (sym (of_number multipliers rule.letter (omega arith)) ∙ rule.of_letter)

  -- a rule is made by its last symbol
  makes_from_rule : (text : List ℕ) (symbol : ℕ) (left right : List ℕ) → LastSymbol n text symbol left right
      → IsRuleOf n (LeadsSomewhere acceptor) multipliers left right → makes_rule n multipliers (after text) symbol ≡ true
  makes_from_rule text symbol _ _ (of_first u v x is short letter same) rule =
      let parts = same_last u rule.front x rule.letter rule.is_left in
      let at = multiplier_at x rule.multiplier rule letter.0 parts.1 in
      let P : List ℕ → Type 0 = λ w. AcceptsPair rule.multiplier w v in
      let first = first_of_last n x (n + 1) symbol letter (omega arith, omega arith) same in
      let second = second_of_last n x (n + 1) symbol letter (omega arith, omega arith) same in
      makes_is text symbol x (n + 1) first second ∙ accepts_is text x (n + 1) rule.multiplier at
      ∙ (accepts_alone (given.automata (x - 1) rule.multiplier at) is).1 (subst P (sym parts.0) rule.multiplied)
  makes_from_rule text symbol _ _ (of_both u v x y is long letter other same) rule =
      let parts = same_last u rule.front x rule.letter rule.is_left in
      let at = multiplier_at x rule.multiplier rule letter.0 parts.1 in
      let P : List ℕ → Type 0 = λ w. AcceptsPair rule.multiplier w (v ++ y ∷ []) in
      let first = first_of_last n x y symbol letter (other.0, omega (arith, other.1)) same in
      let second = second_of_last n x y symbol letter (other.0, omega (arith, other.1)) same in
      makes_is text symbol x y first second ∙ accepts_is text x y rule.multiplier at
      ∙ letter_accepts (given.automata (x - 1) rule.multiplier at) is y other (omega arith) (subst P (sym parts.0) rule.multiplied)

  module _ (text : List ℕ) (symbol : ℕ) (u v : List ℕ) (x y : ℕ) (step : Step n text symbol u v x y) where
    first_is : first_letter n symbol ≡ x
    first_is = first_of_last n x y symbol step.letter step.other step.same

    second_is : second_letter n symbol ≡ y
    second_is = second_of_last n x y symbol step.letter step.other step.same

    -- a place of the text with the symbol is, on the side of the first word, that of this word with its letter
    place_of_first : (place : PairPlace) → HasPairPlace acceptor multipliers (text ++ symbol ∷ []) place
        → HasPlace acceptor (u ++ x ∷ []) place.left
    place_of_first place there =
        let before = before_symbol given text symbol place there in
        let pair = step.is in
        let other = before.is in
        let words = padded-injective n before.u before.v u v other.first_over other.second_over pair.first_over pair.second_over
        (sym other.is_text ∙ pair.is_text) in
        let P : List ℕ → Type 0 = λ w. HasPlace acceptor (w ++ x ∷ []) place.left in
        let Q : ℕ → Type 0 = λ k. HasPlace acceptor (before.u ++ k ∷ []) place.left in
        subst P words.0 (subst Q (sym before.first ∙ first_is) before.has)

    -- the pair of the text with the symbol, in a multiplier with a state there or accepting there
    rule_made : (multiplier : Automaton) → slice_get multipliers (x - 1) ≡ Some multiplier → HasPlace acceptor (u ++ x ∷ []) End
        → (w : List ℕ) → length w ≤ length (u ++ x ∷ []) → AcceptsPair multiplier u w
        → IsTextOfPair n (text ++ symbol ∷ []) (u ++ x ∷ []) w
        → HasPairPlace acceptor multipliers (text ++ symbol ∷ []) (record { left = End; states = [] })
    rule_made multiplier at (at_end left) w low accepts is = at_rule is (record {
      left_side = left;
      right_letters = is.second_over;
      no_longer = low;
      front = u;
      letter = x;
      multiplier = multiplier;
      is_left = refl;
      of_letter = of_number multipliers x (let letter = step.letter in letter.0) ∙ at;
      multiplied = accepts;
    })

    rule_at : HasPlace acceptor (u ++ x ∷ []) End → (o : Option Automaton) → slice_get multipliers (x - 1) ≡ o
        → accepts_with n o (get_or (after text) (x - 1) 0) y ≡ true
        → HasPairPlace acceptor multipliers (text ++ symbol ∷ []) (record { left = End; states = [] })
    rule_at ends None at holds = absurd (false≢true holds)
    rule_at ends (Some multiplier) at holds =
        let pair = step.is in
        let short = step.short in
        let letter = step.letter in
        let is = given.automata (x - 1) multiplier at in
        let longer = length_push u x in
        let accepts : accepts_with n (Some multiplier) (state_after multiplier.table text) y ≡ true =
        ap (λ s. accepts_with n (Some multiplier) s y) (sym (state_at multipliers text (x - 1) multiplier at)) ∙ holds in
        elim (cases_eq y (n + 1)) [
          | inl padding ↦
              let P : ℕ → Type 0 = λ k. accepts_with n (Some multiplier) (state_after multiplier.table text) k ≡ true in
              rule_made multiplier at ends v (omega arith) ((accepts_alone is pair).0 (subst P padding accepts))
              (text_first pair short x letter symbol (step.same ∙ ap (pair_symbol n x) padding))
          | inr apart ↦
              let bounds = step.other in
              let other : IsLetter n y = (bounds.0, omega (arith, bounds.1, apart)) in
              let both = accepts_letter is pair y other accepts in
              let equal : length v ≡ length u = omega (arith, short, both.0) in
              rule_made multiplier at ends (v ++ y ∷ []) (omega (arith, equal, longer, length_push v y)) both.1
              (text_both pair short x letter symbol y other step.same equal)
        ]

    rule_outcome : HasPlace acceptor (u ++ x ∷ []) End → (test : Bool) → makes_rule n multipliers (after text) symbol ≡ test
        → Outcome acceptor multipliers (text ++ symbol ∷ []) (rule_place test)
    rule_outcome ends true is =
        somewhere (rule_at ends (slice_get multipliers (x - 1)) refl (sym (makes_is text symbol x y first_is second_is) ∙ is))
    rule_outcome ends false is = nowhere (λ place there. none place there there)
      where
        none : (place : PairPlace) → HasPairPlace acceptor multipliers (text ++ symbol ∷ []) place
            → HasPairPlace acceptor multipliers (text ++ symbol ∷ []) place → ⊥
        none place there (on_the_way {left = left} pair short has not_end some) = not_end (one_place (place_of_first place there) ends)
        none place there (at_rule {left = left} {right = right} pair rule) =
            true≢false (sym (makes_from_rule text symbol left right (last_symbol n text symbol left right rule.no_longer pair) rule) ∙ is)

    way_text : IsTrue (has_state (after (text ++ symbol ∷ []))) → (w : List ℕ)
        × ((length w ≤ length (u ++ x ∷ [])) × IsTextOfPair n (text ++ symbol ∷ []) (u ++ x ∷ []) w)
    way_text holds =
        let pair = step.is in
        let short = step.short in
        let letter = step.letter in
        let longer = length_push u x in
        elim (cases_eq y (n + 1)) [
          | inl padding ↦
              (v, (omega arith, text_first pair short x letter symbol (step.same ∙ ap (pair_symbol n x) padding)))
          | inr apart ↦
              let bounds = step.other in
              let other : IsLetter n y = (bounds.0, omega (arith, bounds.1, apart)) in
              let at = some_state multipliers (text ++ symbol ∷ []) holds in
              let padded = padded_of_leads (given.automata at.place at.multiplier at.at) (text ++ symbol ∷ []) at.some in
              let equal = both_long pair short x letter symbol y other step.same padded in
              (v ++ y ∷ [], (omega (arith, equal, longer, length_push v y), text_both pair short x letter symbol y other step.same equal))
        ]

    way_outcome : (next : LeftPlace) → next ≢ End → HasPlace acceptor (u ++ x ∷ []) next → (test : Bool)
        → has_state (after (text ++ symbol ∷ [])) ≡ test
        → Outcome acceptor multipliers (text ++ symbol ∷ [])
        (if test then Some (record { left = next; states = after (text ++ symbol ∷ []) }) else None)
    way_outcome next not_end has true is =
        let text_of = way_text is in somewhere (on_the_way text_of.1.1 text_of.1.0 has not_end is)
    way_outcome next not_end has false is = nowhere (λ place there. none place there there)
      where
        none : (place : PairPlace) → HasPairPlace acceptor multipliers (text ++ symbol ∷ []) place
            → HasPairPlace acceptor multipliers (text ++ symbol ∷ []) place → ⊥
        none place there (on_the_way pair short has_place not some) = true≢false (sym some ∙ is)
        none place there (at_rule pair rule) = not_end (one_place has (place_of_first place there))

    way_with : (next : LeftPlace) → next ≢ End → HasPlace acceptor (u ++ x ∷ []) next
        → Outcome acceptor multipliers (text ++ symbol ∷ []) (place_with next (next_states multipliers (after text) symbol))
    way_with next not_end has =
        let P : List ℕ → Type 0 = λ states. Outcome acceptor multipliers (text ++ symbol ∷ []) (place_with next states) in
        subst P (sym (next_states_push multipliers text symbol))
        (way_outcome next not_end has (has_state (after (text ++ symbol ∷ []))) refl)

    outcome_by : (left : LeftPlace) → HasPlace acceptor u left → (o : Option LeftPlace) → (left_sides acceptor).follow left x ≡ o
        → Outcome acceptor multipliers (text ++ symbol ∷ []) (place_by n multipliers (after text) symbol o)
    outcome_by left has None is =
        nowhere (λ place there.
        none-some place.left (sym is ∙ next_of_place given.words u x left has place.left (place_of_first place there)))
    outcome_by left has (Some End) is =
        rule_outcome (place_of_next given.words u x left has End is) (makes_rule n multipliers (after text) symbol) refl
    outcome_by left has (Some Start) is =
        way_with Start (λ e. let no : ⊥ = cc in no) (place_of_next given.words u x left has Start is)
    outcome_by left has (Some (Inside own behind)) is =
        way_with (Inside own behind) (λ e. let no : ⊥ = cc in no) (place_of_next given.words u x left has (Inside own behind) is)

    step_outcome : (left : LeftPlace) → HasPlace acceptor u left
        → Outcome acceptor multipliers (text ++ symbol ∷ [])
        (place_by n multipliers (after text) symbol ((left_sides acceptor).follow left (first_letter n symbol)))
    step_outcome left has =
        let P : ℕ → Type 0 = λ k. Outcome acceptor multipliers (text ++ symbol ∷ [])
        (place_by n multipliers (after text) symbol ((left_sides acceptor).follow left k)) in
        subst P (sym first_is) (outcome_by left has ((left_sides acceptor).follow left x) refl)

  -- ---- any symbol

  -- a letter that is none leads nowhere
  letter_of_follow : (left : LeftPlace) (k : ℕ) (next : LeftPlace) → (left_sides acceptor).follow left k ≡ Some next → IsLetter n k
  letter_of_follow left k next is = by (is_symbol (Plain n) k) refl is
    where
      by : (test : Bool) → is_symbol (Plain n) k ≡ test
          → (if test then next_place acceptor.table left k else None) ≡ Some next → IsLetter n k
      by true holds leads_there = let both = and_parts (nat_lt 0 k) (nat_le k n) holds in (ltb-true 0 k both.0, leb-true k n both.1)
      by false fails leads_there = absurd (none-some next leads_there)

  none_by : (text : List ℕ) (symbol : ℕ) (left : LeftPlace) → first_letter n symbol ≡ n + 1 → (o : Option LeftPlace)
      → (left_sides acceptor).follow left (first_letter n symbol) ≡ o
      → Outcome acceptor multipliers (text ++ symbol ∷ []) (place_by n multipliers (after text) symbol o)
  none_by text symbol left first None is =
      nowhere (λ place there.
      let before = before_symbol given text symbol place there in
      let letter = before.letter in
      let equal : n + 1 ≡ before.x = sym first ∙ before.first in
      let no : ⊥ = omega (arith, equal, letter.1) in no)
  none_by text symbol left first (Some next) is =
      let letter = letter_of_follow left (first_letter n symbol) next is in
      let P : ℕ → Type 0 = λ k. k ≤ n in
      absurd (let no : ⊥ = omega (arith, subst P first letter.1) in no)

  case_outcome : (text : List ℕ) (symbol : ℕ) {u v : List ℕ} {left : LeftPlace} → IsTextOfPair n text u v → length v ≤ length u
      → HasPlace acceptor u left → SymbolCase n symbol
      → Outcome acceptor multipliers (text ++ symbol ∷ [])
      (place_by n multipliers (after text) symbol ((left_sides acceptor).follow left (first_letter n symbol)))
  case_outcome text symbol {u} {v} {left} is short has (two_letters x y letter other same) =
      step_outcome text symbol u v x y
      (record { is = is; short = short; letter = letter; other = (other.0, omega (arith, other.1)); same = same }) left has
  case_outcome text symbol {u} {v} {left} is short has (second_padded x letter same) =
      step_outcome text symbol u v x (n + 1)
      (record { is = is; short = short; letter = letter; other = (omega arith, omega arith); same = same }) left has
  case_outcome text symbol {u} {v} {left} is short has (first_padded y letter same) =
      none_by text symbol left (first_of_padding n y symbol letter same) ((left_sides acceptor).follow left (first_letter n symbol)) refl

  follow_end : (test : Bool) (k : ℕ) → (if test then next_place acceptor.table End k else None) ≡ None
  follow_end true k = refl
  follow_end false k = refl

  symbol_of_place : (text : List ℕ) (symbol : ℕ) {place : PairPlace} → HasPairPlace acceptor multipliers (text ++ symbol ∷ []) place
      → is_symbol (Pair n) symbol ≡ true
  symbol_of_place text symbol {place} there =
      let is = symbol_is text symbol there in
      and_from (nat_lt 0 symbol) (nat_le symbol (pair_symbols n)) (lt-ltb 0 symbol is.0) (le-leb symbol (pair_symbols n) is.1)
    where
      padded_symbol : (t : List ℕ) (s : ℕ) {u v : List ℕ} → IsTextOfPair n (t ++ s ∷ []) u v → IsPairSymbol n s
      padded_symbol t s is =
          All-contains (IsPairSymbol n) (t ++ s ∷ []) s (symbols_of_padded n (t ++ s ∷ []) (IsPadded-from_pair is)) (Contains-push t s)

      symbol_is : (t : List ℕ) (s : ℕ) {place : PairPlace} → HasPairPlace acceptor multipliers (t ++ s ∷ []) place → IsPairSymbol n s
      symbol_is t s (on_the_way is short has not_end some) = padded_symbol t s is
      symbol_is t s (at_rule is rule) = padded_symbol t s is

  next_outcome : (text : List ℕ) (symbol : ℕ) (place : PairPlace) → IsPairSymbol n symbol → HasPairPlace acceptor multipliers text place
      → Outcome acceptor multipliers (text ++ symbol ∷ [])
      (place_by n multipliers place.states symbol ((left_sides acceptor).follow place.left (first_letter n symbol)))
  next_outcome text symbol _ in_range (on_the_way is short has not_end some) =
      case_outcome text symbol is short has (symbol_case n symbol in_range)
  next_outcome text symbol _ in_range (at_rule {left = left} {right = right} is rule) =
      let k = first_letter n symbol in
      let P : Option LeftPlace → Type 0 = λ o. Outcome acceptor multipliers (text ++ symbol ∷ []) (place_by n multipliers [] symbol o) in
      subst P (sym (follow_end (is_symbol (Plain n) k) k)) (nowhere none)
    where
      none : (place : PairPlace) → ¬ HasPairPlace acceptor multipliers (text ++ symbol ∷ []) place
      none place there =
          let before = before_symbol given text symbol place there in
          let other = before.is in
          let words = padded-injective n before.u before.v left right other.first_over other.second_over is.first_over is.second_over
          (sym other.is_text ∙ is.is_text) in
          let P : List ℕ → Type 0 = λ w. HasPlace acceptor (w ++ before.x ∷ []) place.left in
          none_behind_end left before.x place.left (at_end rule.left_side) (subst P words.0 before.has)

  follows : (text : List ℕ) (symbol : ℕ) (place : PairPlace) (test : Bool) → is_symbol (Pair n) symbol ≡ test
      → HasPairPlace acceptor multipliers text place
      → Outcome acceptor multipliers (text ++ symbol ∷ [])
      (if test then place_by n multipliers place.states symbol ((left_sides acceptor).follow place.left (first_letter n symbol)) else None)
  follows text symbol place true is has =
      let both = and_parts (nat_lt 0 symbol) (nat_le symbol (pair_symbols n)) is in
      next_outcome text symbol place (ltb-true 0 symbol both.0, leb-true symbol (pair_symbols n) both.1) has
  follows text symbol place false is has = nowhere (λ next there. true≢false (sym (symbol_of_place text symbol there) ∙ is))

  -- ---- whole texts

  starts : (test : Bool) → has_state (after []) ≡ test
      → Outcome acceptor multipliers [] (if test then Some (record { left = Start; states = after [] }) else None)
  starts true is = somewhere (on_the_way (IsTextOfPair-nil n) (omega arith) (at_start refl) (λ e. let no : ⊥ = cc in no) is)
  starts false is = nowhere none
    where
      none : (place : PairPlace) → ¬ HasPairPlace acceptor multipliers [] place
      none place (on_the_way pair short has not_end some) = true≢false (sym some ∙ is)
      none place (at_rule {left = left} {right = right} pair rule) =
          just_outside_some rule.left_side
          (nil_from_length left (omega (arith, length-padded n left right, ap length pair.is_text)))

  reads : (front rest : List ℕ) (o : Option PairPlace) → Outcome acceptor multipliers front o
      → Outcome acceptor multipliers (front ++ rest) (lead (rules acceptor multipliers) o rest)
  reads front [] None out =
      let P : List ℕ → Type 0 = λ w. Outcome acceptor multipliers w None in subst P (sym (append-nil front)) out
  reads front [] (Some place) out =
      let P : List ℕ → Type 0 = λ w. Outcome acceptor multipliers w (Some place) in subst P (sym (append-nil front)) out
  reads front (symbol ∷ rest) None (nowhere none) =
      let P : List ℕ → Type 0 = λ w. Outcome acceptor multipliers w None in
      subst P (append_assoc front (symbol ∷ []) rest) (reads (front ++ symbol ∷ []) rest None
      (nowhere (λ place there. let before = pair_place_before given front symbol place there in none before.0 before.1)))
  reads front (symbol ∷ rest) (Some place) (somewhere has) =
      let next = (rules acceptor multipliers).follow place symbol in
      let P : List ℕ → Type 0 = λ w. Outcome acceptor multipliers w (lead (rules acceptor multipliers) next rest) in
      subst P (append_assoc front (symbol ∷ []) rest)
      (reads (front ++ symbol ∷ []) rest next (follows front symbol place (is_symbol (Pair n) symbol) refl has))

  -- the machine leads each text to its place
  pub leads_to_pair_place : (text : List ℕ) (place : PairPlace)
      → (leads (rules acceptor multipliers) text ≡ Some place) ↔ HasPairPlace acceptor multipliers text place
  leads_to_pair_place text place = (forth, λ has. back has (leads (rules acceptor multipliers) text) outcome)
    where
      outcome : Outcome acceptor multipliers text (leads (rules acceptor multipliers) text)
      outcome = reads [] text (rules acceptor multipliers).start (starts (has_state (after [])) refl)

      has_place : Outcome acceptor multipliers text (Some place) → HasPairPlace acceptor multipliers text place
      has_place (somewhere has) = has

      forth : leads (rules acceptor multipliers) text ≡ Some place → HasPairPlace acceptor multipliers text place
      forth is = has_place (subst (Outcome acceptor multipliers text) is outcome)

      back : HasPairPlace acceptor multipliers text place → (o : Option PairPlace) → Outcome acceptor multipliers text o → o ≡ Some place
      back has None (nowhere none) = absurd (none place has)
      back has (Some other) (somewhere also) = ap (λ p. Some p) (one_pair_place also has)
