-- The places of pairs of words, and those of their texts without the last symbol.
use Rattle.std.proofs.Common.{◌≡◌, ◌≢◌, ℕ, zero, suc, ◌+◌, ◌-◌, ◌<◌, ◌≤◌, List, [], ◌∷◌, ◌++◌, length, slice_get, IsTrue, Option, Some, None, refl, sym, ap, ◌∙◌, subst, arith}
use Rattle.std.proofs.lemmas.List.{append-nil}
use Rattle.kb_fsa.specs.Table.{after, state_after}
use Rattle.kb_fsa.specs.PairSymbols.{pair_symbol, first_letter}
use Rattle.kb_fsa.specs.Padding.{padded, IsTextOfPair}
use Rattle.kb_fsa.specs.Language.{Automaton, AcceptsPair, generators}
use Rattle.kb_fsa.proofs.Lookups.{accepting_positive, after-append, after_none}
use Rattle.kb_fsa.proofs.PairSymbolLaws.{IsLetter}
use Rattle.kb_fsa.proofs.Paddings.{padded-injective}
use Rattle.kb_explore.specs.Machine.{Machine, lead, leads}
use Rattle.kb_structure.specs.StructureOf.{multiplier_of}
use Rattle.kb_minkb.specs.declared.place.LeftPlace.{LeftPlace}
use Rattle.kb_minkb.specs.declared.place.LeftPlace.TheVariants.{End}
use Rattle.kb_minkb.specs.declared.pair_place.PairPlace.{PairPlace}
use Rattle.kb_minkb.specs.LeftSides.{LeadsSomewhere, HasPlace}
use Rattle.kb_minkb.specs.LeftSides.HasPlace.{at_end}
use Rattle.kb_minkb.specs.LeftMachine.{left_sides}
use Rattle.kb_minkb.specs.Rules.{IsRuleOf, HasPairPlace, states_after, has_state}
use Rattle.kb_minkb.specs.Rules.HasPairPlace.{on_the_way, at_rule}
use Rattle.kb_minkb.proofs.Places.{IsOfWords, one_place, place_before, leads_before, leads_to_place, no_more}
use Rattle.kb_minkb.proofs.LastSymbols.{LastSymbol, last_symbol, same_last, padded_second, first_of_last}
use Rattle.kb_minkb.proofs.LastSymbols.LastSymbol.{of_first, of_both}
use Rattle.kb_minkb.proofs.Multiplied.{IsOfPairs, padded_accepts}
use Rattle.kb_minkb.proofs.States.{some_state, has_some_state}

-- a word acceptor, and a multiplier for each of its letters
pub record IsStructure (acceptor : Automaton) (multipliers : List Automaton) : Type 0 where
  pub words : IsOfWords acceptor
  pub automata : (place : ℕ) (multiplier : Automaton) → slice_get multipliers place ≡ Some multiplier
      → IsOfPairs (generators acceptor.alphabet) multiplier

-- the multiplier of a letter is the one before its number
pub of_number : (multipliers : List Automaton) (x : ℕ) → 0 < x → multiplier_of multipliers x ≡ slice_get multipliers (x - 1)
of_number multipliers zero some = absurd (omega arith)
of_number multipliers (suc place) some = ap (slice_get multipliers) (let back : place ≡ suc place - 1 = omega arith in back)

-- ---- the next place of the first word

lead-append : {S : Type 0} (machine : Machine S) (from : Option S) (text more : List ℕ)
    → lead machine from (text ++ more) ≡ lead machine (lead machine from text) more
lead-append machine None text more = refl
lead-append machine (Some state) [] more = refl
lead-append machine (Some state) (symbol ∷ text) more = lead-append machine (machine.follow state symbol) text more

lead_nil : (acceptor : Automaton) (o : Option LeftPlace) → lead (left_sides acceptor) o [] ≡ o
lead_nil acceptor None = refl
lead_nil acceptor (Some place) = refl

module _ {acceptor : Automaton} (given : IsOfWords acceptor) (u : List ℕ) (x : ℕ) (left : LeftPlace)
    (has : HasPlace acceptor u left) where
  leads_on : leads (left_sides acceptor) (u ++ x ∷ []) ≡ (left_sides acceptor).follow left x
  leads_on =
      let machine = left_sides acceptor in
      lead-append machine machine.start u (x ∷ []) ∙ ap (λ from. lead machine from (x ∷ [])) ((leads_to_place given u left).1 has)
      ∙ lead_nil acceptor (machine.follow left x)

  pub next_of_place : (next : LeftPlace) → HasPlace acceptor (u ++ x ∷ []) next → (left_sides acceptor).follow left x ≡ Some next
  next_of_place next there = sym leads_on ∙ (leads_to_place given (u ++ x ∷ []) next).1 there

  pub place_of_next : (next : LeftPlace) → (left_sides acceptor).follow left x ≡ Some next → HasPlace acceptor (u ++ x ∷ []) next
  place_of_next next is = (leads_to_place given (u ++ x ∷ []) next).0 (leads_on ∙ is)

-- behind an end there is no place
pub none_behind_end : {acceptor : Automaton} (u : List ℕ) (x : ℕ) (next : LeftPlace) → HasPlace acceptor u End
    → ¬ HasPlace acceptor (u ++ x ∷ []) next
none_behind_end u x next (at_end left) there = no_more u x next left.outside there

-- ---- one place for a text

pub one_pair_place : {acceptor : Automaton} {multipliers : List Automaton} {text : List ℕ} {place other : PairPlace}
    → HasPairPlace acceptor multipliers text place → HasPairPlace acceptor multipliers text other → place ≡ other
one_pair_place {acceptor} {multipliers} {text} (on_the_way {u} {v} {left} is short has not_end some)
    (on_the_way {u = u'} {v = v'} {left = left'} is' short' has' not_end' some') =
    let words = padded-injective (generators acceptor.alphabet) u v u' v' is.first_over is.second_over is'.first_over is'.second_over
    (sym is.is_text ∙ is'.is_text) in
    let P : List ℕ → Type 0 = λ w. HasPlace acceptor w left in
    let Q : LeftPlace → PairPlace = λ place. record { left = place; states = states_after multipliers text } in
    ap Q (one_place (subst P words.0 has) has')
one_pair_place {acceptor} (on_the_way {u} {v} {left} is short has not_end some) (at_rule {left = u'} {right = v'} is' rule) =
    let words = padded-injective (generators acceptor.alphabet) u v u' v' is.first_over is.second_over is'.first_over is'.second_over
    (sym is.is_text ∙ is'.is_text) in
    let P : List ℕ → Type 0 = λ w. HasPlace acceptor w left in
    absurd (not_end (one_place (subst P words.0 has) (at_end rule.left_side)))
one_pair_place {acceptor} (at_rule {left = u'} {right = v'} is' rule) (on_the_way {u} {v} {left} is short has not_end some) =
    let words = padded-injective (generators acceptor.alphabet) u v u' v' is.first_over is.second_over is'.first_over is'.second_over
    (sym is.is_text ∙ is'.is_text) in
    let P : List ℕ → Type 0 = λ w. HasPlace acceptor w left in
    absurd (not_end (one_place (subst P words.0 has) (at_end rule.left_side)))
one_pair_place (at_rule is rule) (at_rule is' rule') = refl

-- ---- without the last symbol

-- what the place of a text with a symbol more says of the text before
pub record Before (acceptor : Automaton) (multipliers : List Automaton) (text : List ℕ) (symbol : ℕ)
    (next : LeftPlace) : Type 0 where
  pub u : List ℕ
  pub v : List ℕ
  pub x : ℕ
  pub is : IsTextOfPair (generators acceptor.alphabet) text u v
  pub short : length v ≤ length u
  pub letter : IsLetter (generators acceptor.alphabet) x
  pub first : first_letter (generators acceptor.alphabet) symbol ≡ x
  pub has : HasPlace acceptor (u ++ x ∷ []) next
  pub some : IsTrue (has_state (states_after multipliers text))

module _ {acceptor : Automaton} {multipliers : List Automaton} (given : IsStructure acceptor multipliers) where
  abbrev n : ℕ
  n = generators acceptor.alphabet

  some_before : (text : List ℕ) (symbol : ℕ) → IsTrue (has_state (states_after multipliers (text ++ symbol ∷ [])))
      → IsTrue (has_state (states_after multipliers text))
  some_before text symbol holds =
      let at = some_state multipliers (text ++ symbol ∷ []) holds in
      has_some_state multipliers text at.place at.multiplier at.at (leads_before at.multiplier.table text symbol at.some)

  way_before : (text : List ℕ) (symbol : ℕ) (u v : List ℕ) (left : LeftPlace) → LastSymbol n text symbol u v
      → HasPlace acceptor u left → IsTrue (has_state (states_after multipliers (text ++ symbol ∷ [])))
      → Before acceptor multipliers text symbol left
  way_before text symbol _ _ left (of_first u v x is short letter same) has holds = record {
    u = u;
    v = v;
    x = x;
    is = is;
    short = short;
    letter = letter;
    first = first_of_last n x (n + 1) symbol letter (omega arith, omega arith) same;
    has = has;
    some = some_before text symbol holds;
  }
  way_before text symbol _ _ left (of_both u v x y is long letter other same) has holds = record {
    u = u;
    v = v;
    x = x;
    is = is;
    short = omega arith;
    letter = letter;
    first = first_of_last n x y symbol letter (other.0, omega (arith, other.1)) same;
    has = has;
    some = some_before text symbol holds;
  }

  -- a rule's multiplier has a state after the pair's text without the last symbol
  multiplier_at : (left right : List ℕ) (rule : IsRuleOf n (LeadsSomewhere acceptor) multipliers left right) → 0 < rule.letter
      → slice_get multipliers (rule.letter - 1) ≡ Some rule.multiplier
  multiplier_at left right rule positive = sym (of_number multipliers rule.letter positive) ∙ rule.of_letter

  some_of_pair : (text u w : List ℕ) (place : ℕ) (multiplier : Automaton) → slice_get multipliers place ≡ Some multiplier
      → AcceptsPair multiplier u w → (rest : List ℕ) → padded n u w ≡ text ++ rest → IsTrue (has_state (states_after multipliers text))
  some_of_pair text u w place multiplier at accepts rest same =
      has_some_state multipliers text place multiplier at (λ none.
      let there = padded_accepts (given.automata place multiplier at) u w accepts in
      let positive = accepting_positive multiplier.table _ there in
      let nowhere = ap (state_after multiplier.table) same ∙ nothing_after multiplier text rest none in
      let no : ⊥ = omega (arith, positive, nowhere) in no)
    where
      nothing_after : (automaton : Automaton) (front back : List ℕ) → state_after automaton.table front ≡ 0
          → state_after automaton.table (front ++ back) ≡ 0
      nothing_after automaton front back none =
          after-append automaton.table automaton.table.initial front back
          ∙ ap (λ s. after automaton.table s back) none ∙ after_none automaton.table back

  end_before : (text : List ℕ) (symbol : ℕ) (left right : List ℕ) → LastSymbol n text symbol left right
      → IsRuleOf n (LeadsSomewhere acceptor) multipliers left right → Before acceptor multipliers text symbol End
  end_before text symbol _ _ (of_first u v x is short letter same) rule =
      let parts = same_last u rule.front x rule.letter rule.is_left in
      let at = multiplier_at (u ++ x ∷ []) v rule (omega (arith, letter.0, parts.1)) in
      let P : List ℕ → Type 0 = λ w. AcceptsPair rule.multiplier w v in
      record {
        u = u;
        v = v;
        x = x;
        is = is;
        short = short;
        letter = letter;
        first = first_of_last n x (n + 1) symbol letter (omega arith, omega arith) same;
        has = at_end rule.left_side;
        some = some_of_pair text u v (rule.letter - 1) rule.multiplier at (subst P (sym parts.0) rule.multiplied) []
            (sym is.is_text ∙ sym (append-nil text));
      }
  end_before text symbol _ _ (of_both u v x y is long letter other same) rule =
      let parts = same_last u rule.front x rule.letter rule.is_left in
      let at = multiplier_at (u ++ x ∷ []) (v ++ y ∷ []) rule (omega (arith, letter.0, parts.1)) in
      let P : List ℕ → Type 0 = λ w. AcceptsPair rule.multiplier w (v ++ y ∷ []) in
      record {
        u = u;
        v = v;
        x = x;
        is = is;
        short = omega arith;
        letter = letter;
        first = first_of_last n x y symbol letter (other.0, omega (arith, other.1)) same;
        has = at_end rule.left_side;
        some = some_of_pair text u (v ++ y ∷ []) (rule.letter - 1) rule.multiplier at (subst P (sym parts.0) rule.multiplied)
            (pair_symbol n (n + 1) y ∷ [])
            (padded_second n u v y (omega arith) ∙ ap (λ t. t ++ pair_symbol n (n + 1) y ∷ []) (sym is.is_text));
      }

  pub before_symbol : (text : List ℕ) (symbol : ℕ) (place : PairPlace) → HasPairPlace acceptor multipliers (text ++ symbol ∷ []) place
      → Before acceptor multipliers text symbol place.left
  before_symbol text symbol place (on_the_way {u} {v} {left} is short has not_end some) =
      way_before text symbol u v left (last_symbol n text symbol u v short is) has some
  before_symbol text symbol place (at_rule {left = left} {right = right} is rule) =
      end_before text symbol left right (last_symbol n text symbol left right rule.no_longer is) rule

  -- so a text without its last symbol has a place too
  pub pair_place_before : (text : List ℕ) (symbol : ℕ) (place : PairPlace) → HasPairPlace acceptor multipliers (text ++ symbol ∷ []) place
      → (before : PairPlace) × HasPairPlace acceptor multipliers text before
  pair_place_before text symbol place there =
      let before = before_symbol text symbol place there in
      let left = place_before before.u before.x place.left before.has in
      let has = left.1 in (
        record { left = left.0; states = states_after multipliers text },
        on_the_way before.is before.short has (not_end before.u before.x place.left left.0 before.has has) before.some,
      )
    where
      not_end : (u : List ℕ) (x : ℕ) (next here : LeftPlace) → HasPlace acceptor (u ++ x ∷ []) next → HasPlace acceptor u here → here ≢ End
      not_end u x next here more at is_end = none_behind_end u x next (subst (HasPlace acceptor u) is_end at) more
