-- The states of a table that lie on accepted texts, by the exploration of those that lead to acceptance.
use Rattle.std.proofs.Common.{◌≡◌, ◌↔◌, ℕ, zero, suc, ◌+◌, ◌-◌, ◌<◌, ◌≤◌, Bool, true, false, IsTrue, List, [], ◌∷◌, ◌++◌, length, get_or, slice_get, Option, Some, None, refl, sym, ap, ◌∙◌, subst, inl, inr, arith, true≢false}
use Rattle.std.specs.List.{All, range_with_len}
use Rattle.std.specs.Option.{unwrap_or, option_and_then}
use Rattle.std.proofs.lemmas.Bool.{cases_Bool}
use Rattle.std.proofs.lemmas.List.Elements.{All-nil, All-contains}
use Rattle.std.proofs.lemmas.List.FromFn.{length-range_with_len, get_or-range_with_len}
use Rattle.std.proofs.lemmas.Option.{none-some, same_Some, slice_get_within, slice_get-get_or, get_or_from_slice_get}
use Rattle.kb_fsa.specs.PairSymbols.{pair_symbols}
use Rattle.kb_fsa.specs.Table.{Table, IsTable, Moves, HasSymbols, is_accepting, lookup, step, after, state_after, IsLive, moves_of}
use Rattle.kb_fsa.specs.Canonical.{IsLeastText}
use Rattle.kb_fsa.specs.Graphs.{IsMarked}
use Rattle.kb_fsa.proofs.Lookups.{accepting_positive, after-append, after_none, after_within, All-moves_of, entry_from_lookup, lookup_from_target}
use Rattle.kb_explore.specs.Machine.{Machine, lead, leads, HasMoreStates}
use Rattle.kb_explore.specs.Exploration.{numbered, IsExploration, IsTraced, at_start, along}
use Rattle.kb_explore.proofs.CountingLemmas.{no_more_states}
use Rattle.kb_explore.proofs.ExplorationLemmas.{leads_within, number_within, one_least_text}
use Rattle.kb_explore.proofs.Lists.{item_within}
use Rattle.kb_labels.specs.LivePart.{marked_state, marked_part}
use Rattle.kb_labels.specs.Places.{IsTextAt, AreInOrder}
use Rattle.kb_labels.proofs.MarkedMoves.{is_marked, not_marked}

origin_at : (origins : List (ℕ × ℕ)) (state : ℕ) (origin : ℕ × ℕ) → numbered origins state ≡ Some origin
    → get_or origins (state - 1) (0, 0) ≡ origin
origin_at origins zero origin e = absurd (none-some origin e)
origin_at origins (suc place) origin e =
    let back : suc place - 1 ≡ place = omega arith in
    ap (λ p. get_or origins p (0, 0)) back ∙ get_or_from_slice_get origins place origin (0, 0) e

lead_none : {S : Type 0} (machine : Machine S) (start : Option S) → lead machine start [] ≡ start
lead_none machine None = refl
lead_none machine (Some state) = refl

-- no state leads to acceptance from no state
pub none_live : (table : Table) → ¬ IsLive table 0
none_live table live =
    let P : ℕ → Type 0 = λ s. IsTrue (is_accepting table s) in
    let some = accepting_positive table 0 (subst P (after_none table live.0) live.1) in
    let no : ⊥ = omega arith in no

live_before : (table : Table) (state : ℕ) (text : List ℕ) → IsLive table (after table state text) → IsLive table state
live_before table state text live =
    let P : ℕ → Type 0 = λ s. IsTrue (is_accepting table s) in
    (text ++ live.0, subst P (sym (after-append table state text live.0)) live.1)

-- a state that is marked, as an option
from_marked : (marks : List Bool) (state number : ℕ) → marked_state marks state ≡ Some number → (state ≡ number) × (get_or marks state false ≡ true)
from_marked marks state number e = elim (cases_Bool (get_or marks state false)) [
  | inl some ↦ (same_Some state number (sym (is_marked marks state some) ∙ e), some)
  | inr none ↦ absurd (none-some number (sym (not_marked marks state none) ∙ e))
]

module _ (table : Table) (marks : List Bool) (live : (state : ℕ) → IsMarked marks state ↔ IsLive table state) where
  dead : (state : ℕ) → ¬ IsLive table state → get_or marks state false ≡ false
  dead state none = elim (cases_Bool (get_or marks state false)) [
    | inl some ↦ absurd (none ((live state).0 some))
    | inr unmarked ↦ unmarked
  ]

  marked_target : (found : Option ℕ) → option_and_then (marked_state marks) found ≡ marked_state marks (unwrap_or found 0)
  marked_target None = sym (not_marked marks 0 (dead 0 (none_live table)))
  marked_target (Some state) = refl

  leads_on : (state : ℕ) (text : List ℕ) → lead (marked_part table marks) (marked_state marks state) text ≡ marked_state marks (after table state text)
  leads_on state [] = lead_none (marked_part table marks) (marked_state marks state)
  leads_on state (symbol ∷ text) =
      let machine = marked_part table marks in
      elim (cases_Bool (get_or marks state false)) [
        | inl some ↦
            ap (λ start. lead machine start (symbol ∷ text)) (is_marked marks state some)
            ∙ ap (λ start. lead machine start text) (marked_target (lookup (moves_of table state) symbol))
            ∙ leads_on (step table state symbol) text
        | inr none ↦
            let later = dead (after table state (symbol ∷ text))
            (λ alive. true≢false (sym ((live state).1 (live_before table state (symbol ∷ text) alive)) ∙ none)) in
            ap (λ start. lead machine start (symbol ∷ text)) (not_marked marks state none)
            ∙ sym (not_marked marks (after table state (symbol ∷ text)) later)
      ]

  -- the text leads to the state to which it leads in the table, if that is marked
  leads_part : (text : List ℕ) → leads (marked_part table marks) text ≡ marked_state marks (state_after table text)
  leads_part text = leads_on table.initial text

  leads_to : (text : List ℕ) (state : ℕ) → leads (marked_part table marks) text ≡ Some state → state_after table text ≡ state
  leads_to text state e = (from_marked marks (state_after table text) state (sym (leads_part text) ∙ e)).0

  from_there : (text : List ℕ) (state : ℕ) → state_after table text ≡ state → get_or marks state false ≡ true
      → leads (marked_part table marks) text ≡ Some state
  from_there text state e some = leads_part text ∙ ap (marked_state marks) e ∙ is_marked marks state some

  module _ {explored : Table} {states : List ℕ} {origins : List (ℕ × ℕ)}
      (is : IsExploration (marked_part table marks) explored states origins) where
    -- the word of the state at a place leads there
    abbrev HasWord : ℕ → ℕ → Type 0
    HasWord place state = (word : List ℕ)
        × ((numbered is.words (suc place) ≡ Some word) × (leads (marked_part table marks) word ≡ Some state))

    has_word : (place state : ℕ) → slice_get states place ≡ Some state → HasWord place state
    has_word place state at =
        let within = slice_get_within states place state at in
        let one = is.one_word_each in let two = is.one_state_each in
        let item = item_within is.words place (omega arith) in
        (item.0, (item.1, sym (is.leads_there item.0) ∙ ap (numbered states) (is.least (suc place) item.0 item.1).leads ∙ at))

    marked_at : (place state : ℕ) → slice_get states place ≡ Some state → get_or marks state false ≡ true
    marked_at place state at =
        let has = has_word place state at in
        let from = from_marked marks (state_after table has.0) state (sym (leads_part has.0) ∙ has.1.1) in
        let P : ℕ → Type 0 = λ s. get_or marks s false ≡ true in
        subst P from.0 from.1

    text_at : (place state : ℕ) → slice_get states place ≡ Some state → (text : List ℕ) × IsTextAt table origins place state text
    text_at place state at =
        let has = has_word place state at in
        let own = is.least (suc place) has.0 has.1.0 in (
          has.0,
          record {
            least = record {
              leads = leads_to has.0 state has.1.1;
              least = λ other leads_too.
                  let there = leads_within is other state (from_there other state leads_too (marked_at place state at)) in
                  own.least other (there.1.1 ∙ ap suc (is.distinct there.0 place state there.1.0 at));
            };
            traced = is.traced (suc place) has.0 has.1.0;
          },
        )

    least_word : (place state : ℕ) (at : slice_get states place ≡ Some state) (text : List ℕ) → IsLeastText table state text
        → numbered is.words (suc place) ≡ Some text
    unfolding has_word text_at
    least_word place state at text least =
        let has = has_word place state at in
        let own = text_at place state at in
        has.1.0 ∙ ap (λ w. Some w) (one_least_text table state has.0 text own.1.least least)

    -- the last symbol of a text that is traced is one of the table's
    origin_symbol : (k : ℕ) → HasSymbols k explored → (state : ℕ) (text : List ℕ) → 0 < state → state_after explored text ≡ state
        → IsTraced origins state text → (get_or origins (state - 1) (0, 0)).1 ≤ k
    origin_symbol k has state text positive leads (at_start e) =
        let P : ℕ × ℕ → Type 0 = λ origin. origin.1 ≤ k in
        subst P (sym (origin_at origins state (0, 0) e)) (omega arith)
    origin_symbol k has state text positive leads (along {parent} {symbol} {text = front} e rest) =
        let P : ℕ × ℕ → Type 0 = λ origin. origin.1 ≤ k in
        let here : ℕ = state_after explored front in
        let moves : Moves = moves_of explored here in
        let step : step explored here symbol ≡ state = sym (after-append explored explored.initial front (symbol ∷ [])) ∙ leads in
        let Low : ℕ × ℕ → Type 0 = λ move. move.0 ≤ k in
        let low = All-moves_of (λ ms. All Low ms) explored here (All-nil Low) has in
        let move = entry_from_lookup moves symbol state (lookup_from_target moves symbol state positive step) in
        subst P (sym (origin_at origins state (suc parent, symbol) e)) (All-contains Low moves (symbol, state) low move)

    traced_within : (state : ℕ) (text : List ℕ) → IsTraced origins state text → state ≤ length origins
    traced_within state text (at_start e) = number_within origins state (0, 0) e
    traced_within state text (along {parent} {symbol} e rest) = number_within origins state (suc parent, symbol) e

    origins_enough : (count : ℕ) → count ≤ length states → count ≤ length origins
    origins_enough zero within = omega arith
    origins_enough (suc place) within =
        let item = item_within states place (omega arith) in
        let has = has_word place item.0 item.1 in
        traced_within (suc place) has.0 (is.traced (suc place) has.0 has.1.0)

    -- the states that lie on accepted texts are those that are explored
    pub in_order : (n : ℕ) → HasSymbols (pair_symbols n) explored → AreInOrder n table states origins
    in_order n has = record {
      lies = λ place state at.
          let word = has_word place state at in
          record { text = word.0; leads = leads_to word.0 state word.1.1; live = (live state).0 (marked_at place state at) };
      each = λ state lies.
          let there = leads_within is lies.text state (from_there lies.text state lies.leads ((live state).1 lies.live)) in
          (there.0, there.1.0);
      distinct = is.distinct;
      origins_enough = origins_enough (length states) (omega arith);
      from_earlier = is.from_earlier;
      symbols = λ place within.
          let item = item_within states place within in
          let word = has_word place item.0 item.1 in
          let least = is.least (suc place) word.0 word.1.0 in
          let P : ℕ → Type 0 = λ p. (get_or origins p (0, 0)).1 ≤ pair_symbols n in
          let back : suc place - 1 ≡ place = omega arith in
          subst P back (origin_symbol (pair_symbols n) has (suc place) word.0 (omega arith) least.leads
          (is.traced (suc place) word.0 word.1.0));
      text_of = text_at;
      ascending = λ p q state other text more less one two least next.
          is.ascending (suc p) (suc q) text more (omega arith) (least_word p state one text least) (least_word q other two more next);
    }

  -- there are no more of them than the table has states
  pub no_more_than_table : IsTable table → ¬ HasMoreStates (marked_part table marks) (length table.rows)
  no_more_than_table is =
      let count = length table.rows in
      let all : List ℕ = range_with_len 1 count in
      let long : length all ≡ count = length-range_with_len 1 count in
      no_more_states (marked_part table marks) all count (omega arith) (λ text state leads.
      let there = leads_to text state leads in
      let within = after_within table table.initial text is is.initial in
      let marked = (from_marked marks (state_after table text) state (sym (leads_part text) ∙ leads)).1 in
      let P : ℕ → Type 0 = λ s. IsLive table s in
      listed count state (subst P there ((live (state_after table text)).0 marked)) (omega (arith, there, within)))
    where
      listed : (count state : ℕ) → IsLive table state → state ≤ count → (place : ℕ) × (slice_get (range_with_len 1 count) place ≡ Some state)
      listed count zero alive within = absurd (none_live table alive)
      listed count (suc place) alive within =
          let all : List ℕ = range_with_len 1 count in
          let long : length all ≡ count = length-range_with_len 1 count in
          let number : 1 + place ≡ suc place = omega arith in
          (place, slice_get-get_or all place 0 (omega arith) ∙ ap (λ s. Some s) (get_or-range_with_len 1 count place 0 (omega arith) ∙ number))
