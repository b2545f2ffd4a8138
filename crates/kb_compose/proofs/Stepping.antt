-- Where pairs of words with a letter more lead, where accepting states stay under two paddings.
use Rattle.std.proofs.Common.{◌≡◌, ◌≢◌, ℕ, suc, ◌+◌, ◌<◌, ◌≤◌, max, Bool, true, false, IsTrue, if◌then◌else◌, List, [], ◌∷◌, length, get_or, take, Contains, refl, sym, ap, ap₂, ◌∙◌, subst, inl, inr, arith}
use Rattle.std.specs.List.{All}
use Rattle.std.proofs.lemmas.Bool.{cases_lt}
use Rattle.std.proofs.lemmas.List.{get_or_past, take_all, length-take}
use Rattle.std.proofs.lemmas.List.Elements.{All-nil, All-contains, Contains-append_cases, Contains-append_left, Contains-append_right}
use Rattle.kb_word.specs.Relations.{IsOver}
use Rattle.kb_fsa.specs.Table.{Table, IsTable, HasSymbols, Moves, state_after, step, moves_of, is_accepting}
use Rattle.kb_fsa.specs.PairSymbols.{pair_symbol, pair_symbols}
use Rattle.kb_fsa.specs.Padding.{padded, IsPadded}
use Rattle.kb_fsa.specs.declared.alphabet.Alphabet.{Alphabet}
use Rattle.kb_fsa.specs.declared.alphabet.Alphabet.TheVariants.{Pair}
use Rattle.kb_fsa.specs.Language.{Automaton, IsAutomaton, IsTextOf, generators, symbols}
use Rattle.kb_fsa.proofs.PairSymbolLaws.{square, last_row, pair_symbol-injective}
use Rattle.kb_fsa.proofs.Paddings.{letter_or_padding}
use Rattle.kb_fsa.proofs.Lookups.{IsRow-moves_of, All-moves_of, entry_from_lookup, lookup_from_entry, lookup_from_target, target_some}
use Rattle.kb_fsadet.proofs.Sets.{Contains-none, Contains-here, Contains-cons_cases}
use Rattle.kb_compose.specs.Composition.{IsAfterPadded}
use Rattle.kb_compose.specs.StatePairs.{stay, staying_moves}
use Rattle.kb_compose.proofs.Texts.{padded_last, padding_past, after_push}

-- the table of an automaton of pairs over n letters
pub record IsPairTable (n : ℕ) (table : Table) : Type 0 where
  pub is_table : IsTable table
  pub symbols : HasSymbols (pair_symbols n) table
  pub texts : (text : List ℕ) → state_after table text ≢ 0 → IsPadded n text

-- the pair of two paddings comes after all symbols
pub two_paddings : (n : ℕ) → pair_symbol n (n + 1) (n + 1) ≡ pair_symbols n + 1
two_paddings n = let row = last_row n (n + 1) in let whole = square n in omega arith

-- a move, or a stay
pub data IsStayOrStep (n : ℕ) (table : Table) (state symbol target : ℕ) : Type 0 where
  steps : step table state symbol ≡ target → 0 < target → IsStayOrStep n table state symbol target
  stays : symbol ≡ pair_symbol n (n + 1) (n + 1) → state ≡ target → IsTrue (is_accepting table state)
      → IsStayOrStep n table state symbol target

module _ (n : ℕ) (table : Table) (is : IsPairTable n table) where
  -- what a move leads to
  step_of_move : (state symbol target : ℕ) → Contains (moves_of table state) (symbol, target)
      → (step table state symbol ≡ target) × (0 < target)
  step_of_move state symbol target move =
      let row = IsRow-moves_of table state is.is_table in (
        target_some (moves_of table state) symbol target (lookup_from_entry (moves_of table state) symbol target row.ascends move),
        (All-contains (λ (m : ℕ × ℕ). (0 < m.0) × (0 < m.1)) (moves_of table state) (symbol, target) row.numbers move).1,
      )

  move_of_step : (state symbol target : ℕ) → step table state symbol ≡ target → 0 < target
      → Contains (moves_of table state) (symbol, target)
  move_of_step state symbol target leads some =
      entry_from_lookup (moves_of table state) symbol target (lookup_from_target (moves_of table state) symbol target some leads)

  pub none_by_paddings : (state : ℕ) → ¬ (0 < step table state (pair_symbol n (n + 1) (n + 1)))
  none_by_paddings state some =
      let symbol = pair_symbol n (n + 1) (n + 1) in
      let move = move_of_step state symbol (step table state symbol) refl some in
      let P = λ (m : ℕ × ℕ). m.0 ≤ pair_symbols n in
      let low : symbol ≤ pair_symbols n =
      All-contains P (moves_of table state) (symbol, step table state symbol) (All-moves_of (All P) table state (All-nil P) is.symbols) move in
      omega (arith, two_paddings n)

  in_stay : (state : ℕ) (b : Bool) (symbol target : ℕ) → is_accepting table state ≡ b
      → Contains (let moves : Moves = if b then (pair_symbol n (n + 1) (n + 1), state) ∷ [] else [] in moves) (symbol, target)
      → (symbol ≡ pair_symbol n (n + 1) (n + 1)) × (state ≡ target) × IsTrue (is_accepting table state)
  in_stay state true symbol target accepts at =
      elim (Contains-cons_cases (pair_symbol n (n + 1) (n + 1), state) [] (symbol, target) at) [
        | inl same ↦ (sym (ap (λ (m : ℕ × ℕ). m.0) same), ap (λ (m : ℕ × ℕ). m.1) same, accepts)
        | inr none ↦ absurd (Contains-none (symbol, target) none)
      ]
  in_stay state false symbol target accepts at = absurd (Contains-none (symbol, target) at)

  pub from_staying : (state symbol target : ℕ) → Contains (staying_moves n table state) (symbol, target)
      → IsStayOrStep n table state symbol target
  from_staying state symbol target at =
      elim (Contains-append_cases (moves_of table state) (stay n table state) (symbol, target) at) [
        | inl move ↦ let leads = step_of_move state symbol target move in steps leads.0 leads.1
        | inr there ↦ let still = in_stay state (is_accepting table state) symbol target refl there in stays still.0 still.1 still.2
      ]

  -- the symbols of all moves are those of pairs, or of two paddings
  pub staying_symbol : (state symbol target : ℕ) → Contains (staying_moves n table state) (symbol, target)
      → (0 < symbol) × (symbol ≤ pair_symbols n + 1)
  staying_symbol state symbol target at =
      elim (Contains-append_cases (moves_of table state) (stay n table state) (symbol, target) at) [
        | inl move ↦
            let row = IsRow-moves_of table state is.is_table in
            let P = λ (m : ℕ × ℕ). m.0 ≤ pair_symbols n in
            let low = All-contains P (moves_of table state) (symbol, target) (All-moves_of (All P) table state (All-nil P) is.symbols) move in
            ((All-contains (λ (m : ℕ × ℕ). (0 < m.0) × (0 < m.1)) (moves_of table state) (symbol, target) row.numbers move).0, omega arith)
        | inr there ↦
            let still = in_stay state (is_accepting table state) symbol target refl there in
            let same = still.0 in
            let last = two_paddings n in
            (omega arith, omega arith)
      ]

  stay_there : (state : ℕ) → IsTrue (is_accepting table state) → Contains (stay n table state) (pair_symbol n (n + 1) (n + 1), state)
  stay_there state accepts =
      let P : Bool → Type 0 = λ b. Contains (let moves : Moves = if b then (pair_symbol n (n + 1) (n + 1), state) ∷ [] else [] in moves)
      (pair_symbol n (n + 1) (n + 1), state) in
      subst P (sym accepts) (Contains-here (pair_symbol n (n + 1) (n + 1), state) [])

  pub to_staying : (state symbol target : ℕ) → IsStayOrStep n table state symbol target
      → Contains (staying_moves n table state) (symbol, target)
  to_staying state symbol target (steps leads some) =
      Contains-append_left (moves_of table state) (stay n table state) (symbol, target) (move_of_step state symbol target leads some)
  to_staying state symbol target (stays same still accepts) =
      let P : ℕ → Type 0 = λ s. Contains (staying_moves n table state) (s, target) in
      let Q : ℕ → Type 0 = λ t. Contains (staying_moves n table state) (pair_symbol n (n + 1) (n + 1), t) in
      subst P (sym same) (subst Q still
      (Contains-append_right (moves_of table state) (stay n table state) (pair_symbol n (n + 1) (n + 1), state) (stay_there state accepts)))

  -- ---- words with a letter more

  module _ (k : ℕ) (x y : List ℕ) (over_x : IsOver n x) (over_y : IsOver n y) (short_x : length x ≤ suc k) (short_y : length y ≤ suc k) where
    -- the symbol at the place k
    abbrev symbol_there : ℕ
    symbol_there = pair_symbol n (get_or x k (n + 1)) (get_or y k (n + 1))

    -- the state before it
    abbrev state_before : ℕ
    state_before = state_after table (padded n (take k x) (take k y))

    leads_on : max (length x) (length y) ≡ suc k → state_after table (padded n x y) ≡ step table state_before symbol_there
    leads_on long =
        ap (state_after table) (padded_last n k x y long)
        ∙ after_push table table.initial (padded n (take k x) (take k y)) symbol_there

    both_past : max (length x) (length y) ≤ k → symbol_there ≡ pair_symbol n (n + 1) (n + 1)
    both_past short = ap₂ (pair_symbol n) (get_or_past x k (n + 1) (omega arith)) (get_or_past y k (n + 1) (omega arith))

    same_words : max (length x) (length y) ≤ k → padded n (take k x) (take k y) ≡ padded n x y
    same_words short = ap₂ (padded n) (take_all k x (omega arith)) (take_all k y (omega arith))

    pub before_padded : (target : ℕ) → IsAfterPadded n table x y (suc k) target
        → (state : ℕ) × (IsAfterPadded n table (take k x) (take k y) k state × IsStayOrStep n table state symbol_there target)
    before_padded target after_all =
        elim (cases_lt (max (length x) (length y)) (suc k)) [
          | inl short ↦
              let accepts = after_all.stays short in
              let same = same_words (omega arith) in (
                target,
                (
                  record {
                    leads = ap (state_after table) same ∙ after_all.leads;
                    some = after_all.some;
                    stays = λ _. accepts;
                  },
                  stays (both_past (omega arith)) refl accepts,
                ),
              )
          | inr long ↦
              let whole : max (length x) (length y) ≡ suc k = omega arith in
              let on : step table state_before symbol_there ≡ target = sym (leads_on whole) ∙ after_all.leads in
              let some = after_all.some in
              let target_some : 0 < target = omega arith in (
                state_before,
                (
                  record {
                    leads = refl;
                    some = λ none.
                        let nowhere : 0 ≡ target = ap (λ s. step table s symbol_there) (sym none) ∙ on in omega arith;
                    stays = λ less. absurd (omega (arith, length-take k x, length-take k y));
                  },
                  steps on target_some,
                ),
              )
        ]

    pub after_padded : (state target : ℕ) → IsAfterPadded n table (take k x) (take k y) k state → IsStayOrStep n table state symbol_there target
        → IsAfterPadded n table x y (suc k) target
    after_padded state target before (steps leads some) =
        elim (cases_lt (max (length x) (length y)) (suc k)) [
          | inl short ↦
              let P : ℕ → Type 0 = λ s. 0 < step table state s in
              let moved : 0 < step table state symbol_there = omega arith in
              absurd (none_by_paddings state (subst P (both_past (omega arith)) moved))
          | inr long ↦
              let whole : max (length x) (length y) ≡ suc k = omega arith in
              record {
                leads = leads_on whole ∙ ap (λ s. step table s symbol_there) before.leads ∙ leads;
                some = λ none. omega arith;
                stays = λ less. absurd (omega arith);
              }
        ]
    after_padded state target before (stays same still accepts) =
        let letters = pair_symbol-injective n (get_or x k (n + 1)) (get_or y k (n + 1)) (n + 1) (n + 1)
        (letter_or_padding n x k over_x).0 (omega arith) (letter_or_padding n y k over_y) (omega arith, omega arith) same in
        let past_x = padding_past n k x over_x letters.0 in
        let past_y = padding_past n k y over_y letters.1 in
        let there : state_after table (padded n x y) ≡ state = ap (state_after table) (sym (same_words (omega arith))) ∙ before.leads in
        let P : ℕ → Type 0 = λ s. IsTrue (is_accepting table s) in
        let some = before.some in
        record {
          leads = there ∙ still;
          some = λ none. some (still ∙ none);
          stays = λ _. subst P still accepts;
        }

-- ---- automata of pairs

pub pair_table : (automaton : Automaton) (n : ℕ) → automaton.alphabet ≡ Pair n → IsAutomaton automaton → IsPairTable n automaton.table
pair_table automaton n pairs is =
    let P : ℕ → Type 0 = λ k. HasSymbols k automaton.table in
    record {
      is_table = is.table;
      symbols = subst P (ap symbols pairs) is.symbols;
      texts = λ text some. let Q : Alphabet → Type 0 = λ alphabet. IsTextOf alphabet text in subst Q pairs (is.texts text some);
    }

pub pair_alphabet : (alphabet : Alphabet) (n : ℕ) → alphabet ≡ Pair n → alphabet ≡ Pair (generators alphabet)
pair_alphabet alphabet n is = is ∙ ap (λ m. Pair m) (sym (ap generators is))
