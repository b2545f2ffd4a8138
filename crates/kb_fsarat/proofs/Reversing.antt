-- The automaton with each move turned round reads words backwards.
use Rattle.std.proofs.Common.{◌≡◌, ◌≢◌, ◌↔◌, ℕ, zero, suc, ◌<◌, ◌≤◌, false, true, IsTrue, List, [], ◌∷◌, length, get_or, set, replicate, refl, sym, ap, ◌∙◌, subst, inl, inr, arith}
use Rattle.std.specs.Prelude.{reverse}
use Rattle.std.specs.List.{All, Contains}
use Rattle.std.proofs.lemmas.Bool.{cases_lt, cases_eq}
use Rattle.std.proofs.lemmas.List.{reverse-append, length-replicate, length-set, get_or-replicate, get_or-set_same, get_or-set_other, get_or_past}
use Rattle.kb_fsa.specs.declared.alphabet.Alphabet.TheVariants.{Plain}
use Rattle.kb_fsa.specs.Table.{Moves, Table, IsTable, moves_of, is_accepting, step, after, AcceptsFrom}
use Rattle.kb_fsa.specs.Language.{Automaton, IsAutomaton, Accepts, generators, symbols}
use Rattle.kb_fsa.specs.Counted.{MoreSetsThan, IsBefore, CountedReverse}
use Rattle.kb_fsa.proofs.Lookups.{after-append}
use Rattle.kb_fsadet.specs.Nondeterministic.{Nondeterministic, IsNondeterministic, LeadsSomehow, AcceptsSomehow, LeadsFrom, moves_from, accepts_at}
use Rattle.kb_fsarat.specs.Reversal.{HaveAdded, TurnsFirst, IsTurned, IsListed, only}
use Rattle.kb_fsarat.proofs.MoveLists.{Contains-nil, Contains-same}
use Rattle.kb_fsarat.proofs.TableMoves.{IsMove-from_contains, symbol_within, step_from_move, move_from_step, accepting_state, accepts_from_state}
use Rattle.kb_fsarat.proofs.Nondeterminism.{IsNondeterministic-plain, MoreSetsThan-forth, MoreSetsThan-back, row_within}

-- a word's first letter is the last of the word backwards
after-reverse : (table : Table) (state symbol : ℕ) (text : List ℕ)
    → after table state (reverse (symbol ∷ text)) ≡ step table (after table state (reverse text)) symbol
after-reverse table state symbol text =
    ap (after table state) (reverse-append (symbol ∷ []) text) ∙ after-append table state (reverse text) (symbol ∷ [])

module _ (automaton : Automaton) (turned : Nondeterministic) (is : IsAutomaton automaton) (turns : IsTurned automaton turned) where
  moves_turned : (state symbol source : ℕ) → 0 < state
      → Contains (moves_from turned state) (symbol, source) ↔ Contains (moves_of automaton.table source) (symbol, state)
  moves_turned zero symbol source positive = absurd (let no : ⊥ = omega arith in no)
  moves_turned (suc place) symbol source positive = turns.moves place symbol source

  leads_forth : (state : ℕ) (text : List ℕ) (other : ℕ) → LeadsFrom turned state text other
      → after automaton.table other (reverse text) ≡ state
  leads_forth state [] other leads = sym leads
  leads_forth state (symbol ∷ text) other leads =
      let rest = leads_forth leads.0 text other leads.2 in
      after-reverse automaton.table other symbol text
      ∙ ap (λ s. step automaton.table s symbol) rest
      ∙ step_from_move automaton.table leads.0 symbol state is.table (first state leads.1)
    where
      first : (number : ℕ) → Contains (moves_from turned number) (symbol, leads.0) → Contains (moves_of automaton.table leads.0) (symbol, number)
      first zero has = absurd (Contains-nil (symbol, leads.0) has)
      first (suc place) has = (turns.moves place symbol leads.0).0 has

  leads_back : (state : ℕ) (text : List ℕ) (other : ℕ) → after automaton.table other (reverse text) ≡ state → 0 < state
      → LeadsFrom turned state text other
  leads_back state [] other leads positive = sym leads
  leads_back state (symbol ∷ text) other leads positive =
      let next = after automaton.table other (reverse text) in
      let move : Contains (moves_of automaton.table next) (symbol, state) =
      move_from_step automaton.table next symbol state (sym (after-reverse automaton.table other symbol text) ∙ leads) positive in
      let source = (IsMove-from_contains automaton.table next symbol state is.table move).from in
      (next, (moves_turned state symbol next positive).1 move, leads_back next text other refl source.positive)

  -- the states to which a word leads are those from which the word backwards leads to acceptance
  pub among_before : (text : List ℕ) (state : ℕ) → LeadsSomehow turned text state ↔ IsBefore automaton text state
  among_before text state = (
    λ among.
        let P : ℕ → Type 0 = λ s. IsTrue (is_accepting automaton.table s) in
        let accepts = subst P (sym (leads_forth among.start text state among.leads)) ((turns.initial among.start).0 among.is_initial) in
        record { is_state = accepts_from_state automaton.table state (reverse text) is.table accepts; accepts = accepts },
    λ before.
        let start = after automaton.table state (reverse text) in
        let starts = accepting_state automaton.table start is.table before.accepts in
        record {
          start = start;
          is_initial = (turns.initial start).1 before.accepts;
          leads = leads_back start text state refl starts.positive;
        },
  )

  pub accepts_turned : (text : List ℕ) → AcceptsSomehow turned text ↔ Accepts automaton (reverse text)
  accepts_turned text = (
    λ somehow.
        let initial = (turns.accepting somehow.0).0 somehow.2 in
        let P : ℕ → Type 0 = λ s. AcceptsFrom automaton.table s (reverse text) in
        subst P initial.0 ((among_before text somehow.0).0 somehow.1).accepts,
    λ accepts.
        let initial = automaton.table.initial in
        let starts = accepts_from_state automaton.table initial (reverse text) is.table accepts in
        let positive = starts.positive in (
          initial,
          (among_before text initial).1 (record { is_state = starts; accepts = accepts }),
          (turns.accepting initial).1 (refl, λ none. absurd (omega arith)),
        ),
  )

  pub turned_nondeterministic : (n : ℕ) → automaton.alphabet ≡ Plain n → IsNondeterministic turned
  turned_nondeterministic n plain =
      let small : n ≤ 65534 = let same : generators automaton.alphabet ≡ n = ap generators plain in let most = is.generators in omega arith in
      let count : symbols automaton.alphabet ≡ n = ap symbols plain in
      IsNondeterministic-plain n turned (turns.alphabet ∙ plain) small (turns.one_answer_each ∙ sym turns.one_row_each)
      (let size = is.table.size in let rows = turns.one_row_each in omega arith)
      (λ state has.
      let starts = accepting_state automaton.table state is.table ((turns.initial state).0 has) in
      let positive = starts.positive in let within = starts.within in let rows = turns.one_row_each in
      (positive, omega arith))
      (λ place symbol source has.
      let move = (turns.moves place symbol source).0 has in
      let bounds = IsMove-from_contains automaton.table source symbol (suc place) is.table move in
      let most = symbol_within automaton.table (symbols automaton.alphabet) source symbol (suc place) is.symbols move in
      let positive = bounds.from.positive in let within = bounds.from.within in let rows = turns.one_row_each in
      ((bounds.positive, omega arith), (positive, omega arith)))

-- the sets of states to which words lead are counted as those from which words backwards lead to acceptance
pub counted_backwards : (automaton : Automaton) (nfa : Nondeterministic)
    → ((text : List ℕ) (state : ℕ) → LeadsSomehow nfa text state ↔ IsBefore automaton text state)
    → (m : ℕ) → MoreSetsThan (LeadsSomehow nfa) m ↔ CountedReverse automaton m
counted_backwards automaton nfa same m = (
  MoreSetsThan-forth (LeadsSomehow nfa) (IsBefore automaton) (λ state. state) m same,
  MoreSetsThan-back (LeadsSomehow nfa) (IsBefore automaton) (λ state. state) m same (λ text state has. (state, refl)),
)

-- ---- the parts

-- the answers of which one alone is true
pub length-only : (state count : ℕ) → length (only state count) ≡ count
length-only zero count = length-replicate count false
length-only (suc place) count = length-set (replicate count false) place true ∙ length-replicate count false

get_or-falses : (count place : ℕ) → get_or (replicate count false) place false ≡ false
get_or-falses count place =
    elim (cases_lt place count) [
      | inl within ↦ get_or-replicate count place false false within
      | inr past ↦ get_or_past (replicate count false) place false (omega (arith, length-replicate count false))
    ]

true_only : (initial count place : ℕ) → initial ≤ count → IsTrue (get_or (only initial count) place false) ↔ (suc place ≡ initial)
true_only zero count place within = (
  λ yes. absurd (let none = get_or-falses count place in let no : ⊥ = cc in no),
  λ same. absurd (let no : ⊥ = omega arith in no),
)
true_only (suc at) count place within =
    let falses = replicate count false in
    let long : at < length falses = omega (arith, length-replicate count false) in
    elim (cases_eq place at) [
      | inl here ↦ (
        λ yes. ap suc here,
        λ same. ap (λ p. get_or (set falses at true) p false) here ∙ get_or-set_same falses at true false long,
      )
      | inr there ↦ (
        λ yes.
            let other = get_or-set_other falses at place true false there in
            let none = get_or-falses count place in
            absurd (let no : ⊥ = cc in no),
        λ same. absurd (there (let one : place ≡ at = omega arith in one)),
      )
    ]

pub accepts_only : (initial count : ℕ) (nfa : Nondeterministic) → nfa.accepting ≡ only initial count → initial ≤ count
    → (state : ℕ) → IsTrue (accepts_at nfa state) ↔ ((state ≡ initial) × (state ≢ 0))
accepts_only initial count nfa is within zero = (λ yes. absurd (let no : ⊥ = cc in no), λ same. absurd (same.1 refl))
accepts_only initial count nfa is within (suc place) =
    let answer : get_or nfa.accepting place false ≡ get_or (only initial count) place false = ap (λ answers. get_or answers place false) is in (
      λ yes. ((true_only initial count place within).0 (sym answer ∙ yes), λ none. absurd (let no : ⊥ = omega arith in no)),
      λ same. answer ∙ (true_only initial count place within).1 same.0,
    )

-- the states that are listed are those that accept
pub listed_accepting : (table : Table) (states : List ℕ) → IsTable table
    → ((state : ℕ) → Contains states state ↔ IsListed table.accepting (length table.accepting) state)
    → (state : ℕ) → Contains states state ↔ IsTrue (is_accepting table state)
listed_accepting table states is listed zero = (
  λ has. let numbered = ((listed 0).0 has).numbered in absurd (let no : ⊥ = omega arith in no),
  λ yes. absurd (let no : ⊥ = cc in no),
)
listed_accepting table states is listed (suc place) = (
  λ has.
      let one = (listed (suc place)).0 has in
      let same : one.place ≡ place = let numbered = one.numbered in omega arith in
      let P : ℕ → Type 0 = λ p. IsTrue (get_or table.accepting p false) in
      subst P same one.accepts,
  λ yes.
      let state = accepting_state table (suc place) is yes in
      (listed (suc place)).1 (record {
        place = place;
        is_first = let within = state.within in let count = is.one_answer_each in omega arith;
        accepts = yes;
        numbered = refl;
      }),
)

-- the rows to which all moves were added, turned round
pub rows_turned : (table : Table) (rows : List Moves) → IsTable table
    → HaveAdded (replicate (length table.rows) []) rows (TurnsFirst table.rows (length table.rows))
    → (place symbol source : ℕ) → Contains (get_or rows place []) (symbol, source) ↔ Contains (moves_of table source) (symbol, suc place)
rows_turned table rows is have place symbol source = (
  λ has. elim ((have.moves place (symbol, source)).0 has) [
    | inl old ↦ absurd (no_moves (length table.rows) place (symbol, source) old)
    | inr added ↦
        let P : ℕ → Type 0 = λ s. Contains (moves_of table s) (symbol, suc place) in
        subst P (sym added.turned.0) added.turned.1
  ],
  λ has. (have.moves place (symbol, source)).1 (inr (first source has)),
)
  where
    no_moves : (count at : ℕ) (move : ℕ × ℕ) → ¬ Contains (get_or (replicate count []) at []) move
    no_moves count at move has =
        let within = row_within (replicate count []) at move has in
        let rows_length = length-replicate {A = Moves} count [] in
        Contains-nil move (Contains-same _ _ move (get_or-replicate count at [] [] (omega arith)) has)

    first : (number : ℕ) → Contains (moves_of table number) (symbol, suc place) → TurnsFirst table.rows (length table.rows) place (symbol, number)
    first zero has = absurd (Contains-nil (symbol, suc place) has)
    first (suc from) has = record { source = from; is_first = row_within table.rows from (symbol, suc place) has; turned = (refl, has) }

-- targets are states
pub targets_are_states : (table : Table) → IsTable table → All (All (λ move. (0 < move.1) × (move.1 ≤ length table.rows))) table.rows
targets_are_states table is k d within i e in_range = (((is.rows k d within).numbers i e in_range).1, is.targets k d within i e in_range)

pub turned_parts : (automaton : Automaton) (parts : Nondeterministic) → IsAutomaton automaton → parts.alphabet ≡ automaton.alphabet
    → HaveAdded (replicate (length automaton.table.rows) []) parts.rows (TurnsFirst automaton.table.rows (length automaton.table.rows))
    → ((state : ℕ) → Contains parts.initial state ↔ IsListed automaton.table.accepting (length automaton.table.accepting) state)
    → parts.accepting ≡ only automaton.table.initial (length automaton.table.rows) → IsTurned automaton parts
turned_parts automaton parts is alphabet rows initial accepting = record {
  alphabet = alphabet;
  one_row_each = rows.one_row_each ∙ length-replicate {A = Moves} (length automaton.table.rows) [];
  one_answer_each = ap length accepting ∙ length-only automaton.table.initial (length automaton.table.rows);
  moves = rows_turned automaton.table parts.rows is.table rows;
  initial = listed_accepting automaton.table parts.initial is.table initial;
  accepting = accepts_only automaton.table.initial (length automaton.table.rows) parts accepting is.table.initial;
}
