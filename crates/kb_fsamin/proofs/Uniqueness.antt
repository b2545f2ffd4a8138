-- One language has one canonical automaton: by strong induction on its number, a state of the one has the least text of
-- the state of that number in the other.
use Rattle.std.proofs.Common.{◌≡◌, ◌↔◌, ℕ, zero, suc, ◌<◌, ◌≤◌, Bool, true, false, IsTrue, List, [], ◌∷◌, ◌++◌, length, get_or, refl, sym, ap, ◌∙◌, subst, inl, inr, arith}
use Rattle.std.specs.Cmp.{both_ways}
use Rattle.std.proofs.lemmas.Bool.{cases_order, false_from_ne_true}
use Rattle.std.proofs.lemmas.List.{ext_get_or}
use Rattle.kb_word.specs.Words.{Less}
use Rattle.kb_word.specs.ShortlexLaws.{strong_induction, shortlex_irreflexive, shortlex_transitive}
use Rattle.kb_fsa.specs.Table.{Moves, Table, IsTable, moves_of, is_accepting, step, AcceptsFrom, state_after, IsLive, AreEquivalent}
use Rattle.kb_fsa.specs.Language.{Automaton, IsAutomaton, SameLanguage}
use Rattle.kb_fsa.specs.Canonical.{IsLeastText, IsState, IsCanonical}
use Rattle.kb_fsa.proofs.Lookups.{same_from_targets, IsRow-moves_of, after_within, after-append, after_none, accepting_positive}

-- what leads to acceptance is a state
pub accepted_positive : (table : Table) (state : ℕ) (text : List ℕ) → AcceptsFrom table state text → 0 < state
accepted_positive table zero text accepts =
    let P : ℕ → Type 0 = λ s. IsTrue (is_accepting table s) in
    let none = accepting_positive table 0 (subst P (after_none table text) accepts) in
    absurd (omega arith)
accepted_positive table (suc place) text accepts = omega arith

-- the number to which a text leads is that of a state, or 0
pub state_reached : (table : Table) → IsTable table → (text : List ℕ) → 0 < state_after table text → IsState table (state_after table text)
state_reached table is text positive =
    record { positive = positive; within = after_within table table.initial text is is.initial }

-- a text with more behind it is accepted where the text leads to a state from which the rest is
pub rest_accepted : (table : Table) (text more : List ℕ) → AcceptsFrom table table.initial (text ++ more)
    → AcceptsFrom table (state_after table text) more
rest_accepted table text more accepts =
    let P : ℕ → Type 0 = λ s. IsTrue (is_accepting table s) in
    subst P (after-append table table.initial text more) accepts

pub whole_accepted : (table : Table) (text more : List ℕ) → AcceptsFrom table (state_after table text) more
    → AcceptsFrom table table.initial (text ++ more)
whole_accepted table text more accepts =
    let P : ℕ → Type 0 = λ s. IsTrue (is_accepting table s) in
    subst P (sym (after-append table table.initial text more)) accepts

-- one more symbol takes one step more
pub step_after : (table : Table) (text : List ℕ) (symbol : ℕ)
    → state_after table (text ++ symbol ∷ []) ≡ step table (state_after table text) symbol
step_after table text symbol = after-append table table.initial text (symbol ∷ [])

-- a canonical table each of whose states leads to acceptance
record IsTrimmed (table : Table) : Type 0 where
  is_table : IsTable table
  canonical : IsCanonical table
  live : (state : ℕ) → IsState table state → IsLive table state

-- the texts that the one accepts are those that the other accepts
abbrev AcceptSame : Table → Table → Type 0
AcceptSame one other = (text : List ℕ) → AcceptsFrom one one.initial text ↔ AcceptsFrom other other.initial text

-- two such tables of one language
record ArePair (one other : Table) : Type 0 where
  first : IsTrimmed one
  second : IsTrimmed other
  same : AcceptSame one other

flipped : {one other : Table} → ArePair one other → ArePair other one
flipped pair =
    record { first = pair.second; second = pair.first; same = λ text. ((pair.same text).1, (pair.same text).0) }

-- a text leads in both to states of one right language
alike : {one other : Table} → ArePair one other → (text more : List ℕ) → AcceptsFrom one (state_after one text) more
    → AcceptsFrom other (state_after other text) more
alike {one = one} {other = other} pair text more accepts =
    rest_accepted other text more ((pair.same (text ++ more)).0 (whole_accepted one text more accepts))

-- a text that leads to a state in the one does in the other
positive_kept : {one other : Table} → ArePair one other → (text : List ℕ) → 0 < state_after one text → 0 < state_after other text
positive_kept {one = one} {other = other} pair text positive =
    let live = pair.first.live (state_after one text) (state_reached one pair.first.is_table text positive) in
    accepted_positive other (state_after other text) live.0 (alike pair text live.0 live.1)

none_kept : {one other : Table} → ArePair one other → (text : List ℕ) → state_after one text ≡ 0 → state_after other text ≡ 0
none_kept {one = one} {other = other} pair text none =
    elim (cases_order 0 (state_after other text)) [
      | inl here ↦ sym here
      | inr (inl more) ↦ let positive = positive_kept (flipped pair) text more in absurd (omega arith)
      | inr (inr less) ↦ absurd (omega arith)
    ]

-- texts that lead to one state in the one lead to one state in the other
same_kept : {one other : Table} → ArePair one other → (text others : List ℕ) → state_after one text ≡ state_after one others
    → state_after other text ≡ state_after other others
same_kept {one = one} {other = other} pair text others same =
    elim (cases_order 0 (state_after one text)) [
      | inl none ↦ none_kept pair text (sym none) ∙ sym (none_kept pair others (sym same ∙ sym none))
      | inr (inl some) ↦
          let here = positive_kept pair text some in
          let there = positive_kept pair others (omega arith) in
          let P = λ (z : List ℕ) (s : ℕ). AcceptsFrom one s z in
          let equivalent : AreEquivalent other (state_after other text) (state_after other others) = λ z. (
            λ accepts. alike pair others z (let Q : ℕ → Type 0 = P z in subst Q same (alike (flipped pair) text z accepts)),
            λ accepts. alike pair text z (let Q : ℕ → Type 0 = P z in subst Q (sym same) (alike (flipped pair) others z accepts)),
          ) in
          pair.second.canonical.reduced (state_after other text) (state_after other others)
          (state_reached other pair.second.is_table text here) (state_reached other pair.second.is_table others there) equivalent
      | inr (inr less) ↦ absurd (omega arith)
    ]

-- a state's least text is that of the state to which it leads in the other
least_kept : {one other : Table} → ArePair one other → (state : ℕ) (text : List ℕ) → IsLeastText one state text
    → IsLeastText other (state_after other text) text
least_kept pair state text least = record {
  leads = refl;
  least = λ earlier same. least.least earlier (same_kept (flipped pair) earlier text same ∙ least.leads);
}

-- texts that lead to the number in the one lead to it in the other
abbrev Keeps : Table → Table → ℕ → Type 0
Keeps one other k = (text : List ℕ) → state_after one text ≡ k → state_after other text ≡ k

-- no text leads to the number in the one and to a greater number in the other
not_above : {one other : Table} → ArePair one other → (k : ℕ) → 0 < k → ((m : ℕ) → m < k → Keeps one other m)
    → (text : List ℕ) → state_after one text ≡ k → ¬ (k < state_after other text)
not_above {one = one} {other = other} pair k positive lower text here above =
    let within = after_within other other.initial text pair.second.is_table pair.second.is_table.initial in
    let is_here : IsState one k =
    record { positive = positive; within = (let le = after_within one one.initial text pair.first.is_table pair.first.is_table.initial in omega arith) } in
    let is_there : IsState other k = record { positive = positive; within = omega arith } in
    let least = pair.first.canonical.reached k is_here in
    let rival = pair.second.canonical.reached k is_there in
    let leads : state_after other least.0 ≡ state_after other text = same_kept pair least.0 text (least.1.leads ∙ sym here) in
    let less : Less rival.0 least.0 =
    pair.second.canonical.numbered k (state_after other least.0) rival.0 least.0 positive (omega arith) rival.1
    (least_kept pair k least.0 least.1) in
    let moved = least_kept (flipped pair) k rival.0 rival.1 in
    elim (cases_order k (state_after one rival.0)) [
      | inl same ↦ least.1.least rival.0 (sym same) less
      | inr (inl more) ↦
          let greater = pair.first.canonical.numbered k (state_after one rival.0) least.0 rival.0 positive more least.1 moved in
          shortlex_irreflexive least.0 (shortlex_transitive least.0 rival.0 least.0 greater less)
      | inr (inr fewer) ↦
          let kept = lower (state_after one rival.0) fewer rival.0 refl in
          let is = rival.1.leads in
          omega arith
    ]

kept_above : {one other : Table} → ArePair one other → (k : ℕ) → ((m : ℕ) → m < k → Keeps one other m × Keeps other one m)
    → Keeps one other k
kept_above {one = one} {other = other} pair zero lower text here = none_kept pair text here
kept_above {one = one} {other = other} pair (suc k) lower text here =
    elim (cases_order (suc k) (state_after other text)) [
      | inl same ↦ sym same
      | inr (inl more) ↦ absurd (not_above pair (suc k) (omega arith) (λ m less. (lower m less).0) text here more)
      | inr (inr fewer) ↦ let kept = (lower (state_after other text) fewer).1 text refl in absurd (omega arith)
    ]

numbers_kept : {one other : Table} → ArePair one other → (k : ℕ) → Keeps one other k × Keeps other one k
numbers_kept {one = one} {other = other} pair =
    strong_induction (λ k. Keeps one other k × Keeps other one k)
    (λ k lower. (kept_above pair k lower, kept_above (flipped pair) k (λ m less. ((lower m less).1, (lower m less).0))))

-- a text leads to one number in both
one_number : {one other : Table} → ArePair one other → (text : List ℕ) → state_after one text ≡ state_after other text
one_number {one = one} pair text = sym ((numbers_kept pair (state_after one text)).0 text refl)

no_fewer : {one other : Table} → ArePair one other → length one.rows ≤ length other.rows
no_fewer {one = one} {other = other} pair =
    let start = pair.first.is_table.initial in
    let first = pair.first.canonical.initial in
    let last = pair.first.canonical.reached (length one.rows) (record { positive = omega arith; within = omega arith }) in
    let leads = last.1.leads in
    let same = one_number pair last.0 in
    let within = after_within other other.initial last.0 pair.second.is_table pair.second.is_table.initial in
    omega arith

one_step : {one other : Table} → ArePair one other → (state symbol : ℕ) → IsState one state
    → step one state symbol ≡ step other state symbol
one_step {one = one} {other = other} pair state symbol is =
    let least = pair.first.canonical.reached state is in
    let here = least.1.leads in
    let there : state_after other least.0 ≡ state = sym (one_number pair least.0) ∙ here in
    ap (λ s. step one s symbol) (sym here) ∙ sym (step_after one least.0 symbol) ∙ one_number pair (least.0 ++ symbol ∷ [])
    ∙ step_after other least.0 symbol ∙ ap (λ s. step other s symbol) there

accepts_alike : {one other : Table} → ArePair one other → (state : ℕ) → IsState one state
    → is_accepting one state ≡ true → is_accepting other state ≡ true
accepts_alike {one = one} {other = other} pair state is accepts =
    let least = pair.first.canonical.reached state is in
    let here = least.1.leads in
    let there : state_after other least.0 ≡ state = sym (one_number pair least.0) ∙ here in
    let P : ℕ → Type 0 = λ s. IsTrue (is_accepting one s) in
    let Q : ℕ → Type 0 = λ s. IsTrue (is_accepting other s) in
    subst Q there ((pair.same least.0).0 (subst P (sym here) accepts))

table_from_parts : (one other : Table) → one.initial ≡ other.initial → one.rows ≡ other.rows → one.accepting ≡ other.accepting
    → one ≡ other
table_from_parts one other initial rows accepting =
    let F : ℕ → List Moves → List Bool → Table = λ i r a. record { initial = i; rows = r; accepting = a } in
    ap (λ i. F i one.rows one.accepting) initial ∙ ap (λ r. F other.initial r one.accepting) rows
    ∙ ap (λ a. F other.initial other.rows a) accepting

trimmed_same : {one other : Table} → ArePair one other → one ≡ other
trimmed_same {one = one} {other = other} pair =
    let fewer = no_fewer pair in
    let more = no_fewer (flipped pair) in
    let size : length one.rows ≡ length other.rows = omega arith in
    let answers = pair.first.is_table.one_answer_each in
    let others = pair.second.is_table.one_answer_each in
    table_from_parts one other (pair.first.canonical.initial ∙ sym pair.second.canonical.initial)
    (ext_get_or [] one.rows other.rows size (λ place less.
    same_from_targets (moves_of one (suc place)) (moves_of other (suc place)) (IsRow-moves_of one (suc place) pair.first.is_table)
    (IsRow-moves_of other (suc place) pair.second.is_table)
    (λ symbol. one_step pair (suc place) symbol (record { positive = omega arith; within = omega arith }))))
    (ext_get_or false one.accepting other.accepting (omega arith) (λ place less.
    both_ways (is_accepting one (suc place)) (is_accepting other (suc place))
    (accepts_alike pair (suc place) (record { positive = omega arith; within = omega arith }))
    (accepts_alike (flipped pair) (suc place) (record { positive = omega arith; within = omega arith }))))

-- one state, without a move, that doesn't accept
abbrev IsBare : Table → Type 0
IsBare table = (length table.rows ≡ 1) × ((moves_of table 1 ≡ []) × ¬ IsLive table 1)

bare_row : (table : Table) → IsBare table → (place : ℕ) → place < 1 → get_or table.rows place [] ≡ []
bare_row table bare zero less = bare.1.0
bare_row table bare (suc place) less = absurd (omega arith)

bare_answer : (table : Table) → IsBare table → (place : ℕ) → place < 1 → get_or table.accepting place false ≡ false
bare_answer table bare zero less = false_from_ne_true (is_accepting table 1) (λ accepts. bare.1.1 ([], accepts))
bare_answer table bare (suc place) less = absurd (omega arith)

bare_same : (one other : Table) → IsTable one → IsTable other → one.initial ≡ other.initial → IsBare one → IsBare other → one ≡ other
bare_same one other first second initial bare others =
    let a = first.one_answer_each in
    let b = second.one_answer_each in
    let one_row = bare.0 in
    let other_row = others.0 in
    table_from_parts one other initial
    (ext_get_or [] one.rows other.rows (omega arith) (λ place less.
    bare_row one bare place (omega arith) ∙ sym (bare_row other others place (omega arith))))
    (ext_get_or false one.accepting other.accepting (omega arith) (λ place less.
    bare_answer one bare place (omega arith) ∙ sym (bare_answer other others place (omega arith))))

-- a table whose states all lead to acceptance accepts what a bare one doesn't
not_bare : (one other : Table) → IsTable one → one.initial ≡ 1 → other.initial ≡ 1
    → ((text : List ℕ) → AcceptsFrom one one.initial text → AcceptsFrom other other.initial text)
    → ((state : ℕ) → IsState one state → IsLive one state) → ¬ IsBare other
not_bare one other is initial others accepts live bare =
    let start = is.initial in
    let some = live 1 (record { positive = omega arith; within = omega arith }) in
    let P : ℕ → Type 0 = λ s. AcceptsFrom one s some.0 in
    let Q : ℕ → Type 0 = λ s. AcceptsFrom other s some.0 in
    bare.1.1 (some.0, subst Q others (accepts some.0 (subst P (sym initial) some.1)))

tables_same : (one other : Table) → IsTable one → IsTable other → IsCanonical one → IsCanonical other → AcceptSame one other → one ≡ other
tables_same one other first second canonical others same = elim canonical.trim [
  | inl live ↦ elim others.trim [
    | inl lives ↦
        trimmed_same (record {
          first = record { is_table = first; canonical = canonical; live = live };
          second = record { is_table = second; canonical = others; live = lives };
          same = same;
        })
    | inr bare ↦ absurd (not_bare one other first canonical.initial others.initial (λ text. (same text).0) live bare)
  ]
  | inr bare ↦ elim others.trim [
    | inl lives ↦ absurd (not_bare other one second others.initial canonical.initial (λ text. (same text).1) lives bare)
    | inr bares ↦ bare_same one other first second (canonical.initial ∙ sym others.initial) bare bares
  ]
]

pub one_canonical : (one other : Automaton) → IsAutomaton one → IsAutomaton other → one.alphabet ≡ other.alphabet
    → IsCanonical one.table → IsCanonical other.table → SameLanguage one other → one ≡ other
one_canonical one other first second alphabet canonical others same =
    let F = λ (a : _) (t : Table). let automaton : Automaton = record { alphabet = a; table = t } in automaton in
    ap (λ a. F a one.table) alphabet
    ∙ ap (λ t. F other.alphabet t) (tables_same one.table other.table first.table second.table canonical others same)
