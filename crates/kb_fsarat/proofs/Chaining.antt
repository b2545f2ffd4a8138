-- The automaton of the states of two leads to the sets that `concat` counts.
use Rattle.std.proofs.Common.{◌≡◌, ◌≢◌, ◌↔◌, ◌⊎◌, ℕ, zero, suc, ◌+◌, ◌-◌, ◌<◌, ◌≤◌, ◌^◌, Bool, true, false, nat_le, IsTrue, List, [], ◌∷◌, ◌++◌, length, get_or, map, replicate, refl, sym, ap, ◌∙◌, subst, inl, inr, arith}
use Rattle.std.specs.Bool.{if◌then◌else◌}
use Rattle.std.specs.List.{Contains}
use Rattle.std.proofs.lemmas.Bool.{cases_lt}
use Rattle.std.proofs.lemmas.Bool.Decides.{nat_tests}
use Rattle.std.proofs.lemmas.List.{length-append, length-map, length-replicate, get_or-replicate, get_or_append_left, get_or-append_right, get_or-map, get_or_past}
use Rattle.std.proofs.lemmas.List.Elements.{Contains-append_left, Contains-append_right, Contains-append_cases}
use Rattle.kb_fsa.specs.declared.alphabet.Alphabet.TheVariants.{Plain}
use Rattle.kb_fsa.specs.Table.{Moves, Table, IsTable, moves_of, is_accepting, step, after, state_after}
use Rattle.kb_fsa.specs.Language.{Automaton, IsAutomaton, AcceptsText, generators, symbols}
use Rattle.kb_fsa.specs.Canonical.{IsState}
use Rattle.kb_fsa.specs.Counted.{OfTwo, of_first, of_second, IsAfterConcat, in_first, in_second, CountedConcat, MoreSetsThan}
use Rattle.kb_fsa.proofs.Lookups.{after_within, step_within}
use Rattle.kb_fsadet.specs.Nondeterministic.{Nondeterministic, IsNondeterministic, LeadsSomehow, AcceptsSomehow, LeadsFrom, moves_from, accepts_at}
use Rattle.kb_fsarat.specs.Products.{IsSplit}
use Rattle.kb_fsarat.specs.Restarts.{restarting, shifted}
use Rattle.kb_fsarat.specs.Chains.{of_two, start_of, start_after, initial_with}
use Rattle.kb_fsarat.proofs.MoveLists.{Contains-nil, Contains-same, Contains-cons_cases, Contains-map, Contains-if}
use Rattle.kb_fsarat.proofs.TableMoves.{IsMove-from_contains, symbol_within, step_from_move, move_from_step, leads_from_state, accepting_state, accepts_from_state}
use Rattle.kb_fsarat.proofs.Nondeterminism.{IsNondeterministic-plain, MoreSetsThan-forth, MoreSetsThan-back, HasMovesWithin}
use Rattle.kb_fsarat.proofs.Restarting.{IsRestart, Contains-restarting, HasRestarts, leads-append, leads_plainly, leads_to_start, leads_cases}

-- ---- starts

pub Contains-start_of : (initial state : ℕ) → Contains (start_of initial) state ↔ ((state ≡ initial) × (0 < initial))
Contains-start_of zero state = (λ has. absurd (Contains-nil state has), λ same. absurd (let no : ⊥ = omega arith in no))
Contains-start_of (suc place) state = (
  λ has. elim (Contains-cons_cases (suc place) [] state has) [
    | inl here ↦ (sym here, omega arith)
    | inr none ↦ absurd (Contains-nil state none)
  ],
  λ same. (0, omega arith, sym same.0),
)

pub Contains-start_after : (count initial state : ℕ) → Contains (start_after count initial) state ↔ ((state ≡ count + initial) × (0 < initial))
Contains-start_after count initial state = (
  λ has.
      let from = (Contains-map (λ s. count + s) (start_of initial) state).0 has in
      let start = (Contains-start_of initial from.0).0 from.1.0 in
      (sym from.1.1 ∙ ap (λ s. count + s) start.0, start.1),
  λ same.
      (Contains-map (λ s. count + s) (start_of initial) state).1 (initial, ((Contains-start_of initial initial).1 (refl, same.1), sym same.0)),
)

pub Contains-initial_with : (table : Table) (starts : List ℕ) (state : ℕ) → Contains (initial_with table starts) state
    ↔ (((state ≡ table.initial) × (0 < table.initial)) ⊎ (IsTrue (is_accepting table table.initial) × Contains starts state))
Contains-initial_with table starts state =
    let others = if is_accepting table table.initial then starts else [] in (
      λ has. elim (Contains-append_cases (start_of table.initial) others state has) [
        | inl own ↦ inl ((Contains-start_of table.initial state).0 own)
        | inr other ↦ inr ((Contains-if (is_accepting table table.initial) starts state).0 other)
      ],
      λ has. elim has [
        | inl own ↦ Contains-append_left (start_of table.initial) others state ((Contains-start_of table.initial state).1 own)
        | inr other ↦
            Contains-append_right (start_of table.initial) others state ((Contains-if (is_accepting table table.initial) starts state).1 other)
      ],
    )

-- ---- numbers of the states of two

pub of_two_first : (count state : ℕ) → state ≤ count → of_two count state ≡ of_first state
of_two_first count state within = by (nat_le state count) (grind (arith, nat_tests))
  where
    by : (b : Bool) → b ≡ true → (if b then of_first state else of_second (state - count)) ≡ of_first state
    by true e = refl
    by false e = absurd (let no : ⊥ = cc in no)

pub of_two_second : (count state : ℕ) → 0 < state → of_two count (count + state) ≡ of_second state
of_two_second count state positive =
    by (nat_le (count + state) count) (grind (arith, nat_tests)) ∙ ap of_second (let same : count + state - count ≡ state = omega arith in same)
  where
    by : (b : Bool) → b ≡ false → (if b then of_first (count + state) else of_second (count + state - count)) ≡ of_second (count + state - count)
    by false e = refl
    by true e = absurd (let no : ⊥ = cc in no)

first_inverse : {one two : Automaton} {word : List ℕ} {state : ℕ} → IsAfterConcat one two word (of_first state)
    → (state_after one.table word ≡ state) × (state ≢ 0)
first_inverse (in_first leads some) = (leads, some)

-- how a word leads to a state of the second
record IsInSecond (one two : Automaton) (word : List ℕ) (state : ℕ) : Type 0 where
  front : List ℕ
  back : List ℕ
  whole : word ≡ front ++ back
  accepts : AcceptsText one front
  leads : state_after two.table back ≡ state
  some : state ≢ 0

second_inverse : {one two : Automaton} {word : List ℕ} {state : ℕ} → IsAfterConcat one two word (of_second state) → IsInSecond one two word state
second_inverse (in_second front back whole accepts leads some) =
    record { front = front; back = back; whole = whole; accepts = accepts; leads = leads; some = some }

-- ---- the automaton

-- the parts of the automaton of the states of two
pub record IsChained (one two : Automaton) (nfa : Nondeterministic) : Type 0 where
  pub alphabet : nfa.alphabet ≡ one.alphabet
  pub initial : nfa.initial ≡ initial_with one.table (start_after (length one.table.rows) two.table.initial)
  pub rows : nfa.rows ≡ map (restarting one.table (start_after (length one.table.rows) two.table.initial)) one.table.rows
      ++ map (shifted (length one.table.rows)) two.table.rows
  pub accepting : nfa.accepting ≡ replicate (length one.table.rows) false ++ two.table.accepting

-- the moves of a state stand at the place before it
pub moves_at : (nfa : Nondeterministic) (state place : ℕ) → state ≡ suc place → moves_from nfa state ≡ get_or nfa.rows place []
moves_at nfa state place is = ap (moves_from nfa) is

mapped_row : (f : Moves → Moves) (rows : List Moves) (place : ℕ) → f [] ≡ [] → get_or (map f rows) place [] ≡ f (get_or rows place [])
mapped_row f rows place none =
    elim (cases_lt place (length rows)) [
      | inl within ↦ get_or-map f rows place [] [] within
      | inr past ↦
          get_or_past (map f rows) place [] (omega (arith, length-map rows f))
          ∙ sym (ap f (get_or_past rows place [] past) ∙ none)
    ]

-- a state is the one after its place
pub place_of : (state : ℕ) → 0 < state → (place : ℕ) × (state ≡ suc place)
place_of zero positive = absurd (let no : ⊥ = omega arith in no)
place_of (suc place) positive = (place, refl)

module _ (one two : Automaton) (nfa : Nondeterministic) (is_one : IsAutomaton one) (is_two : IsAutomaton two) (chain : IsChained one two nfa) where
  row_first : (place : ℕ) → place < length one.table.rows
      → get_or nfa.rows place [] ≡ restarting one.table (start_after (length one.table.rows) two.table.initial) (get_or one.table.rows place [])
  row_first place within =
      let f = restarting one.table (start_after (length one.table.rows) two.table.initial) in
      ap (λ rows. get_or rows place []) chain.rows
      ∙ get_or_append_left (map f one.table.rows) (map (shifted (length one.table.rows)) two.table.rows) [] place
      (omega (arith, length-map one.table.rows f))
      ∙ mapped_row f one.table.rows place refl

  row_second : (place : ℕ) → get_or nfa.rows (length one.table.rows + place) [] ≡ shifted (length one.table.rows) (get_or two.table.rows place [])
  row_second place =
      let n = length one.table.rows in
      let f = restarting one.table (start_after n two.table.initial) in
      ap (λ rows. get_or rows (n + place) []) chain.rows
      ∙ get_or-append_right (map f one.table.rows) (map (shifted n) two.table.rows) n (n + place) [] (length-map one.table.rows f) (omega arith)
      ∙ ap (λ p. get_or (map (shifted n) two.table.rows) p []) (let same : n + place - n ≡ place = omega arith in same)
      ∙ mapped_row (shifted n) two.table.rows place refl

  count_rows : length nfa.rows ≡ length one.table.rows + length two.table.rows
  count_rows =
      let n = length one.table.rows in
      let f = restarting one.table (start_after n two.table.initial) in
      ap length chain.rows ∙ length-append (map f one.table.rows) (map (shifted n) two.table.rows)
      ∙ ap (λ k. k + length (map (shifted n) two.table.rows)) (length-map one.table.rows f)
      ∙ ap (λ k. n + k) (length-map two.table.rows (shifted n))

  pub first_restarts : HasRestarts one.table (start_after (length one.table.rows) two.table.initial) nfa
  first_restarts state symbol next is = by (place_of state is.positive)
    where
      by : (place : ℕ) × (state ≡ suc place)
          → Contains (moves_from nfa state) (symbol, next)
          ↔ (Contains (moves_of one.table state) (symbol, next)
          ⊎ IsRestart one.table (start_after (length one.table.rows) two.table.initial) (moves_of one.table state) symbol next)
      by at =
          let within : at.0 < length one.table.rows = let low = is.within in omega (arith, at.1) in
          let P : Moves → Type 0 = λ moves. Contains (moves_from nfa state) (symbol, next)
          ↔ (Contains moves (symbol, next)
          ⊎ IsRestart one.table (start_after (length one.table.rows) two.table.initial) moves symbol next) in
          let row = moves_at nfa state at.0 at.1 ∙ row_first at.0 within in
          let cases = Contains-restarting one.table (start_after (length one.table.rows) two.table.initial) (get_or one.table.rows at.0 []) symbol next in
          subst P (sym (ap (moves_of one.table) at.1))
          ((λ has. cases.0 (Contains-same _ _ (symbol, next) row has)), (λ has. Contains-same _ _ (symbol, next) (sym row) (cases.1 has)))

  -- a move between states of the second
  second_move : (state symbol next : ℕ) → 0 < state
      → Contains (moves_from nfa (length one.table.rows + state)) (symbol, next)
      ↔ ((target : ℕ) × (Contains (moves_of two.table state) (symbol, target) × (next ≡ length one.table.rows + target)))
  second_move state symbol next positive = by (place_of state positive)
    where
      by : (place : ℕ) × (state ≡ suc place)
          → Contains (moves_from nfa (length one.table.rows + state)) (symbol, next)
          ↔ ((target : ℕ) × (Contains (moves_of two.table state) (symbol, target) × (next ≡ length one.table.rows + target)))
      by at =
          let n = length one.table.rows in
          let row = moves_at nfa (n + state) (n + at.0) (let e = at.1 in omega arith) ∙ row_second at.0 in
          let own : moves_of two.table state ≡ get_or two.table.rows at.0 [] = ap (moves_of two.table) at.1 in
          let cases = Contains-map (λ (move : ℕ × ℕ). (move.0, n + move.1)) (get_or two.table.rows at.0 []) (symbol, next) in (
            λ has.
                let from = cases.0 (Contains-same _ _ (symbol, next) row has) in (
                  from.0.1,
                  (
                    Contains-same _ _ (symbol, from.0.1) (sym own)
                        (let P : ℕ → Type 0 = λ s. Contains (get_or two.table.rows at.0 []) (s, from.0.1) in
                        subst P (ap (λ m. m.0) from.1.1) from.1.0),
                    sym (ap (λ m. m.1) from.1.1),
                  ),
                ),
            λ from.
                Contains-same _ _ (symbol, next) (sym row)
                (cases.1 ((symbol, from.0), (Contains-same _ _ (symbol, from.0) own from.1.0, ap (λ t. (symbol, t)) (sym from.1.1)))),
          )

  pub second_forth : (state : ℕ) (text : List ℕ) (other : ℕ) → 0 < state → LeadsFrom nfa (length one.table.rows + state) text other
      → (other ≡ length one.table.rows + after two.table state text) × (0 < after two.table state text)
  second_forth state [] other positive leads = (sym leads, positive)
  second_forth state (symbol ∷ text) other positive leads =
      let from = (second_move state symbol leads.0 positive).0 leads.1 in
      let stepped = step_from_move two.table state symbol from.0 is_two.table from.1.0 in
      let there = (IsMove-from_contains two.table state symbol from.0 is_two.table from.1.0).to in
      let P : ℕ → Type 0 = λ s. LeadsFrom nfa s text other in
      let rest = second_forth from.0 text other there.positive (subst P from.1.1 leads.2) in
      let Q : ℕ → Type 0 = λ s. (other ≡ length one.table.rows + after two.table s text) × (0 < after two.table s text) in
      subst Q (sym stepped) rest

  pub second_back : (state : ℕ) (text : List ℕ) → 0 < after two.table state text → IsState two.table state
      → LeadsFrom nfa (length one.table.rows + state) text (length one.table.rows + after two.table state text)
  second_back state [] reached is = refl
  second_back state (symbol ∷ text) reached is =
      let next = step two.table state symbol in
      let within = after_within two.table next text is_two.table (step_within two.table state symbol is_two.table) in
      let there = leads_from_state two.table next text is_two.table (record { positive = reached; within = within }) in
      let move = move_from_step two.table state symbol next refl there.positive in (
        length one.table.rows + next,
        (second_move state symbol (length one.table.rows + next) is.positive).1 (next, (move, refl)),
        second_back next text reached there,
      )

  -- ---- the sets

  initial_state : 0 < one.table.initial → IsState one.table one.table.initial
  initial_state positive = record { positive = positive; within = is_one.table.initial }

  -- the second starts after each word that the first accepts
  in_second_after : (text front back : List ℕ) (start state : ℕ) → text ≡ front ++ back → AcceptsText one front
      → Contains (start_after (length one.table.rows) two.table.initial) start → LeadsFrom nfa start back state
      → IsAfterConcat one two text (of_two (length one.table.rows) state)
  in_second_after text front back start state whole accepts is_start leads =
      let starting = (Contains-start_after (length one.table.rows) two.table.initial start).0 is_start in
      let P : ℕ → Type 0 = λ s. LeadsFrom nfa s back state in
      let reached = second_forth two.table.initial back state starting.1 (subst P starting.0 leads) in
      let Q : OfTwo → Type 0 = λ s. IsAfterConcat one two text s in
      subst Q
      (sym (ap (of_two (length one.table.rows)) reached.0 ∙ of_two_second (length one.table.rows) (state_after two.table back) reached.1))
      (in_second front back whole accepts refl (λ none. let some = reached.1 in absurd (omega arith)))

  among_forth : (text : List ℕ) (state : ℕ) → LeadsSomehow nfa text state → IsAfterConcat one two text (of_two (length one.table.rows) state)
  among_forth text state among =
      let starts = start_after (length one.table.rows) two.table.initial in
      elim ((Contains-initial_with one.table starts among.start).0 (Contains-same _ _ among.start chain.initial among.is_initial)) [
        | inl own ↦
            let P : ℕ → Type 0 = λ s. LeadsFrom nfa s text state in
            elim (leads_cases one.table starts nfa is_one.table first_restarts one.table.initial text state (initial_state own.1)
            (subst P own.0 among.leads)) [
              | inl plain ↦
                  let positive = plain.1.positive in
                  let Q : OfTwo → Type 0 = λ s. IsAfterConcat one two text s in
                  subst Q (sym (of_two_first (length one.table.rows) state plain.1.within)) (in_first plain.0 (λ none. absurd (omega arith)))
              | inr restarted ↦
                  in_second_after text restarted.front restarted.back restarted.start state restarted.whole restarted.accepts
                  restarted.is_start restarted.leads
            ]
        | inr other ↦ in_second_after text [] text among.start state refl other.0 other.1 among.leads
      ]

  among_first : (text : List ℕ) (state : ℕ) → state_after one.table text ≡ state → state ≢ 0 → LeadsSomehow nfa text state
  among_first text state leads some =
      let starts = start_after (length one.table.rows) two.table.initial in
      let within = after_within one.table one.table.initial text is_one.table is_one.table.initial in
      let reached : IsState one.table (state_after one.table text) = record { positive = omega arith; within = within } in
      let begins = leads_from_state one.table one.table.initial text is_one.table reached in
      let P : ℕ → Type 0 = λ s. LeadsFrom nfa one.table.initial text s in
      record {
        start = one.table.initial;
        is_initial = Contains-same _ _ one.table.initial (sym chain.initial)
            ((Contains-initial_with one.table starts one.table.initial).1 (inl (refl, begins.positive)));
        leads = subst P leads (leads_plainly one.table starts nfa is_one.table first_restarts one.table.initial text reached);
      }

  -- where the front is accepted the second starts
  among_start : (front : List ℕ) (start : ℕ) → AcceptsText one front → Contains (start_after (length one.table.rows) two.table.initial) start
      → LeadsSomehow nfa front start
  among_start [] start accepts is_start = record {
    start = start;
    is_initial = Contains-same _ _ start (sym chain.initial)
        ((Contains-initial_with one.table (start_after (length one.table.rows) two.table.initial) start).1 (inr (accepts, is_start)));
    leads = refl;
  }
  among_start (symbol ∷ front) start accepts is_start =
      let starts = start_after (length one.table.rows) two.table.initial in
      let begins = accepts_from_state one.table one.table.initial (symbol ∷ front) is_one.table accepts in
      record {
        start = one.table.initial;
        is_initial = Contains-same _ _ one.table.initial (sym chain.initial)
            ((Contains-initial_with one.table starts one.table.initial).1 (inl (refl, begins.positive)));
        leads = leads_to_start one.table starts nfa is_one.table first_restarts one.table.initial symbol front start accepts is_start;
      }

  among_second : (text front back : List ℕ) (state : ℕ) → text ≡ front ++ back → AcceptsText one front → state_after two.table back ≡ state
      → state ≢ 0 → LeadsSomehow nfa text (length one.table.rows + state)
  among_second text front back state whole accepts leads some =
      let n = length one.table.rows in
      let within = after_within two.table two.table.initial back is_two.table is_two.table.initial in
      let reached : IsState two.table (state_after two.table back) = record { positive = omega arith; within = within } in
      let begins = leads_from_state two.table two.table.initial back is_two.table reached in
      let begun = among_start front (n + two.table.initial) accepts
      ((Contains-start_after n two.table.initial (n + two.table.initial)).1 (refl, begins.positive)) in
      let goes_on = second_back two.table.initial back reached.positive begins in
      let P : ℕ → Type 0 = λ s. LeadsFrom nfa (n + two.table.initial) back (n + s) in
      let Q : List ℕ → Type 0 = λ w. LeadsFrom nfa begun.start w (n + state) in
      record {
        start = begun.start;
        is_initial = begun.is_initial;
        leads = subst Q (sym whole) (leads-append nfa begun.start front (n + two.table.initial) back (n + state) begun.leads (subst P leads goes_on));
      }

  among_back : (text : List ℕ) (state : ℕ) → IsAfterConcat one two text (of_two (length one.table.rows) state) → LeadsSomehow nfa text state
  among_back text state after =
      let n = length one.table.rows in
      let P : OfTwo → Type 0 = λ s. IsAfterConcat one two text s in
      elim (cases_lt n state) [
        | inl past ↦
            let same : n + (state - n) ≡ state = omega arith in
            let inverse = second_inverse (subst P (sym (ap (of_two n) same) ∙ of_two_second n (state - n) (omega arith)) after) in
            let Q : ℕ → Type 0 = λ s. LeadsSomehow nfa text s in
            subst Q same (among_second text inverse.front inverse.back (state - n) inverse.whole inverse.accepts inverse.leads inverse.some)
        | inr within ↦
            let inverse = first_inverse (subst P (of_two_first n state within) after) in
            among_first text state inverse.0 inverse.1
      ]

  -- a word leads to the states that `concat` counts
  pub among_after : (text : List ℕ) (state : ℕ) → LeadsSomehow nfa text state ↔ IsAfterConcat one two text (of_two (length one.table.rows) state)
  among_after text state = (among_forth text state, among_back text state)

  -- ---- the language

  -- the states of the second accept as before
  accepts_second : (state : ℕ) → 0 < state → accepts_at nfa (length one.table.rows + state) ≡ is_accepting two.table state
  accepts_second state positive =
      let n = length one.table.rows in
      let at = place_of state positive in
      let answers = replicate n false in
      ap (accepts_at nfa) (let same : n + state ≡ suc (n + at.0) = omega (arith, at.1) in same)
      ∙ ap (λ answers. get_or answers (n + at.0) false) chain.accepting
      ∙ get_or-append_right answers two.table.accepting n (n + at.0) false (length-replicate n false) (omega arith)
      ∙ ap (λ p. get_or two.table.accepting p false) (let same : n + at.0 - n ≡ at.0 = omega arith in same)
      ∙ sym (ap (is_accepting two.table) at.1)

  -- no state of the first accepts
  rejects_first : (state : ℕ) → state ≤ length one.table.rows → ¬ IsTrue (accepts_at nfa state)
  rejects_first zero within accepts = absurd (let no : ⊥ = cc in no)
  rejects_first (suc place) within accepts =
      let n = length one.table.rows in
      let answer : get_or nfa.accepting place false ≡ false =
      ap (λ answers. get_or answers place false) chain.accepting
      ∙ get_or_append_left (replicate n false) two.table.accepting false place (omega (arith, length-replicate n false))
      ∙ get_or-replicate n place false false (omega arith) in
      absurd (let no : ⊥ = cc in no)

  pub accepts_chained : (text : List ℕ) → AcceptsSomehow nfa text ↔ IsSplit one two text
  accepts_chained text = (
    λ somehow. elim (cases_lt (length one.table.rows) somehow.0) [
      | inl past ↦
          let n = length one.table.rows in
          let state = somehow.0 - n in
          let same : n + state ≡ somehow.0 = omega arith in
          let positive : 0 < state = omega arith in
          let P : OfTwo → Type 0 = λ s. IsAfterConcat one two text s in
          let inverse = second_inverse (subst P (sym (ap (of_two n) same) ∙ of_two_second n state positive) (among_forth text somehow.0 somehow.1)) in
          let Q : ℕ → Type 0 = λ s. IsTrue (is_accepting two.table s) in
          record {
            front = inverse.front;
            back = inverse.back;
            whole = inverse.whole;
            in_first = inverse.accepts;
            in_second = subst Q (sym inverse.leads) (sym (accepts_second state positive) ∙ ap (accepts_at nfa) same ∙ somehow.2);
          }
      | inr within ↦ absurd (rejects_first somehow.0 within somehow.2)
    ],
    λ split.
        let n = length one.table.rows in
        let state = state_after two.table split.back in
        let ends = accepting_state two.table state is_two.table split.in_second in
        let positive = ends.positive in (
          n + state,
          among_second text split.front split.back state split.whole split.in_first refl (λ none. absurd (omega arith)),
          accepts_second state positive ∙ split.in_second,
        ),
  )

  -- ---- what it keeps

  initial_within : (state : ℕ) → Contains nfa.initial state → (0 < state) × (state ≤ length nfa.rows)
  initial_within state has =
      let n = length one.table.rows in
      let rows = count_rows in
      elim ((Contains-initial_with one.table (start_after n two.table.initial) state).0 (Contains-same _ _ state chain.initial has)) [
        | inl own ↦ let within = is_one.table.initial in (omega (arith, own.0, own.1), omega (arith, own.0))
        | inr other ↦
            let start = (Contains-start_after n two.table.initial state).0 other.1 in
            let within = is_two.table.initial in
            (omega (arith, start.0, start.1), omega (arith, start.0))
      ]

  moves_within : (n : ℕ) → symbols one.alphabet ≡ n → symbols two.alphabet ≡ n → HasMovesWithin n nfa
  moves_within letters first second place symbol next has =
      let n = length one.table.rows in
      let rows = count_rows in
      elim (cases_lt place n) [
        | inl within ↦
            let state : IsState one.table (suc place) = record { positive = omega arith; within = omega arith } in
            elim ((first_restarts (suc place) symbol next state).0 has) [
              | inl move ↦
                  let bounds = IsMove-from_contains one.table (suc place) symbol next is_one.table move in
                  let most = symbol_within one.table (symbols one.alphabet) (suc place) symbol next is_one.symbols move in
                  let to = bounds.to.within in
                  ((bounds.positive, omega arith), (bounds.to.positive, omega arith))
              | inr restart ↦
                  let bounds = IsMove-from_contains one.table (suc place) symbol restart.target is_one.table restart.move in
                  let most = symbol_within one.table (symbols one.alphabet) (suc place) symbol restart.target is_one.symbols restart.move in
                  let start = (Contains-start_after n two.table.initial next).0 restart.start in
                  let low = is_two.table.initial in
                  ((bounds.positive, omega arith), (omega (arith, start.0, start.1), omega (arith, start.0)))
            ]
        | inr past ↦
            let state = suc (place - n) in
            let same : suc place ≡ n + state = omega arith in
            let P : ℕ → Type 0 = λ s. Contains (moves_from nfa s) (symbol, next) in
            let from = (second_move state symbol next (omega arith)).0 (subst P same has) in
            let bounds = IsMove-from_contains two.table state symbol from.0 is_two.table from.1.0 in
            let most = symbol_within two.table (symbols two.alphabet) state symbol from.0 is_two.symbols from.1.0 in
            let to = bounds.to.within in let some = bounds.to.positive in
            ((bounds.positive, omega arith), (omega (arith, from.1.1), omega (arith, from.1.1)))
      ]

  pub chained_nondeterministic : (n : ℕ) → one.alphabet ≡ Plain n → one.alphabet ≡ two.alphabet
      → length one.table.rows + length two.table.rows < 2 ^ 32 → IsNondeterministic nfa
  chained_nondeterministic n plain same fits =
      let small : n ≤ 65534 = let letters : generators one.alphabet ≡ n = ap generators plain in let most = is_one.generators in omega arith in
      let rows = count_rows in
      let answers : length nfa.accepting ≡ length nfa.rows =
      ap length chain.accepting ∙ length-append (replicate (length one.table.rows) false) two.table.accepting
      ∙ ap (λ k. k + length two.table.accepting) (length-replicate (length one.table.rows) false)
      ∙ ap (λ k. length one.table.rows + k) is_two.table.one_answer_each ∙ sym rows in
      IsNondeterministic-plain n nfa (chain.alphabet ∙ plain) small answers (omega arith) initial_within
      (moves_within n (ap symbols plain) (ap symbols (sym same ∙ plain)))

-- the sets of states to which words lead are counted as those of the states of two
pub counted_chained : (one two : Automaton) (nfa : Nondeterministic) → IsTable one.table
    → ((text : List ℕ) (state : ℕ) → LeadsSomehow nfa text state ↔ IsAfterConcat one two text (of_two (length one.table.rows) state))
    → (m : ℕ) → MoreSetsThan (LeadsSomehow nfa) m ↔ CountedConcat one two m
counted_chained one two nfa is same m = (
  MoreSetsThan-forth (LeadsSomehow nfa) (IsAfterConcat one two) (of_two (length one.table.rows)) m same,
  MoreSetsThan-back (LeadsSomehow nfa) (IsAfterConcat one two) (of_two (length one.table.rows)) m same covered,
)
  where
    covered : (text : List ℕ) (state : OfTwo) → IsAfterConcat one two text state → (x : ℕ) × (of_two (length one.table.rows) x ≡ state)
    covered text (of_first state) after =
        let within = after_within one.table one.table.initial text is is.initial in
        let leads = (first_inverse after).0 in
        (state, of_two_first (length one.table.rows) state (omega arith))
    covered text (of_second state) after =
        let some = (second_inverse after).some in
        (length one.table.rows + state, of_two_second (length one.table.rows) state (positive_from state some))
      where
        positive_from : (k : ℕ) → k ≢ 0 → 0 < k
        positive_from zero none = absurd (none refl)
        positive_from (suc k) none = omega arith

-- the parts, by the tables of both
pub parts_chained : (one two : Automaton) (first second : Table) (starts : List ℕ) (nfa : Nondeterministic) → first ≡ one.table
    → second ≡ two.table → starts ≡ start_after (length first.rows) second.initial → nfa.alphabet ≡ one.alphabet
    → nfa.initial ≡ initial_with first starts
    → nfa.rows ≡ map (restarting first starts) first.rows ++ map (shifted (length first.rows)) second.rows
    → nfa.accepting ≡ replicate (length first.rows) false ++ second.accepting → IsChained one two nfa
parts_chained one two first second starts nfa is_first is_second begins alphabet initial rows accepting =
    let start : Table → Table → List ℕ = λ f s. start_after (length f.rows) s.initial in
    let all_rows : Table → Table → List ℕ → List Moves = λ f s st. map (restarting f st) f.rows ++ map (shifted (length f.rows)) s.rows in
    let answers : Table → Table → List Bool = λ f s. replicate (length f.rows) false ++ s.accepting in
    record {
      alphabet = alphabet;
      initial = initial ∙ ap (initial_with first) begins ∙ ap (λ f. initial_with f (start f second)) is_first
          ∙ ap (λ s. initial_with one.table (start one.table s)) is_second;
      rows = rows ∙ ap (all_rows first second) begins ∙ ap (λ f. all_rows f second (start f second)) is_first
          ∙ ap (λ s. all_rows one.table s (start one.table s)) is_second;
      accepting = accepting ∙ ap (λ f. answers f second) is_first ∙ ap (answers one.table) is_second;
    }
