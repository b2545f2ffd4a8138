-- The automaton that reads any number of accepted words: where words lead in it.
use Rattle.std.proofs.Common.{◌≡◌, ◌↔◌, ◌⊎◌, ℕ, zero, suc, ◌+◌, ◌<◌, ◌≤◌, ◌^◌, IsTrue, List, [], ◌∷◌, ◌++◌, length, get_or, map, refl, sym, ap, ◌∙◌, subst, inl, inr, append_assoc, arith}
use Rattle.std.specs.List.{Contains}
use Rattle.std.proofs.lemmas.Bool.{cases_lt}
use Rattle.std.proofs.lemmas.List.{append-nil, length-append, length-map, length_push, get_or_append_left, get_or_push, get_or-map}
use Rattle.kb_word.specs.Relations.{IsOver}
use Rattle.kb_fsa.specs.declared.alphabet.Alphabet.TheVariants.{Plain}
use Rattle.kb_fsa.specs.Table.{Moves, Table, moves_of, is_accepting, after, state_after, AcceptsFrom}
use Rattle.kb_fsa.specs.Language.{Automaton, IsAutomaton, AcceptsText, generators, symbols}
use Rattle.kb_fsa.specs.Canonical.{IsState}
use Rattle.kb_fsa.specs.Counted.{IsProduct, empty, longer, IsAfterProduct}
use Rattle.kb_fsa.proofs.Lookups.{after-append, after_within}
use Rattle.kb_fsadet.specs.Nondeterministic.{Nondeterministic, IsNondeterministic, LeadsSomehow, LeadsFrom, moves_from}
use Rattle.kb_fsarat.specs.Reversal.{only}
use Rattle.kb_fsarat.specs.Restarts.{restarting}
use Rattle.kb_fsarat.specs.Chains.{start_of}
use Rattle.kb_fsarat.specs.Repetitions.{IsStarNfa}
use Rattle.kb_fsarat.proofs.MoveLists.{Contains-nil, Contains-same, Contains-cons_cases, Contains-cons}
use Rattle.kb_fsarat.proofs.TableMoves.{IsMove-from_contains, symbol_within, leads_from_state, accepts_from_state}
use Rattle.kb_fsarat.proofs.Nondeterminism.{IsNondeterministic-plain, HasMovesWithin, row_within, texts_over}
use Rattle.kb_fsarat.proofs.Reversing.{accepts_only, length-only}
use Rattle.kb_fsarat.proofs.Restarting.{IsRestart, Contains-restarting, HasRestarts, IsRestarted, leads-append, leads_plainly, leads_to_start, leads_cases}
use Rattle.kb_fsarat.proofs.Chaining.{moves_at, place_of, Contains-start_of}

-- the parts of the automaton
pub record IsRepeating (automaton : Automaton) (nfa : Nondeterministic) (mark : ℕ) : Type 0 where
  pub is_mark : mark ≡ length automaton.table.rows + 1
  pub alphabet : nfa.alphabet ≡ automaton.alphabet
  pub initial : nfa.initial ≡ mark ∷ start_of automaton.table.initial
  pub rows : nfa.rows ≡ map (restarting automaton.table (mark ∷ start_of automaton.table.initial)) automaton.table.rows ++ [] ∷ []
  pub accepting : nfa.accepting ≡ only mark (length nfa.rows)

-- a word leads to a state after the last product, or is a product and leads to the mark
abbrev Reaches : Automaton → ℕ → List ℕ → ℕ → Type 0
Reaches automaton mark word state = IsAfterProduct automaton word state ⊎ ((state ≡ mark) × IsProduct automaton word)

module _ (automaton : Automaton) (nfa : Nondeterministic) (mark : ℕ) (is : IsAutomaton automaton) (parts : IsRepeating automaton nfa mark) where
  -- ---- its rows

  row_own : (place : ℕ) → place < length automaton.table.rows
      → get_or nfa.rows place [] ≡ restarting automaton.table (mark ∷ start_of automaton.table.initial) (get_or automaton.table.rows place [])
  row_own place within =
      let f = restarting automaton.table (mark ∷ start_of automaton.table.initial) in
      let own = map f automaton.table.rows in
      let count = length-map automaton.table.rows f in
      ap (λ rows. get_or rows place []) parts.rows
      ∙ get_or_append_left own ([] ∷ []) [] place (omega arith)
      ∙ get_or-map f automaton.table.rows place [] [] within

  row_mark : get_or nfa.rows (length automaton.table.rows) [] ≡ []
  row_mark =
      let f = restarting automaton.table (mark ∷ start_of automaton.table.initial) in
      let own = map f automaton.table.rows in
      ap (λ rows. get_or rows (length automaton.table.rows) []) parts.rows
      ∙ get_or_push own [] [] (length automaton.table.rows) (length-map automaton.table.rows f)

  count_rows : length nfa.rows ≡ length automaton.table.rows + 1
  count_rows =
      let f = restarting automaton.table (mark ∷ start_of automaton.table.initial) in
      let own = map f automaton.table.rows in
      let count = length-map automaton.table.rows f in
      let all = ap length parts.rows in
      omega (arith, length_push {X = Moves} own [])

  restarts : HasRestarts automaton.table (mark ∷ start_of automaton.table.initial) nfa
  restarts state symbol next here = by (place_of state here.positive)
    where
      by : (place : ℕ) × (state ≡ suc place)
          → Contains (moves_from nfa state) (symbol, next)
          ↔ (Contains (moves_of automaton.table state) (symbol, next)
          ⊎ IsRestart automaton.table (mark ∷ start_of automaton.table.initial) (moves_of automaton.table state) symbol next)
      by at =
          let starts = mark ∷ start_of automaton.table.initial in
          let within : at.0 < length automaton.table.rows = let low = here.within in omega (arith, at.1) in
          let P : Moves → Type 0 = λ moves. Contains (moves_from nfa state) (symbol, next)
          ↔ (Contains moves (symbol, next) ⊎ IsRestart automaton.table starts moves symbol next) in
          let row = moves_at nfa state at.0 at.1 ∙ row_own at.0 within in
          let cases = Contains-restarting automaton.table starts (get_or automaton.table.rows at.0 []) symbol next in
          subst P (sym (ap (moves_of automaton.table) at.1))
          ((λ has. cases.0 (Contains-same _ _ (symbol, next) row has)), (λ has. Contains-same _ _ (symbol, next) (sym row) (cases.1 has)))

  -- ---- where the mark leads

  from_mark : (text : List ℕ) (other : ℕ) → LeadsFrom nfa mark text other → (text ≡ []) × (other ≡ mark)
  from_mark [] other leads = (refl, sym leads)
  from_mark (symbol ∷ text) other leads =
      let at : mark ≡ suc (length automaton.table.rows) = let e = parts.is_mark in omega arith in
      absurd (Contains-nil (symbol, leads.0) (Contains-same _ _ (symbol, leads.0)
      (moves_at nfa mark (length automaton.table.rows) at ∙ row_mark) leads.1))

  -- ---- starts

  starts_cases : (start : ℕ) → Contains (mark ∷ start_of automaton.table.initial) start
      ↔ ((start ≡ mark) ⊎ ((start ≡ automaton.table.initial) × (0 < automaton.table.initial)))
  starts_cases start = (
    λ has. elim (Contains-cons_cases mark (start_of automaton.table.initial) start has) [
      | inl here ↦ inl (sym here)
      | inr there ↦ inr ((Contains-start_of automaton.table.initial start).0 there)
    ],
    λ has. elim has [
      | inl here ↦ (0, omega arith, sym here)
      | inr there ↦ Contains-cons mark (start_of automaton.table.initial) start ((Contains-start_of automaton.table.initial start).1 there)
    ],
  )

  initial_start : (start : ℕ) → Contains (mark ∷ start_of automaton.table.initial) start → Contains nfa.initial start
  initial_start start has = Contains-same _ _ start (sym parts.initial) has

  -- ---- from the automaton to words

  after_state : (word : List ℕ) (state : ℕ) → IsAfterProduct automaton word state → IsState automaton.table state
  after_state word state after =
      let within = after_within automaton.table automaton.table.initial after.back is.table is.table.initial in
      let leads = after.leads in
      let some = after.some in
      record { positive = omega arith; within = omega arith }

  -- a text goes on from after a product
  goes_on : (before text : List ℕ) (state other : ℕ) → IsAfterProduct automaton before state → after automaton.table state text ≡ other → 0 < other
      → IsAfterProduct automaton (before ++ text) other
  goes_on before text state other reached leads positive = record {
    front = reached.front;
    back = reached.back ++ text;
    whole = ap (λ w. w ++ text) reached.whole ∙ append_assoc reached.front reached.back text;
    product = reached.product;
    leads = after-append automaton.table automaton.table.initial reached.back text ∙ ap (λ s. after automaton.table s text) reached.leads ∙ leads;
    some = λ none. absurd (omega arith);
  }

  -- and where it is accepted, there is a product more
  product_more : (before text : List ℕ) (state : ℕ) → IsAfterProduct automaton before state → AcceptsFrom automaton.table state text
      → IsProduct automaton (before ++ text)
  product_more before text state reached accepts =
      let P : ℕ → Type 0 = λ s. IsTrue (is_accepting automaton.table s) in
      longer reached.front (reached.back ++ text) (ap (λ w. w ++ text) reached.whole ∙ append_assoc reached.front reached.back text) reached.product
      (subst P
      (sym (after-append automaton.table automaton.table.initial reached.back text ∙ ap (λ s. after automaton.table s text) reached.leads))
      accepts)

  -- after a product the automaton starts again
  starts_again : (word : List ℕ) → IsProduct automaton word → 0 < automaton.table.initial → IsAfterProduct automaton word automaton.table.initial
  starts_again word product positive = record {
    front = word;
    back = [];
    whole = sym (append-nil word);
    product = product;
    leads = refl;
    some = λ none. absurd (omega arith);
  }

  restart_case : (before text : List ℕ) (state other : ℕ) → IsAfterProduct automaton before state
      → (restarted : IsRestarted automaton.table (mark ∷ start_of automaton.table.initial) nfa state text other)
      → ((front : List ℕ) → IsAfterProduct automaton front automaton.table.initial → LeadsFrom nfa automaton.table.initial restarted.back other
      → Reaches automaton mark (front ++ restarted.back) other)
      → Reaches automaton mark (before ++ text) other
  restart_case before text state other reached restarted again =
      let product = product_more before restarted.front state reached restarted.accepts in
      let whole : before ++ text ≡ before ++ restarted.front ++ restarted.back =
      ap (λ w. before ++ w) restarted.whole ∙ sym (append_assoc before restarted.front restarted.back) in
      let P : List ℕ → Type 0 = λ w. Reaches automaton mark w other in
      let Q : ℕ → Type 0 = λ s. LeadsFrom nfa s restarted.back other in
      subst P (sym whole)
      (elim ((starts_cases restarted.start).0 restarted.is_start) [
        | inl at_mark ↦
            let ends = from_mark restarted.back other (subst Q at_mark restarted.leads) in
            let R : List ℕ → Type 0 = λ w. IsProduct automaton (before ++ restarted.front ++ w) in
            let S : List ℕ → Type 0 = λ w. IsProduct automaton w in
            inr (ends.1, subst R (sym ends.0) (subst S (sym (append-nil (before ++ restarted.front))) product))
        | inr at_initial ↦
            again (before ++ restarted.front) (starts_again (before ++ restarted.front) product at_initial.1) (subst Q at_initial.0 restarted.leads)
      ])

  plain_case : (before text : List ℕ) (state other : ℕ) → IsAfterProduct automaton before state
      → (after automaton.table state text ≡ other) × IsState automaton.table other → Reaches automaton mark (before ++ text) other
  plain_case before text state other reached plain = inl (goes_on before text state other reached plain.0 plain.1.positive)

  reaches : (fuel : ℕ) (before text : List ℕ) (state other : ℕ) → length text ≤ fuel → IsAfterProduct automaton before state
      → LeadsFrom nfa state text other → Reaches automaton mark (before ++ text) other
  reaches zero before text state other short reached leads =
      elim (leads_cases automaton.table (mark ∷ start_of automaton.table.initial) nfa is.table restarts state text other
      (after_state before state reached) leads) [
        | inl plain ↦ plain_case before text state other reached plain
        | inr restarted ↦
            let some = restarted.some in
            let whole = ap length restarted.whole ∙ length-append restarted.front restarted.back in
            absurd (let no : ⊥ = omega arith in no)
      ]
  reaches (suc fuel) before text state other short reached leads =
      elim (leads_cases automaton.table (mark ∷ start_of automaton.table.initial) nfa is.table restarts state text other
      (after_state before state reached) leads) [
        | inl plain ↦ plain_case before text state other reached plain
        | inr restarted ↦
            let some = restarted.some in
            let whole = ap length restarted.whole ∙ length-append restarted.front restarted.back in
            let less : length restarted.back ≤ fuel = omega arith in
            restart_case before text state other reached restarted
            (λ front begun goes. reaches fuel front restarted.back automaton.table.initial other less begun goes)
      ]

  among_cases : (text : List ℕ) (state : ℕ) → LeadsSomehow nfa text state → Reaches automaton mark text state
  among_cases text state among =
      let P : ℕ → Type 0 = λ s. LeadsFrom nfa s text state in
      elim ((starts_cases among.start).0 (Contains-same _ _ among.start parts.initial among.is_initial)) [
        | inl at_mark ↦
            let ends = from_mark text state (subst P at_mark among.leads) in
            let Q : List ℕ → Type 0 = λ w. IsProduct automaton w in
            inr (ends.1, subst Q (sym ends.0) empty)
        | inr at_initial ↦
            reaches (length text) [] text automaton.table.initial state (omega arith) (starts_again [] empty at_initial.1)
            (subst P at_initial.0 among.leads)
      ]

  -- ---- and back

  -- an accepted word more leads to each start
  word_more : (word front back : List ℕ) (start : ℕ) → word ≡ front ++ back → AcceptsText automaton back
      → ((other : ℕ) → Contains (mark ∷ start_of automaton.table.initial) other → LeadsSomehow nfa front other)
      → Contains (mark ∷ start_of automaton.table.initial) start → LeadsSomehow nfa word start
  word_more word front [] start whole accepts begun has =
      let P : List ℕ → Type 0 = λ w. LeadsSomehow nfa w start in
      subst P (sym (whole ∙ append-nil front)) (begun start has)
  word_more word front (symbol ∷ back) start whole accepts begun has =
      let starts = mark ∷ start_of automaton.table.initial in
      let begins = accepts_from_state automaton.table automaton.table.initial (symbol ∷ back) is.table accepts in
      let first = begun automaton.table.initial ((starts_cases automaton.table.initial).1 (inr (refl, begins.positive))) in
      let goes = leads_to_start automaton.table starts nfa is.table restarts automaton.table.initial symbol back start accepts has in
      let P : List ℕ → Type 0 = λ w. LeadsFrom nfa first.start w start in
      record {
        start = first.start;
        is_initial = first.is_initial;
        leads = subst P (sym whole) (leads-append nfa first.start front automaton.table.initial (symbol ∷ back) start first.leads goes);
      }

  -- so a product leads to each start
  product_back : (word : List ℕ) (start : ℕ) → IsProduct automaton word → Contains (mark ∷ start_of automaton.table.initial) start
      → LeadsSomehow nfa word start
  product_back [] start empty has = record { start = start; is_initial = initial_start start has; leads = refl }
  product_back word start (longer front back whole product accepts) has =
      word_more word front back start whole accepts (λ other other_has. product_back front other product other_has) has

  states_back : (word : List ℕ) (state : ℕ) → IsAfterProduct automaton word state → LeadsSomehow nfa word state
  states_back word state after =
      let starts = mark ∷ start_of automaton.table.initial in
      let some = after.some in
      let leads = after.leads in
      let within = after_within automaton.table automaton.table.initial after.back is.table is.table.initial in
      let reached : IsState automaton.table (state_after automaton.table after.back) = record { positive = omega arith; within = within } in
      let begins = leads_from_state automaton.table automaton.table.initial after.back is.table reached in
      let begun = product_back after.front automaton.table.initial after.product
      ((starts_cases automaton.table.initial).1 (inr (refl, begins.positive))) in
      let goes = leads_plainly automaton.table starts nfa is.table restarts automaton.table.initial after.back reached in
      let P : ℕ → Type 0 = λ s. LeadsFrom nfa automaton.table.initial after.back s in
      let Q : List ℕ → Type 0 = λ w. LeadsFrom nfa begun.start w state in
      record {
        start = begun.start;
        is_initial = begun.is_initial;
        leads = subst Q (sym after.whole)
            (leads-append nfa begun.start after.front automaton.table.initial after.back state begun.leads (subst P after.leads goes));
      }

  -- ---- what the words lead to

  over_symbols : (word : List ℕ) (state : ℕ) → HasMovesWithin (symbols automaton.alphabet) nfa → LeadsSomehow nfa word state → IsOver (symbols automaton.alphabet) word
  over_symbols word state within among = texts_over (symbols automaton.alphabet) nfa within among.start word state among.leads

  moves_within : HasMovesWithin (symbols automaton.alphabet) nfa
  moves_within place symbol next has =
      let n = length automaton.table.rows in
      let rows = count_rows in
      let e = parts.is_mark in
      elim (cases_lt place n) [
        | inl within ↦
            let state : IsState automaton.table (suc place) = record { positive = omega arith; within = omega arith } in
            elim ((restarts (suc place) symbol next state).0 has) [
              | inl move ↦
                  let bounds = IsMove-from_contains automaton.table (suc place) symbol next is.table move in
                  let most = symbol_within automaton.table (symbols automaton.alphabet) (suc place) symbol next is.symbols move in
                  let to = bounds.to.within in
                  ((bounds.positive, most), (bounds.to.positive, omega arith))
              | inr restart ↦
                  let bounds = IsMove-from_contains automaton.table (suc place) symbol restart.target is.table restart.move in
                  let most = symbol_within automaton.table (symbols automaton.alphabet) (suc place) symbol restart.target is.symbols restart.move in
                  let low = is.table.initial in (
                    (bounds.positive, most),
                    elim ((starts_cases next).0 restart.start) [
                      | inl at_mark ↦ (omega arith, omega arith)
                      | inr at_initial ↦ (omega (arith, at_initial.0, at_initial.1), omega (arith, at_initial.0))
                    ],
                  )
            ]
        | inr past ↦
            let low = row_within nfa.rows place (symbol, next) has in
            let at_mark : place ≡ n = omega arith in
            absurd (Contains-nil (symbol, next) (Contains-same _ _ (symbol, next) (ap (λ p. get_or nfa.rows p []) at_mark ∙ row_mark) has))
      ]

  pub repeated : (n : ℕ) → automaton.alphabet ≡ Plain n → IsStarNfa automaton nfa
  repeated n plain =
      let count = length automaton.table.rows in
      let e = parts.is_mark in
      let letters : symbols automaton.alphabet ≡ generators automaton.alphabet = ap symbols plain ∙ sym (ap generators plain) in
      let after_word : (word : List ℕ) (state : ℕ) → IsAfterProduct automaton word state → state ≤ count = λ word state after.
      (after_state word state after).within in
      let to_mark : (word : List ℕ) → LeadsSomehow nfa word mark ↔ IsProduct automaton word = λ word. (
        λ among. elim (among_cases word mark among) [
          | inl after ↦ let within = after_word word mark after in absurd (let no : ⊥ = omega arith in no)
          | inr at_mark ↦ at_mark.1
        ],
        λ product. product_back word mark product ((starts_cases mark).1 (inl refl)),
      ) in
      let answer = accepts_only mark (length nfa.rows) nfa parts.accepting (let rows = count_rows in omega arith) in
      record {
        states = λ word state within. (
          λ among. elim (among_cases word state among) [
            | inl after ↦ after
            | inr at_mark ↦ absurd (let no : ⊥ = omega (arith, at_mark.0) in no)
          ],
          states_back word state,
        );
        mark = λ word. let P : ℕ → Type 0 = λ s. LeadsSomehow nfa word s ↔ IsProduct automaton word in subst P e (to_mark word);
        no_others = λ word state among. (
          elim (among_cases word state among) [
            | inl after ↦ let within = after_word word state after in omega arith
            | inr at_mark ↦ omega (arith, at_mark.0)
          ],
          let P : ℕ → Type 0 = λ k. IsOver k word in subst P letters (over_symbols word state moves_within among),
        );
        are_states = after_word;
        language = λ word. (
          λ somehow.
              let P : ℕ → Type 0 = λ s. LeadsSomehow nfa word s in
              (to_mark word).0 (subst P ((answer somehow.0).0 somehow.2).0 somehow.1),
          λ product. (mark, (to_mark word).1 product, (answer mark).1 (refl, λ none. absurd (let no : ⊥ = omega arith in no))),
        );
      }

  pub repeating_nondeterministic : (n : ℕ) → automaton.alphabet ≡ Plain n → length automaton.table.rows + 1 < 2 ^ 32 → IsNondeterministic nfa
  repeating_nondeterministic n plain fits =
      let small : n ≤ 65534 = let letters : generators automaton.alphabet ≡ n = ap generators plain in let most = is.generators in omega arith in
      let rows = count_rows in
      let e = parts.is_mark in
      let P : ℕ → Type 0 = λ k. HasMovesWithin k nfa in
      IsNondeterministic-plain n nfa (parts.alphabet ∙ plain) small (ap length parts.accepting ∙ length-only mark (length nfa.rows)) (omega arith)
      (λ state has. elim ((starts_cases state).0 (Contains-same _ _ state parts.initial has)) [
        | inl at_mark ↦ (omega arith, omega arith)
        | inr at_initial ↦
            let low = is.table.initial in (omega (arith, at_initial.0, at_initial.1), omega (arith, at_initial.0))
      ])
      (subst P (ap symbols plain) moves_within)

-- the parts, by the table
pub parts_repeating : (automaton : Automaton) (table : Table) (starts : List ℕ) (nfa : Nondeterministic) (mark : ℕ)
    → table ≡ automaton.table → mark ≡ length table.rows + 1 → nfa.alphabet ≡ automaton.alphabet
    → starts ≡ mark ∷ start_of table.initial → nfa.initial ≡ starts
    → nfa.rows ≡ map (restarting table starts) table.rows ++ [] ∷ [] → nfa.accepting ≡ only mark (length nfa.rows)
    → IsRepeating automaton nfa mark
parts_repeating automaton table starts nfa mark own is_mark alphabet begins initial rows accepting =
    let all_rows : Table → List ℕ → List Moves = λ t st. map (restarting t st) t.rows ++ [] ∷ [] in
    record {
      is_mark = is_mark ∙ ap (λ (t : Table). length t.rows + 1) own;
      alphabet = alphabet;
      initial = initial ∙ begins ∙ ap (λ (t : Table). mark ∷ start_of t.initial) own;
      rows = rows ∙ ap (all_rows table) begins ∙ ap (λ t. all_rows t (mark ∷ start_of t.initial)) own;
      accepting = accepting;
    }
