-- The explored quotient of a table is the canonical table of its language, where that isn't empty.
use Rattle.std.proofs.Common.{◌≡◌, ◌≢◌, ◌↔◌, ℕ, ◌<◌, ◌≤◌, Bool, true, false, IsTrue, List, [], ◌∷◌, ◌++◌, length, refl, sym, ap, ◌∙◌, subst, inl, inr, arith}
use Rattle.std.proofs.lemmas.Bool.{cases_order}
use Rattle.kb_word.specs.Words.{Less, shorter, earlier, IsEarlier}
use Rattle.kb_fsa.specs.Table.{Moves, Table, IsTable, after, AcceptsFrom, state_after, HasSymbols, IsLive, AreEquivalent}
use Rattle.kb_fsa.specs.declared.alphabet.Alphabet.{Alphabet}
use Rattle.kb_fsa.specs.Language.{IsAutomaton, symbols}
use Rattle.kb_fsa.specs.Canonical.{IsState, IsCanonical}
use Rattle.kb_fsa.proofs.Lookups.{after_within, after_none}
use Rattle.kb_labelled.specs.Labels.{AreAlike}
use Rattle.kb_explore.specs.Exploration.{IsExploration}
use Rattle.kb_explore.proofs.ExplorationLemmas.{same_states, leads_nowhere, accepts_same, are_reached, is_breadth_first}
use Rattle.kb_fsamin.specs.Classes.{representative, AreRepresentatives}
use Rattle.kb_fsamin.specs.Quotient.{some_state, quotient_of}
use Rattle.kb_fsamin.proofs.Uniqueness.{accepted_positive, rest_accepted, whole_accepted}
use Rattle.kb_fsamin.proofs.Represented.{leads_quotient, quotient_accepts, representatives_same}

not_earlier : (text : List ℕ) → ¬ IsEarlier text []
not_earlier [] h = h
not_earlier (x ∷ text) h = h

-- no text is less than the empty one
pub nothing_less : (text : List ℕ) → ¬ Less text []
nothing_less text (shorter h) = omega arith
nothing_less text (earlier e h) = not_earlier text h

-- by the representatives of a table's states its quotient has been explored
pub record IsReduction (given table : Table) (labels listed states : List ℕ) (origins : List (ℕ × ℕ)) : Type 0 where
  pub is_given : IsTable given
  pub represented : AreRepresentatives given labels listed
  pub explored : IsExploration (quotient_of given listed) table states origins

module _ {given table : Table} {labels listed states : List ℕ} {origins : List (ℕ × ℕ)}
    (r : IsReduction given table labels listed states origins) where
  -- the table has the language of the given one
  pub language_kept : (text : List ℕ) → AcceptsFrom given given.initial text ↔ AcceptsFrom table table.initial text
  language_kept text =
      let explored = accepts_same r.explored text in
      let quotient = quotient_accepts given labels listed r.is_given r.represented text in
      (λ accepts. explored.1 (quotient.1 accepts), λ accepts. quotient.0 (explored.0 accepts))

  rest_kept : (text more : List ℕ) → AcceptsFrom table (state_after table text) more → AcceptsFrom given (state_after given text) more
  rest_kept text more accepts =
      rest_accepted given text more ((language_kept (text ++ more)).1 (whole_accepted table text more accepts))

  rest_same : (text more : List ℕ) → AcceptsFrom given (state_after given text) more → AcceptsFrom table (state_after table text) more
  rest_same text more accepts =
      rest_accepted table text more ((language_kept (text ++ more)).0 (whole_accepted given text more accepts))

  given_within : (text : List ℕ) → state_after given text ≤ length given.rows
  given_within text = after_within given given.initial text r.is_given r.is_given.initial

  -- a text that leads to a state leads to one that has a representative in the given table
  pub represented_kept : (text : List ℕ) → state_after table text ≢ 0 → representative listed (state_after given text) ≢ 0
  represented_kept text some none =
      some ((leads_nowhere r.explored text).1 (leads_quotient given labels listed r.is_given r.represented text ∙ ap some_state none))

  -- and so to a state there
  pub state_kept : (text : List ℕ) → state_after table text ≢ 0 → state_after given text ≢ 0
  state_kept text some none = represented_kept text some (ap (representative listed) none)

  live_kept : (text : List ℕ) → state_after table text ≢ 0 → IsLive table (state_after table text)
  live_kept text some =
      let there = r.represented.live (state_after given text) (record {
        positive = elim (cases_order 0 (state_after given text)) [
          | inl none ↦ absurd (state_kept text some (sym none))
          | inr (inl more) ↦ more
          | inr (inr less) ↦ absurd (omega arith)
        ];
        within = given_within text;
      }) (represented_kept text some) in
      (there.0, rest_same text there.0 there.1)

  -- the first state is the initial one, since no text is less than the empty one
  first_initial : 0 < length table.rows → table.initial ≡ 1
  first_initial some =
      let first = are_reached r.explored 1 (record { positive = omega arith; within = omega arith }) in
      let leads_first = first.1.leads in
      elim (cases_order 1 table.initial) [
        | inl same ↦ sym same
        | inr (inl more) ↦
            absurd (nothing_less first.0 (is_breadth_first r.explored 1 table.initial first.0 [] (omega arith) more first.1
            (record { leads = refl; least = λ other same. nothing_less other })))
        | inr (inr less) ↦
            let none : table.initial ≡ 0 = omega arith in
            let stuck : state_after table first.0 ≡ 0 = ap (λ s. after table s first.0) none ∙ after_none table first.0 in
            absurd (omega arith)
      ]

  -- where states of one right language are alike
  module _ (plain : (p q : ℕ) → AreEquivalent given p q → AreAlike given labels p q) where
    -- texts that lead to states of one right language lead to one state
    alike_same : (text other : List ℕ) → AreEquivalent table (state_after table text) (state_after table other)
        → state_after table text ≡ state_after table other
    alike_same text other same =
        let equivalent : AreEquivalent given (state_after given text) (state_after given other) = λ more. (
          λ accepts. rest_kept other more ((same more).0 (rest_same text more accepts)),
          λ accepts. rest_kept text more ((same more).1 (rest_same other more accepts)),
        ) in
        let class = representatives_same given labels listed r.is_given r.represented (state_after given text) (state_after given other)
        (given_within text) (given_within other)
        (plain (state_after given text) (state_after given other) equivalent) in
        (same_states r.explored text other).1
        (leads_quotient given labels listed r.is_given r.represented text ∙ ap some_state class
        ∙ sym (leads_quotient given labels listed r.is_given r.represented other))

    is_reduced : (p q : ℕ) → IsState table p → IsState table q → AreEquivalent table p q → p ≡ q
    is_reduced p q one two same =
        let here = are_reached r.explored p one in
        let there = are_reached r.explored q two in
        let P : ℕ → Type 0 = λ s. AreEquivalent table s q in
        let Q : ℕ → Type 0 = λ s. AreEquivalent table (state_after table here.0) s in
        sym here.1.leads
        ∙ alike_same here.0 there.0 (subst Q (sym there.1.leads) (subst P (sym here.1.leads) same))
        ∙ there.1.leads

    pub is_canonical : 0 < length table.rows → IsCanonical table
    is_canonical some = record {
      initial = first_initial some;
      reached = are_reached r.explored;
      trim = inl (λ state is.
          let here = are_reached r.explored state is in
          let positive = is.positive in
          let leads_here = here.1.leads in
          let P : ℕ → Type 0 = λ s. IsLive table s in
          subst P here.1.leads (live_kept here.0 (λ none. omega arith)));
      reduced = is_reduced;
      numbered = is_breadth_first r.explored;
    }

  -- where there is no state the given table accepts nothing
  pub nothing_accepted : length table.rows ≡ 0 → (text : List ℕ) → ¬ AcceptsFrom given given.initial text
  nothing_accepted none text accepts =
      let positive = accepted_positive table table.initial text ((language_kept text).0 accepts) in
      let within = r.explored.is_table.initial in
      omega arith

  -- over the same alphabet it is an automaton
  pub is_automaton : (alphabet one : Alphabet) → one ≡ alphabet → IsAutomaton (record { alphabet = alphabet; table = given })
      → HasSymbols (symbols alphabet) table → IsAutomaton (record { alphabet = one; table = table })
  is_automaton alphabet one same automaton within =
      let P = λ (a : Alphabet). IsAutomaton (record { alphabet = a; table = table }) in
      subst P (sym same) (record {
        generators = automaton.generators;
        table = r.explored.is_table;
        symbols = within;
        texts = λ text some. automaton.texts text (state_kept text some);
      })

-- what is known of a copy of the table and of the list
pub represented_from : {given there : Table} {labels here listed items : List ℕ} → there ≡ given → here ≡ labels → listed ≡ items
    → AreRepresentatives there here items → AreRepresentatives given labels listed
represented_from {given = given} {labels = labels} {here = here} {items = items} same_table same_labels same_list represented =
    let P : Table → Type 0 = λ t. AreRepresentatives t here items in
    let L : List ℕ → Type 0 = λ l. AreRepresentatives given l items in
    let Q : List ℕ → Type 0 = λ l. AreRepresentatives given labels l in
    subst Q (sym same_list) (subst L same_labels (subst P same_table represented))

pub reduction_from : {given there table : Table} {labels here listed items states : List ℕ} {origins : List (ℕ × ℕ)} → IsTable given
    → there ≡ given → here ≡ labels → listed ≡ items → AreRepresentatives there here items
    → IsExploration (quotient_of given listed) table states origins → IsReduction given table labels listed states origins
reduction_from is same_table same_labels same_list represented explored =
    record { is_given = is; represented = represented_from same_table same_labels same_list represented; explored = explored }

-- whether the table has states
pub rows_none : (test : Bool) (rows : List Moves) → IsTrue test ↔ (rows ≡ []) → test ≡ true → length rows ≡ 0
rows_none test rows means is = ap length (means.0 is)

pub rows_some : (test : Bool) (rows : List Moves) → IsTrue test ↔ (rows ≡ []) → test ≡ false → 0 < length rows
rows_some test [] means is = let other = means.1 refl in absurd (let bad : ⊥ = cc in bad)
rows_some test (row ∷ rows) means is = omega arith
