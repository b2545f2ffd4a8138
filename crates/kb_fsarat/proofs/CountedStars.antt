-- What `star` counts: the states of the determinised automaton, and one thing more where a word leads to none of them.
use Rattle.std.proofs.Common.{◌≡◌, ◌≢◌, ◌↔◌, ℕ, zero, suc, ◌+◌, ◌<◌, ◌≤◌, List, [], ◌∷◌, ◌++◌, length, get_or, refl, sym, ap, ◌∙◌, subst, inl, inr, arith}
use Rattle.std.proofs.lemmas.Bool.{cases_lt}
use Rattle.std.proofs.lemmas.List.{length_push, get_or_append_left, get_or_push}
use Rattle.std.proofs.lemmas.List.Elements.{All-head, All-tail, All-push}
use Rattle.kb_word.specs.Relations.{IsOver}
use Rattle.kb_fsa.specs.declared.alphabet.Alphabet.TheVariants.{Plain}
use Rattle.kb_fsa.specs.Table.{step, after, state_after}
use Rattle.kb_fsa.specs.Language.{Automaton, IsAutomaton, generators, symbols}
use Rattle.kb_fsa.specs.Canonical.{IsState, AreReached}
use Rattle.kb_fsa.specs.Counted.{MoreThan, MoreSetsThan, IsProduct, empty, IsAfterProduct, CountedStar}
use Rattle.kb_fsa.proofs.Lookups.{after-append, after_within, step_within}
use Rattle.kb_explore.proofs.CountingLemmas.{MoreThan-kept, MoreThan-numbered}
use Rattle.kb_fsadet.specs.Nondeterministic.{Nondeterministic, LeadsSomehow}
use Rattle.kb_fsarat.specs.Repetitions.{IsStarNfa, LacksMove}

-- ---- as many texts as numbers

-- a text for each of the numbers below the count
record AreNumbered (Counts : List ℕ → Type 0) (Numbers : List ℕ → ℕ → Type 0) (count : ℕ) : Type 0 where
  texts : List (List ℕ)
  one_each : length texts ≡ count
  each : (k : ℕ) (d : List ℕ) → k < count → Counts (get_or texts k d) × Numbers (get_or texts k d) k

numbered : (Counts : List ℕ → Type 0) (Numbers : List ℕ → ℕ → Type 0) (count : ℕ)
    → ((number : ℕ) → number < count → (text : List ℕ) × (Counts text × Numbers text number)) → AreNumbered Counts Numbers count
numbered Counts Numbers zero text_of = record { texts = []; one_each = refl; each = λ k d less. absurd (let no : ⊥ = omega arith in no) }
numbered Counts Numbers (suc count) text_of =
    let before = numbered Counts Numbers count (λ number less. text_of number (omega arith)) in
    let last = text_of count (omega arith) in
    let long = before.one_each in
    let P : ℕ → List ℕ → Type 0 = λ k text. Counts text × Numbers text k in
    record {
      texts = before.texts ++ last.0 ∷ [];
      one_each = omega (arith, length_push before.texts last.0);
      each = λ k d less. elim (cases_lt k count) [
        | inl old ↦ subst (P k) (sym (get_or_append_left before.texts (last.0 ∷ []) d k (omega arith))) (before.each k d old)
        | inr new ↦
            let here : count ≡ k = omega arith in
            let Q : ℕ → Type 0 = λ i. P i last.0 in
            subst (P k) (sym (get_or_push before.texts last.0 d k (omega arith))) (subst Q here last.1)
      ];
    }

-- where each number below n has a text that counts, and texts with different numbers lead to different things, fewer
-- than n is passed
MoreThan-from_numbers : {Counts : List ℕ → Type 0} {Same : List ℕ → List ℕ → Type 0} {m : ℕ} (n : ℕ) (Numbers : List ℕ → ℕ → Type 0) → m < n
    → ((number : ℕ) → number < n → (text : List ℕ) × (Counts text × Numbers text number))
    → ((text other : List ℕ) (one two : ℕ) → Numbers text one → Numbers other two → Same text other → one ≡ two)
    → MoreThan Counts Same m
MoreThan-from_numbers {Counts} n Numbers less text_of apart =
    let all = numbered Counts Numbers n text_of in
    let long = all.one_each in
    record {
      texts = all.texts;
      many = omega arith;
      count = λ k d within. (all.each k d (omega arith)).0;
      differ = λ i j d before within alike.
          let one = (all.each i d (omega arith)).1 in
          let two = (all.each j d (omega arith)).1 in
          let same = apart (get_or all.texts i d) (get_or all.texts j d) i j one two alike in
          omega arith;
    }

-- ---- sets of states, and what words are

-- the words have the same states after them, and are both products or neither
abbrev pub AreAlike : Automaton → List ℕ → List ℕ → Type 0
AreAlike automaton word other =
    ((state : ℕ) → IsAfterProduct automaton word state ↔ IsAfterProduct automaton other state) × (IsProduct automaton word ↔ IsProduct automaton other)

module _ (automaton : Automaton) (nfa : Nondeterministic) (repeated : IsStarNfa automaton nfa) where
  carried : (word other : List ℕ) → ((state : ℕ) → IsAfterProduct automaton word state → IsAfterProduct automaton other state)
      → (IsProduct automaton word → IsProduct automaton other) → (state : ℕ) → LeadsSomehow nfa word state → LeadsSomehow nfa other state
  carried word other states product state among =
      let count = length automaton.table.rows in
      elim (cases_lt count state) [
        | inr within ↦ (repeated.states other state within).1 (states state ((repeated.states word state within).0 among))
        | inl past ↦
            let most = (repeated.no_others word state among).0 in
            let at_mark : state ≡ count + 1 = omega arith in
            let P : ℕ → Type 0 = λ s. LeadsSomehow nfa other s in
            let Q : ℕ → Type 0 = λ s. LeadsSomehow nfa word s in
            subst P (sym at_mark) ((repeated.mark other).1 (product ((repeated.mark word).0 (subst Q at_mark among))))
      ]

  -- words lead to the same states exactly where they are alike
  alike : (word other : List ℕ) → ((state : ℕ) → LeadsSomehow nfa word state ↔ LeadsSomehow nfa other state) ↔ AreAlike automaton word other
  alike word other = (
    λ same. (
      λ state. (
        λ is.
            let within = repeated.are_states word state is in
            (repeated.states other state within).0 ((same state).0 ((repeated.states word state within).1 is)),
        λ is.
            let within = repeated.are_states other state is in
            (repeated.states word state within).0 ((same state).1 ((repeated.states other state within).1 is)),
      ),
      (
        λ product. (repeated.mark other).0 ((same (length automaton.table.rows + 1)).0 ((repeated.mark word).1 product)),
        λ product. (repeated.mark word).0 ((same (length automaton.table.rows + 1)).1 ((repeated.mark other).1 product)),
      ),
    ),
    λ are. λ state. (
      carried word other (λ s. (are.0 s).0) are.1.0 state,
      carried other word (λ s. (are.0 s).1) are.1.1 state,
    ),
  )

  -- sets of states that aren't empty are counted by `star`
  pub counted_sets : (m : ℕ) → MoreSetsThan (LeadsSomehow nfa) m → CountedStar automaton m
  counted_sets m more =
      MoreThan-kept more (λ word some. (repeated.no_others word some.0 some.1).1)
      (λ word other one two are. (alike word other).1 are)

  -- ---- the determinised automaton

  module _ (answer : Automaton) (is : IsAutomaton answer) (alphabet : answer.alphabet ≡ automaton.alphabet) (n : ℕ)
      (plain : automaton.alphabet ≡ Plain n)
      (leads : (text : List ℕ) → (state_after answer.table text ≢ 0) ↔ ((state : ℕ) × LeadsSomehow nfa text state))
      (sets : (text other : List ℕ) → (state_after answer.table text ≡ state_after answer.table other)
      ↔ ((state : ℕ) → LeadsSomehow nfa text state ↔ LeadsSomehow nfa other state))
      (reached : AreReached answer.table) where
    letters : symbols answer.alphabet ≡ generators automaton.alphabet
    letters = ap symbols (alphabet ∙ plain) ∙ sym (ap generators plain)

    abbrev IsLetter : ℕ → Type 0
    IsLetter x = (0 < x) × (x ≤ generators automaton.alphabet)

    -- words that lead to one state are alike, and alike words lead to one state, or none
    alike_after : (word other : List ℕ) → (state_after answer.table word ≡ state_after answer.table other) ↔ AreAlike automaton word other
    alike_after word other =
        let same = sets word other in
        let are = alike word other in
        (λ e. are.0 (same.0 e), λ a. same.1 (are.1 a))

    over_from_some : (word : List ℕ) → state_after answer.table word ≢ 0 → IsOver (generators automaton.alphabet) word
    over_from_some word some = let among = (leads word).0 some in (repeated.no_others word among.0 among.1).1

    -- where a move is lacking, a word leads to no state
    word_to_none : LacksMove answer → (word : List ℕ) × (IsOver (generators automaton.alphabet) word × (state_after answer.table word ≡ 0))
    word_to_none lacks =
        let access = reached lacks.state lacks.is_state in
        let there = access.1.leads in
        let positive = lacks.is_state.positive in
        let over = over_from_some access.0 (λ none. absurd (let no : ⊥ = omega arith in no)) in (
          access.0 ++ lacks.symbol ∷ [],
          (
            All-push IsLetter access.0 lacks.symbol over (lacks.is_symbol.0, omega (arith, letters, lacks.is_symbol.1)),
            after-append answer.table answer.table.initial access.0 (lacks.symbol ∷ [])
                ∙ ap (λ s. step answer.table s lacks.symbol) there ∙ lacks.none,
          ),
        )

    -- and where none is, each word leads to a state
    stays : ¬ LacksMove answer → (state : ℕ) (word : List ℕ) → IsState answer.table state → IsOver (generators automaton.alphabet) word
        → IsState answer.table (after answer.table state word)
    stays none state [] here over = here
    stays none state (symbol ∷ word) here over =
        let letter = All-head IsLetter symbol word over in
        let some : step answer.table state symbol ≢ 0 = λ nowhere. none (record {
          state = state;
          is_state = here;
          symbol = symbol;
          is_symbol = (letter.0, omega (arith, letters, letter.1));
          none = nowhere;
        }) in
        stays none (step answer.table state symbol) word
        (record { positive = omega arith; within = step_within answer.table state symbol is.table }) (All-tail IsLetter symbol word over)

    initial_state : IsState answer.table answer.table.initial
    initial_state =
        let some : answer.table.initial ≢ 0 = (leads []).1 (length automaton.table.rows + 1, (repeated.mark []).1 empty) in
        record { positive = omega arith; within = is.table.initial }

    -- a word to each state, and one to none, are more than there are states
    pub counted_with_none : (m : ℕ) → m ≤ length answer.table.rows → LacksMove answer → CountedStar automaton m
    counted_with_none m le lacks =
        MoreThan-from_numbers (length answer.table.rows + 1) (λ word number. state_after answer.table word ≡ number) (omega arith) word_to
        (λ word other one two leads_one leads_two are. sym leads_one ∙ (alike_after word other).1 are ∙ leads_two)
      where
        word_to : (number : ℕ) → number < length answer.table.rows + 1
            → (word : List ℕ) × (IsOver (generators automaton.alphabet) word × (state_after answer.table word ≡ number))
        word_to zero less = word_to_none lacks
        word_to (suc place) less =
            let access = reached (suc place) (record { positive = omega arith; within = omega arith }) in
            let there = access.1.leads in
            (access.0, (over_from_some access.0 (λ none. absurd (let no : ⊥ = omega arith in no)), there))

    -- there are no more things than states and no state
    pub few_with_none : (m : ℕ) → length answer.table.rows < m → ¬ CountedStar automaton m
    few_with_none m less =
        MoreThan-numbered (λ word number. state_after answer.table word ≡ number)
        (λ word over.
        let within = after_within answer.table answer.table.initial word is.table is.table.initial in
        (state_after answer.table word, (omega arith, refl)))
        (λ word other number one two. (alike_after word other).0 (one ∙ sym two))

    -- and no more than sets where each word leads to a state
    pub few_without_none : (m : ℕ) → ¬ LacksMove answer → ¬ MoreSetsThan (LeadsSomehow nfa) m → ¬ CountedStar automaton m
    few_without_none m none few more =
        few (MoreThan-kept more (λ word over.
        let positive = (stays none answer.table.initial word initial_state over).positive in
        (leads word).0 (λ nowhere. absurd (let no : ⊥ = omega arith in no)))
        (λ word other one two same. (alike word other).0 same))
