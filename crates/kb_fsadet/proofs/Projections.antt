-- The automaton of first words has the projection of the pairs' language.
use Rattle.std.proofs.Common.{◌≡◌, ◌≢◌, ◌↔◌, ℕ, zero, suc, ◌+◌, ◌-◌, ◌*◌, ◌<◌, ◌≤◌, Bool, IsTrue, List, [], ◌∷◌, ◌++◌, length, get_or, take, drop, refl, sym, ap, ◌∙◌, subst, inl, inr, arith, append-nil}
use Rattle.std.specs.List.{All, Contains, filter_map}
use Rattle.std.proofs.lemmas.Bool.{cases_lt, cases_eq, false≢true}
use Rattle.std.proofs.lemmas.List.{length-take, length-map}
use Rattle.std.proofs.lemmas.List.Elements.{All-head, All-take, All-drop, All-append, All-map, All-from_get_or}
use Rattle.kb_word.specs.Relations.{IsOver}
use Rattle.kb_fsa.specs.declared.alphabet.Alphabet.{Alphabet}
use Rattle.kb_fsa.specs.declared.alphabet.Alphabet.TheVariants.{Pair}
use Rattle.kb_fsa.specs.Table.{IsTable, HasSymbols, AcceptsFrom, after, state_after, is_accepting}
use Rattle.kb_fsa.specs.Padding.{padded, IsPadded}
use Rattle.kb_fsa.specs.Language.{Automaton, IsAutomaton, IsTextOf, AcceptsPair, generators, symbols}
use Rattle.kb_fsa.specs.Counted.{IsAfterFirst, MoreSetsThan}
use Rattle.kb_fsa.proofs.Lookups.{after_none, accepting_positive, after-append}
use Rattle.kb_fsa.proofs.PairSymbolLaws.{first_within}
use Rattle.kb_explore.proofs.CountingLemmas.{MoreThan-kept}
use Rattle.kb_fsadet.specs.Nondeterministic.{Nondeterministic, IsNondeterministic, LeadsSomehow, AcceptsSomehow, IsOneOf, accepts_at}
use Rattle.kb_fsadet.specs.Projection.{HasSecond}
use Rattle.kb_fsadet.specs.FirstWords.{by_first, first_words, where_some, EndsFrom, AreEnds, IsFirstWords}
use Rattle.kb_fsadet.proofs.Sets.{All-from_contains, Contains-none, Contains-here, Contains-cons_cases}
use Rattle.kb_fsadet.proofs.FirstWordLemmas.{from_by_first}
use Rattle.kb_fsadet.proofs.Endings.{known}
use Rattle.kb_fsadet.proofs.FirstWordTexts.{second_from_leads, leads_by_first, padded_parts, padded_joined, shorter_has_ended}

-- the one state, where there is one
from_where_some : (state start : ℕ) → Contains (where_some state) start → (start ≡ state) × (0 < state)
from_where_some zero start at = absurd (Contains-none start at)
from_where_some (suc place) start at =
    elim (Contains-cons_cases (suc place) [] start at) [
      | inl is ↦ (sym is, omega arith)
      | inr there ↦ absurd (Contains-none start there)
    ]

where_some_from : (state : ℕ) → 0 < state → Contains (where_some state) state
where_some_from zero positive = absurd (let no : ⊥ = omega arith in no)
where_some_from (suc place) positive = Contains-here (suc place) []

module _ (pairs : Automaton) (is : IsTable pairs.table)
    (within : HasSymbols ((generators pairs.alphabet + 1) * (generators pairs.alphabet + 1) - 1) pairs.table)
    (texts : (text : List ℕ) → state_after pairs.table text ≢ 0 → IsPadded (generators pairs.alphabet) text)
    (marks : List Bool) (ends : AreEnds (generators pairs.alphabet) pairs.table marks) where
  abbrev n : ℕ
  n = generators pairs.alphabet

  abbrev words : Nondeterministic
  words = first_words n pairs.table marks

  after_first : (word : List ℕ) (state : ℕ) → LeadsSomehow words word state → IsAfterFirst pairs word state
  after_first word state among =
      let start = from_where_some pairs.table.initial among.start among.is_initial in
      let initial_texts : (text : List ℕ) → after pairs.table among.start text ≢ 0 → IsPadded n text =
      λ text some. texts text (λ none. some (ap (λ s. after pairs.table s text) start.0 ∙ none)) in
      let by = second_from_leads n pairs.table is within marks word among.start state initial_texts (λ none. omega (arith, start.0, start.1)) among.leads in
      record {
        second = by.second;
        first_over = by.over_first;
        second_over = by.over;
        no_longer = by.no_longer;
        leads = ap (λ s. after pairs.table s (padded n word by.second)) (sym start.0) ∙ by.leads;
        some = by.some;
      }

  among_from : (word : List ℕ) (state : ℕ) → IsAfterFirst pairs word state → LeadsSomehow words word state
  among_from word state first =
      let leads = first.leads in
      let positive : 0 < pairs.table.initial = elim (cases_lt 0 pairs.table.initial) [
        | inl positive ↦ positive
        | inr none ↦
            let no : pairs.table.initial ≡ 0 = omega arith in
            let text = padded n word first.second in
            absurd (first.some (sym leads ∙ ap (λ s. after pairs.table s text) no ∙ after_none pairs.table text))
      ] in record {
        start = pairs.table.initial;
        is_initial = where_some_from pairs.table.initial positive;
        leads = leads_by_first n pairs.table is within marks word first.second pairs.table.initial state first.first_over first.second_over
            first.no_longer leads first.some;
      }

  accepts_ends : (state : ℕ) → IsTrue (accepts_at words state) ↔ EndsFrom n pairs.table state
  accepts_ends zero = (
    λ accepts. absurd (false≢true accepts),
    λ end. absurd (false≢true (sym (ap (is_accepting pairs.table) (after_none pairs.table (padded n [] end.0))) ∙ end.1.1)),
  )
  accepts_ends (suc place) = ends.ends place

  pub are_first_words : IsFirstWords pairs words
  are_first_words = record {
    alphabet = refl;
    among = λ word state. (after_first word state, among_from word state);
    accepts = accepts_ends;
  }

  abbrev P : ℕ × ℕ → Type 0
  P move = IsOneOf n move.0 × IsOneOf (length words.rows) move.1

  -- its moves are by letters, to states
  row_known : (place : ℕ) (move : ℕ × ℕ) → Contains (filter_map (by_first n) (get_or pairs.table.rows place [])) move → P move
  row_known place move at =
      let from = from_by_first n (get_or pairs.table.rows place []) move.0 move.1 at in
      let facts = known n pairs.table is within (suc place) from.symbol move.1 from.move in
      let low = first_within n from.symbol (facts.0, facts.1.0) in
      let first = from.first_is in
      let letter = from.letter in (
        (omega arith, omega arith),
        (facts.1.1.0, omega (arith, facts.1.1.1, length-map pairs.table.rows (filter_map (by_first n)))),
      )

  pub words_automaton : n ≤ 65534 → IsNondeterministic words
  words_automaton few = record {
    generators = few;
    one_answer_each = ends.one_each ∙ sym (length-map pairs.table.rows (filter_map (by_first n)));
    size = omega (arith, length-map pairs.table.rows (filter_map (by_first n)), is.size);
    initial = All-from_contains (IsOneOf (length words.rows)) words.initial (λ start at.
        let one = from_where_some pairs.table.initial start at in
        (omega (arith, one.0, one.1), omega (arith, one.0, length-map pairs.table.rows (filter_map (by_first n)), is.initial)));
    moves = All-map (All P) (filter_map (by_first n)) pairs.table.rows (All-from_get_or (λ row. All P (filter_map (by_first n) row))
        pairs.table.rows [] (λ place low. All-from_contains P (filter_map (by_first n) (get_or pairs.table.rows place [])) (row_known place)));
    texts = λ text state among. (after_first text state among).first_over;
  }

-- ---- what an automaton of pairs keeps

pub symbols_of_pairs : (pairs : Automaton) (k : ℕ) → pairs.alphabet ≡ Pair k → IsAutomaton pairs
    → HasSymbols ((generators pairs.alphabet + 1) * (generators pairs.alphabet + 1) - 1) pairs.table
symbols_of_pairs pairs k pair is =
    let P : Alphabet → Type 0 = λ a. HasSymbols (symbols a) pairs.table in
    let Q : Alphabet → Type 0 = λ a. HasSymbols ((generators a + 1) * (generators a + 1) - 1) pairs.table in
    subst Q (sym pair) (subst P pair is.symbols)

pub texts_of_pairs : (pairs : Automaton) (k : ℕ) → pairs.alphabet ≡ Pair k → IsAutomaton pairs
    → (text : List ℕ) → state_after pairs.table text ≢ 0 → IsPadded (generators pairs.alphabet) text
texts_of_pairs pairs k pair is text some =
    let P : Alphabet → Type 0 = λ a. IsTextOf a text in
    let Q : Alphabet → Type 0 = λ a. IsPadded (generators a) text in
    subst Q (sym pair) (subst P pair (is.texts text some))

-- ---- the projection

module _ (pairs : Automaton) (is : IsTable pairs.table)
    (texts : (text : List ℕ) → state_after pairs.table text ≢ 0 → IsPadded (generators pairs.alphabet) text)
    (nfa : Nondeterministic) (reads : IsFirstWords pairs nfa) where
  abbrev k : ℕ
  k = generators pairs.alphabet

  -- beside the word the second word goes on to the tail
  second_from_parts : (word : List ℕ) (state : ℕ) (first : IsAfterFirst pairs word state) (tail : List ℕ) → IsOver k tail
      → AcceptsFrom pairs.table state (padded k [] tail) → HasSecond pairs word
  second_from_parts word state first tail over accepts =
      let whole = padded k word first.second ++ padded k [] tail in
      let leads_on = after-append pairs.table pairs.table.initial (padded k word first.second) (padded k [] tail)
      ∙ ap (λ s. after pairs.table s (padded k [] tail)) first.leads in
      let accepted : IsTrue (is_accepting pairs.table (state_after pairs.table whole)) = ap (is_accepting pairs.table) leads_on ∙ accepts in
      let le = first.no_longer in
      elim (cases_eq (length first.second) (length word)) [
        | inl long ↦ record {
          second = first.second ++ tail;
          first_over = first.first_over;
          second_over = All-append (λ x. (0 < x) × (x ≤ k)) first.second tail first.second_over over;
          accepts = ap (λ text. is_accepting pairs.table (state_after pairs.table text)) (padded_joined k word first.second tail long) ∙ accepted;
        }
        | inr shorter ↦ record {
          second = first.second;
          first_over = first.first_over;
          second_over = first.second_over;
          accepts = ended word first.second tail first.first_over first.second_over over (omega arith) accepted;
        }
      ]
    where
      ended : (u v w : List ℕ) → IsOver k u → IsOver k v → IsOver k w → length v < length u
          → IsTrue (is_accepting pairs.table (state_after pairs.table (padded k u v ++ padded k [] w))) → AcceptsPair pairs u v
      ended u v [] over_u over_v over_w short accepts =
          ap (λ text. is_accepting pairs.table (state_after pairs.table text)) (sym (append-nil (padded k u v))) ∙ accepts
      ended u v (j ∷ w) over_u over_v over_w short accepts =
          let some = accepting_positive pairs.table (state_after pairs.table (padded k u v ++ padded k [] (j ∷ w))) accepts in
          absurd (shorter_has_ended k u v j (padded k [] w) over_u over_v short (All-head (λ x. (0 < x) × (x ≤ k)) j w over_w)
          (texts (padded k u v ++ padded k [] (j ∷ w)) (λ none. omega (arith, some))))

  -- the automaton of first words accepts those beside which the pairs accept some word
  pub is_projection : (word : List ℕ) → AcceptsSomehow nfa word ↔ HasSecond pairs word
  is_projection word = (
    λ accepts.
        let end = (reads.accepts accepts.0).0 accepts.2 in
        second_from_parts word accepts.0 ((reads.among word accepts.0).0 accepts.1) end.0 end.1.0 end.1.1,
    λ has.
        let front = take (length word) has.second in
        let back = drop (length word) has.second in
        let state = state_after pairs.table (padded k word front) in
        let leads_on = sym (after-append pairs.table pairs.table.initial (padded k word front) (padded k [] back))
        ∙ ap (state_after pairs.table) (sym (padded_parts k word has.second)) in
        let accepted : AcceptsFrom pairs.table state (padded k [] back) = ap (is_accepting pairs.table) leads_on ∙ has.accepts in
        let some : state ≢ 0 = λ none.
        absurd (false≢true (sym (ap (is_accepting pairs.table) (ap (λ s. after pairs.table s (padded k [] back)) none ∙ after_none pairs.table (padded k [] back))) ∙ accepted)) in (
          state,
          (reads.among word state).1 (record {
            second = front;
            first_over = has.first_over;
            second_over = All-take (λ x. (0 < x) × (x ≤ k)) (length word) has.second has.second_over;
            no_longer = omega (arith, length-take (length word) has.second);
            leads = refl;
            some = some;
          }),
          (reads.accepts state).1 (back, (All-drop (λ x. (0 < x) × (x ≤ k)) (length word) has.second has.second_over, accepted)),
        ),
  )

-- as many sets of states, where the states are the same
pub MoreSetsThan-like : (P Q : List ℕ → ℕ → Type 0) (m : ℕ) → ((text : List ℕ) (x : ℕ) → P text x ↔ Q text x)
    → MoreSetsThan P m → MoreSetsThan Q m
MoreSetsThan-like P Q m like more =
    MoreThan-kept more (λ text some. (some.0, (like text some.0).0 some.1)) (λ text other one two same x. (
      λ of. (like other x).1 ((same x).0 ((like text x).0 of)),
      λ of. (like text x).1 ((same x).1 ((like other x).0 of)),
    ))
