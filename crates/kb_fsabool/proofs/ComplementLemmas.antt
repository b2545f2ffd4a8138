-- The complement: its moves, the texts that lead to a state, and how many states it has.
use Rattle.std.proofs.Common.{◌≡◌, ◌≢◌, ◌↔◌, ℕ, ◌+◌, ◌<◌, ◌≤◌, IsSome, is_some, List, [], ◌∷◌, ◌++◌, get_or, Option, Some, None, refl, sym, ap, ◌∙◌, subst, inl, inr, arith}
use Rattle.std.proofs.lemmas.Bool.{true≢false, false≢true, cases_lt, cases_order, not-true, not_from_false, false_from_ne_true}
use Rattle.std.proofs.lemmas.List.Elements.{All-nil, All-push}
use Rattle.std.proofs.lemmas.Option.{none-some, same_Some}
use Rattle.kb_fsa.specs.Table.{Table, HasSymbols, lookup, step, after, state_after, is_accepting}
use Rattle.kb_fsa.specs.Language.{Automaton, IsAutomaton, IsTextOf, AcceptsText, symbols}
use Rattle.kb_fsa.specs.Counted.{EndAlike, CountedNot}
use Rattle.kb_fsa.proofs.Lookups.{lookup_at, lookup_above, lookup-push_same, lookup-push_other, Ascends-push}
use Rattle.kb_explore.specs.Machine.{MachineAccepts, AreMovesOf, HasMoreStates, lead, leads}
use Rattle.kb_explore.specs.Exploration.{IsExploration}
use Rattle.kb_explore.proofs.CountingLemmas.{MoreThan-kept}
use Rattle.kb_explore.proofs.ExplorationLemmas.{accepts_same, leads_nowhere}
use Rattle.kb_fsa.specs.declared.ended.Ended.{Ended}
use Rattle.kb_fsa.specs.declared.ended.Ended.TheVariants.{Neither}
use Rattle.kb_fsabool.specs.declared.place.Place.{Place}
use Rattle.kb_fsabool.specs.Answers.{IsComplement}
use Rattle.kb_fsa.specs.EndedWords.{ended_after, ended_by, first_after, stride_after}
use Rattle.kb_fsabool.specs.Complements.{place_at, complement, AreMovesBefore}
use Rattle.kb_fsa.proofs.PaddedRuns.{symbol_of_after, none_foreign, none_before, none_between, first_in_stride, next_in_stride, stride_positive, run_of_text, text_of_run, alike_of_runs, runs_of_alike}

-- ---- moves

-- where the symbol leads from the place
followed : Automaton → Place → ℕ → Option Place
followed automaton place symbol = place_at (step automaton.table place.state symbol) (ended_after automaton.alphabet place.ended symbol)

none_followed : (automaton : Automaton) (place : Place) (symbol : ℕ) → ended_after automaton.alphabet place.ended symbol ≡ None
    → followed automaton place symbol ≡ None
unfolding followed
none_followed automaton place symbol none = ap (place_at (step automaton.table place.state symbol)) none

pub no_moves_before : (automaton : Automaton) (place : Place)
    → AreMovesBefore automaton place (first_after automaton.alphabet place.ended) []
unfolding followed
no_moves_before automaton place = record {
  ascends = λ i j d low high. absurd (omega arith);
  below = All-nil (λ move. move.0 < first_after automaton.alphabet place.ended);
  lookup = λ other less. sym (none_followed automaton place other (none_before automaton.alphabet place.ended other less));
  in_stride = first_in_stride automaton.alphabet place.ended;
}

module _ {automaton : Automaton} {place : Place} {symbol : ℕ} {moves : List (ℕ × Place)}
    (before : AreMovesBefore automaton place symbol moves) where
  none_at : lookup moves symbol ≡ None
  none_at = lookup_above moves symbol before.below

  positive : 0 < stride_after automaton.alphabet place.ended
  positive = stride_positive automaton.alphabet place.ended

  further : (other : ℕ) → symbol < other → other < symbol + stride_after automaton.alphabet place.ended → followed automaton place other ≡ None
  further other more less =
      none_followed automaton place other (none_between automaton.alphabet place.ended symbol other before.in_stride more less)

  none_above : (other : ℕ) → symbol < other → lookup moves other ≡ None
  none_above other more = lookup_above moves other (λ k d h. omega (arith, before.below k d h))

  pub moves_with : (ended : Ended) (state : ℕ) → ended_after automaton.alphabet place.ended symbol ≡ Some ended → state ≡ step automaton.table place.state symbol
      → AreMovesBefore automaton place (symbol + stride_after automaton.alphabet place.ended) (moves ++ (symbol, record { state = state; ended = ended }) ∷ [])
  unfolding followed
  moves_with ended state follows is =
      let next : Place = record { state = state; ended = ended } in
      record {
        ascends = Ascends-push moves symbol next before.ascends before.below;
        below =
            let some = positive in
            All-push (λ (move : ℕ × Place). move.0 < symbol + stride_after automaton.alphabet place.ended) moves (symbol, next)
            (λ k d h. omega (arith, before.below k d h)) (omega arith);
        lookup = λ other less. elim (cases_order symbol other) [
          | inl same ↦
              let P : ℕ → Type 0 = λ x. lookup (moves ++ (symbol, next) ∷ []) x ≡ followed automaton place x in
              subst P same (lookup-push_same moves symbol next none_at
              ∙ ap (λ s. Some (record { state = s; ended = ended })) is ∙ sym (ap (place_at (step automaton.table place.state symbol)) follows))
          | inr apart ↦ lookup-push_other moves symbol next other (λ e. elim apart [ inl more ↦ omega arith | inr fewer ↦ omega arith ]) ∙ elim apart [
            | inl more ↦ none_above other more ∙ sym (further other more less)
            | inr fewer ↦ before.lookup other fewer
          ]
        ];
        in_stride = next_in_stride automaton.alphabet place.ended symbol before.in_stride;
      }

  pub moves_without : ended_after automaton.alphabet place.ended symbol ≡ None
      → AreMovesBefore automaton place (symbol + stride_after automaton.alphabet place.ended) moves
  unfolding followed
  moves_without none = record {
    ascends = before.ascends;
    below = λ k d h. omega (arith, before.below k d h);
    lookup = λ other less. elim (cases_order symbol other) [
      | inl same ↦
          let P : ℕ → Type 0 = λ x. lookup moves x ≡ followed automaton place x in
          subst P same (none_at ∙ sym (none_followed automaton place symbol none))
      | inr apart ↦ elim apart [
        | inl more ↦ none_above other more ∙ sym (further other more less)
        | inr fewer ↦ before.lookup other fewer
      ]
    ];
    in_stride = next_in_stride automaton.alphabet place.ended symbol before.in_stride;
  }

  -- past the last symbol they are all moves
  pub all_moves : symbols automaton.alphabet < symbol → AreMovesOf (complement automaton) (symbols automaton.alphabet) place moves
  unfolding followed
  all_moves past = record {
    ascends = before.ascends;
    symbols = λ k d h.
        let move = get_or moves k d in
        let below : move.0 < symbol = before.below k d h in
        some_symbol move.0 move.1 (ended_after automaton.alphabet place.ended move.0) refl
        (sym (before.lookup move.0 below) ∙ lookup_at moves k d before.ascends h);
    follow = λ other. elim (cases_lt other symbol) [
      | inl less ↦ before.lookup other less
      | inr above ↦
          lookup_above moves other (λ k d h. omega (arith, before.below k d h))
          ∙ sym (none_followed automaton place other (none_foreign automaton.alphabet place.ended other (λ is. omega (arith, is.1))))
    ];
  }
    where
      some_symbol : (x : ℕ) (to : Place) (o : Option Ended) → ended_after automaton.alphabet place.ended x ≡ o → followed automaton place x ≡ Some to
          → (0 < x) × (x ≤ symbols automaton.alphabet)
      some_symbol x to None is leads_to = absurd (none-some to (sym (none_followed automaton place x is) ∙ leads_to))
      some_symbol x to (Some next) is leads_to = symbol_of_after automaton.alphabet place.ended x next is

-- ---- the texts that lead to a state

lead_place : (automaton : Automaton) (state : ℕ) (ended : Option Ended) (text : List ℕ)
    → lead (complement automaton) (place_at state ended) text ≡ place_at (after automaton.table state text) (ended_by automaton.alphabet ended text)
lead_place automaton state None [] = refl
lead_place automaton state None (symbol ∷ text) = refl
lead_place automaton state (Some ended) [] = refl
lead_place automaton state (Some ended) (symbol ∷ text) =
    lead_place automaton (step automaton.table state symbol) (ended_after automaton.alphabet ended symbol) text

-- which word has ended after the text, if it is one of the alphabet
ended_in : Automaton → List ℕ → Option Ended
ended_in automaton text = ended_by automaton.alphabet (Some Neither) text

-- a text leads to the state that it leads to, with which word has ended
complement_leads : (automaton : Automaton) (text : List ℕ)
    → leads (complement automaton) text ≡ place_at (state_after automaton.table text) (ended_in automaton text)
unfolding ended_in
complement_leads automaton text = lead_place automaton automaton.table.initial (Some Neither) text

module _ (automaton : Automaton) where
  -- where a text leads somewhere, it is one of the alphabet
  place_of_leads : (text : List ℕ) (place : Place) → leads (complement automaton) text ≡ Some place
      → (ended_in automaton text ≡ Some place.ended) × (state_after automaton.table text ≡ place.state)
  place_of_leads text place is = on (ended_in automaton text) refl
    where
      on : (o : Option Ended) → ended_in automaton text ≡ o
          → (ended_in automaton text ≡ Some place.ended) × (state_after automaton.table text ≡ place.state)
      on None none =
          absurd (none-some place (sym (ap (place_at (state_after automaton.table text)) none) ∙ sym (complement_leads automaton text) ∙ is))
      on (Some ended) some =
          let same = same_Some _ _ (sym (ap (place_at (state_after automaton.table text)) some) ∙ sym (complement_leads automaton text) ∙ is) in
          (some ∙ ap (λ (p : Place). Some p.ended) same, ap (λ (p : Place). p.state) same)

  pub text_of_leads : (text : List ℕ) (place : Place) → leads (complement automaton) text ≡ Some place → IsTextOf automaton.alphabet text
  unfolding ended_in
  text_of_leads text place is = text_of_run automaton.alphabet text place.ended (place_of_leads text place is).0

  leads_of_ended : (text : List ℕ) (ended : Ended) → ended_in automaton text ≡ Some ended
      → leads (complement automaton) text ≡ Some (record { state = state_after automaton.table text; ended = ended })
  leads_of_ended text ended is = complement_leads automaton text ∙ ap (place_at (state_after automaton.table text)) is

  -- the complement accepts the texts that the automaton doesn't
  pub complement_accepts : (text : List ℕ) → MachineAccepts (complement automaton) text
      ↔ (IsTextOf automaton.alphabet text × ¬ AcceptsText automaton text)
  unfolding ended_in
  complement_accepts text = (
    λ accepts.
        let place = place_of_leads text accepts.state accepts.leads_there in
        let rejects = not-true (is_accepting automaton.table accepts.state.state) accepts.accepts in (
          text_of_leads text accepts.state accepts.leads_there,
          λ yes. true≢false (sym yes ∙ ap (is_accepting automaton.table) place.1 ∙ rejects),
        ),
    λ left.
        let run = run_of_text automaton.alphabet text left.0 in
        record {
          state = record { state = state_after automaton.table text; ended = run.0 };
          leads_there = leads_of_ended text run.0 run.1;
          accepts =
              not_from_false (is_accepting automaton.table (state_after automaton.table text))
              (false_from_ne_true (is_accepting automaton.table (state_after automaton.table text)) left.1);
        },
  )

  -- ---- how many states there are

  some_text : (text : List ℕ) → IsSome (leads (complement automaton) text) → IsTextOf automaton.alphabet text
  some_text text some = on (leads (complement automaton) text) refl some
    where
      on : (o : Option Place) → leads (complement automaton) text ≡ o → IsSome o → IsTextOf automaton.alphabet text
      on None is some = absurd (false≢true some)
      on (Some place) is some = text_of_leads text place is

  same_leads : (text other : List ℕ) → IsTextOf automaton.alphabet text → IsTextOf automaton.alphabet other
      → (state_after automaton.table text ≡ state_after automaton.table other) × EndAlike automaton.alphabet text other
      → leads (complement automaton) text ≡ leads (complement automaton) other
  unfolding ended_in
  same_leads text other here there same =
      let run = run_of_text automaton.alphabet text here in
      let more = run_of_text automaton.alphabet other there in
      let ended = runs_of_alike automaton.alphabet text other run.0 more.0 run.1 more.1 same.1 in
      leads_of_ended text run.0 run.1
      ∙ ap (λ s. Some (record { state = s; ended = run.0 })) same.0
      ∙ ap (λ e. Some (record { state = state_after automaton.table other; ended = e })) ended
      ∙ sym (leads_of_ended other more.0 more.1)

  pub places_counted : (m : ℕ) → HasMoreStates (complement automaton) m ↔ CountedNot automaton m
  unfolding ended_in
  places_counted m = (
    λ more. MoreThan-kept more some_text (λ text other here there same. same_leads text other (some_text text here) (some_text other there) same),
    λ more. MoreThan-kept more
        (λ text is. let run = run_of_text automaton.alphabet text is in ap (λ o. is_some o) (leads_of_ended text run.0 run.1))
        (λ text other here there same.
        let run = run_of_text automaton.alphabet text here in
        let place = place_of_leads other (record { state = state_after automaton.table text; ended = run.0 }) (sym same ∙ leads_of_ended text run.0 run.1) in
        (sym place.1, alike_of_runs automaton.alphabet text other (run.1 ∙ sym place.0))),
  )

-- ---- the automaton

module _ (automaton : Automaton) {table : Table} {states : List Place} {origins : List (ℕ × ℕ)}
    (explored : IsExploration (complement automaton) table states origins) where
  pub complement_automaton : IsAutomaton automaton → HasSymbols (symbols automaton.alphabet) table
      → IsAutomaton (record { alphabet = automaton.alphabet; table = table })
  complement_automaton is low = record {
    generators = is.generators;
    table = explored.is_table;
    symbols = low;
    texts = λ text some. on text some (leads (complement automaton) text) refl;
  }
    where
      on : (text : List ℕ) → state_after table text ≢ 0 → (o : Option Place) → leads (complement automaton) text ≡ o → IsTextOf automaton.alphabet text
      on text some None is = absurd (some ((leads_nowhere explored text).1 is))
      on text some (Some place) is = text_of_leads automaton text place is

  pub complement_language : IsComplement automaton (record { alphabet = automaton.alphabet; table = table })
  complement_language text =
      let same = accepts_same explored text in
      let means = complement_accepts automaton text in
      (λ accepts. means.0 (same.0 accepts), λ left. same.1 (means.1 left))
