-- The sets to which the subset construction goes: exactly the states among which texts lead.
use Rattle.std.proofs.Common.{◌≡◌, ◌↔◌, ℕ, Bool, true, IsTrue, List, [], ◌∷◌, Option, Some, None, refl, ap, ◌∙◌, subst, inl, inr}
use Rattle.std.specs.List.{Contains, list_any}
use Rattle.std.proofs.lemmas.Bool.{false≢true, or_cases, or_left, or_right}
use Rattle.kb_fsa.specs.Table.{Table, AcceptsFrom}
use Rattle.kb_explore.specs.Machine.{lead, leads, MachineAccepts}
use Rattle.kb_explore.specs.Exploration.{IsExploration}
use Rattle.kb_explore.proofs.ExplorationLemmas.{accepts_same}
use Rattle.kb_fsadet.specs.Nondeterministic.{Nondeterministic, LeadsFrom, LeadsSomehow, AcceptsSomehow, accepts_at}
use Rattle.kb_fsadet.specs.SubsetConstruction.{set_of, some_set, targets_by, moves_of_each, subsets}
use Rattle.kb_fsadet.proofs.Sets.{Contains-none, Contains-here, Contains-there, Contains-cons_cases, IsAscending-set_of, Contains-set_of}
use Rattle.kb_fsadet.proofs.Targets.{Contains-targets_by, Contains-moves_of_each, moves_of_each_contain}
use Rattle.kb_fsadet.proofs.ExactSets.{IsSetOf, HasExactly, HasExactly-like}

-- ---- a test of some element

pub list_any-found : (test : ℕ → Bool) (xs : List ℕ) → list_any test xs ≡ true → (x : ℕ) × (Contains xs x × (test x ≡ true))
list_any-found test [] found = absurd (false≢true found)
list_any-found test (x ∷ xs) found =
    elim (or_cases (test x) (list_any test xs) found) [
      | inl here ↦ (x, (Contains-here x xs, here))
      | inr there ↦ let later = list_any-found test xs there in (later.0, (Contains-there x xs later.0 later.1.0, later.1.1))
    ]

pub list_any-from : (test : ℕ → Bool) (xs : List ℕ) (x : ℕ) → Contains xs x → test x ≡ true → list_any test xs ≡ true
list_any-from test [] x at passes = absurd (Contains-none x at)
list_any-from test (y ∷ xs) x at passes =
    elim (Contains-cons_cases y xs x at) [
      | inl is ↦ or_left (test y) (list_any test xs) (ap test is ∙ passes)
      | inr there ↦ or_right (test y) (list_any test xs) (list_any-from test xs x there passes)
    ]

-- ---- where texts lead

-- the text leads from one of the states
unfoldable pub LeadsFromSome : Nondeterministic → List ℕ → List ℕ → ℕ → Type 0
LeadsFromSome automaton states text state = (start : ℕ) × (Contains states start × LeadsFrom automaton start text state)

module _ (automaton : Nondeterministic) where
  -- the first symbol leads to what the rest of the text leads from
  pub one_more : (states : List ℕ) (symbol : ℕ) (text : List ℕ) (state : ℕ)
      → LeadsFromSome automaton (targets_by (moves_of_each automaton (set_of states)) symbol) text state
      ↔ LeadsFromSome automaton states (symbol ∷ text) state
  unfolding LeadsFromSome
  one_more states symbol text state = (
    λ leads_on.
        let move = (Contains-targets_by (moves_of_each automaton (set_of states)) symbol leads_on.0).0 leads_on.1.0 in
        let from = Contains-moves_of_each automaton (set_of states) (symbol, leads_on.0) move in
        (from.0, ((Contains-set_of states from.0).0 from.1.0, (leads_on.0, from.1.1, leads_on.1.1))),
    λ leads_on.
        let next = leads_on.1.1.0 in
        let move = moves_of_each_contain automaton (set_of states) leads_on.0 (symbol, next)
        ((Contains-set_of states leads_on.0).1 leads_on.1.0) leads_on.1.1.1 in
        (next, ((Contains-targets_by (moves_of_each automaton (set_of states)) symbol next).1 move, leads_on.1.1.2)),
  )

  exactly_from : (text states : List ℕ)
      → HasExactly (LeadsFromSome automaton states text) (lead (subsets automaton) (some_set states) text)
  unfolding HasExactly LeadsFromSome
  exactly_from [] [] = λ x leads_on. Contains-none leads_on.0 leads_on.1.0
  exactly_from (symbol ∷ text) [] = λ x leads_on. Contains-none leads_on.0 leads_on.1.0
  exactly_from [] (state ∷ states) = record {
    ascends = IsAscending-set_of (state ∷ states);
    some = (state, (state, (Contains-here state states, refl)));
    members = λ x. (
      λ at. (x, ((Contains-set_of (state ∷ states) x).0 at, refl)),
      λ leads_on.
          let P : ℕ → Type 0 = λ y. Contains (state ∷ states) y in
          (Contains-set_of (state ∷ states) x).1 (subst P leads_on.1.1 leads_on.1.0),
    );
  }
  exactly_from (symbol ∷ text) (state ∷ states) =
      let next = targets_by (moves_of_each automaton (set_of (state ∷ states))) symbol in
      HasExactly-like (LeadsFromSome automaton next text) (LeadsFromSome automaton (state ∷ states) (symbol ∷ text))
      (lead (subsets automaton) (some_set next) text) (one_more (state ∷ states) symbol text) (exactly_from text next)

  pub exactly : (text : List ℕ) → HasExactly (LeadsSomehow automaton text) (leads (subsets automaton) text)
  unfolding LeadsFromSome
  exactly text =
      HasExactly-like (LeadsFromSome automaton automaton.initial text) (LeadsSomehow automaton text) (leads (subsets automaton) text)
      (λ x. (
        λ leads_on. record { start = leads_on.0; is_initial = leads_on.1.0; leads = leads_on.1.1 },
        λ among. (among.start, (among.is_initial, among.leads)),
      ))
      (exactly_from text automaton.initial)

  -- the machine accepts what the automaton does
  same_language : (text : List ℕ) → MachineAccepts (subsets automaton) text ↔ AcceptsSomehow automaton text
  unfolding HasExactly
  same_language text = (
    λ accepts.
        let P : Option (List ℕ) → Type 0 = λ o. HasExactly (LeadsSomehow automaton text) o in
        let is = let set : IsSetOf (LeadsSomehow automaton text) accepts.state = subst P accepts.leads_there (exactly text) in set in
        let found = list_any-found (accepts_at automaton) accepts.state accepts.accepts in
        (found.0, (is.members found.0).0 found.1.0, found.1.1),
    λ accepts. back (leads (subsets automaton) text) refl (exactly text) accepts.0 accepts.1 accepts.2,
  )
    where
      back : (o : Option (List ℕ)) → leads (subsets automaton) text ≡ o → HasExactly (LeadsSomehow automaton text) o
          → (state : ℕ) → LeadsSomehow automaton text state → IsTrue (accepts_at automaton state) → MachineAccepts (subsets automaton) text
      back None e none state among accepts = absurd (none state among)
      back (Some set) e is state among accepts = record {
        state = set;
        leads_there = e;
        accepts = list_any-from (accepts_at automaton) set state ((is.members state).1 among) accepts;
      }

  -- and so does the table of the explored machine
  pub same_texts : (table : Table) (states : List (List ℕ)) (origins : List (ℕ × ℕ)) → IsExploration (subsets automaton) table states origins
      → (text : List ℕ) → AcceptsFrom table table.initial text ↔ AcceptsSomehow automaton text
  same_texts table states origins explored text = (
    λ accepts. (same_language text).0 ((accepts_same explored text).0 accepts),
    λ accepts. (accepts_same explored text).1 ((same_language text).1 accepts),
  )
