-- The subset construction without the sets that accept goes to the sets of states to which such texts lead of which no
-- prefix is accepted.
use Rattle.std.proofs.Common.{◌≡◌, ◌≢◌, ◌↔◌, ◌⊎◌, ℕ, ◌<◌, ◌≤◌, Bool, true, false, not, IsTrue, List, [], ◌∷◌, ◌++◌, Option, Some, None, IsSome, is_some, refl, sym, ap, ◌∙◌, subst, inl, inr, arith}
use Rattle.std.specs.List.{All, Contains, filter}
use Rattle.std.proofs.lemmas.Bool.{false≢true, cases_Bool, cases_eq, not_from_false, not_from_true}
use Rattle.std.proofs.lemmas.List.Elements.{All-filter}
use Rattle.std.proofs.lemmas.List.Kept.{AllPairs-filter}
use Rattle.kb_fsa.specs.Table.{Table, AcceptsFrom, Ascends, lookup}
use Rattle.kb_fsa.proofs.Lookups.{lookup_here, lookup_there, lookup_nowhere, Ascends-tail, Ascends-head}
use Rattle.kb_explore.specs.Machine.{AreMovesOf, MachineAccepts, lead, leads}
use Rattle.kb_explore.specs.Exploration.{IsExploration}
use Rattle.kb_explore.proofs.ExplorationLemmas.{accepts_same}
use Rattle.kb_fsadet.specs.Nondeterministic.{Nondeterministic, accepts_at}
use Rattle.kb_fsadet.specs.SubsetConstruction.{set_of, some_set, targets_by, moves_of_each, subsets}
use Rattle.kb_fsadet.specs.Avoidance.{LeadsAvoiding, any_accepts, unless_accepting, avoiding}
use Rattle.kb_fsadet.proofs.Sets.{Contains-none, Contains-here, IsAscending-set_of, Contains-set_of}
use Rattle.kb_fsadet.proofs.ExactSets.{IsSetOf, HasExactly, HasExactly-like, leads_somewhere}
use Rattle.kb_fsadet.proofs.Determinised.{LeadsFromSome, list_any-found, list_any-from, one_more}

-- ---- sets that accept

pub unless_accepted : (automaton : Nondeterministic) (states : List ℕ) → any_accepts automaton states ≡ true
    → unless_accepting automaton (Some states) ≡ None
unless_accepted automaton states accepts = rw accepts refl

pub unless_rejected : (automaton : Nondeterministic) (states : List ℕ) → any_accepts automaton states ≡ false
    → unless_accepting automaton (Some states) ≡ Some states
unless_rejected automaton states rejects = rw rejects refl

-- ---- where texts lead

-- no prefix of the text leads from one of the states to acceptance
abbrev AvoidsFromSome : Nondeterministic → List ℕ → List ℕ → Type 0
AvoidsFromSome automaton states text =
    (front rest : List ℕ) → text ≡ front ++ rest
    → (state : ℕ) → LeadsFromSome automaton states front state → ¬ IsTrue (accepts_at automaton state)

record LeadsFromAvoiding (automaton : Nondeterministic) (states text : List ℕ) (state : ℕ) : Type 0 where
  leads : LeadsFromSome automaton states text state
  avoids : AvoidsFromSome automaton states text

-- by the text the machine goes from what is given to exactly the states to which such a text leads from these
abbrev GoesExactly : Nondeterministic → List ℕ → List ℕ → Option (List ℕ) → Type 0
GoesExactly automaton text states start =
    HasExactly (LeadsFromAvoiding automaton states text) (lead (avoiding automaton) start text)

module _ (automaton : Nondeterministic) where
  -- from a set that accepts no text does so
  from_accepting : (text states : List ℕ) → any_accepts automaton (set_of states) ≡ true
      → (x : ℕ) → ¬ LeadsFromAvoiding automaton states text x
  unfolding LeadsFromSome
  from_accepting text states accepts x on =
      let found = list_any-found (accepts_at automaton) (set_of states) accepts in
      on.avoids [] text refl found.0 (found.0, ((Contains-set_of states found.0).0 found.1.0, refl)) found.1.1

  module _ (states : List ℕ) (rejects : any_accepts automaton (set_of states) ≡ false) where
    empty_leads_to_rejection : (state : ℕ) → LeadsFromSome automaton states [] state
        → ¬ IsTrue (accepts_at automaton state)
    unfolding LeadsFromSome
    empty_leads_to_rejection state leads_on accepts =
        let P : ℕ → Type 0 = λ s. Contains states s in
        let at = (Contains-set_of states state).1 (subst P leads_on.1.1 leads_on.1.0) in
        false≢true (sym rejects ∙ list_any-from (accepts_at automaton) (set_of states) state at accepts)

    empty_avoids : AvoidsFromSome automaton states []
    empty_avoids [] rest whole state leads_on accepts = empty_leads_to_rejection state leads_on accepts
    empty_avoids (symbol ∷ front) rest whole state leads_on accepts = cc

    -- the set itself for the empty text
    exactly_empty : (state : ℕ) → Contains states state
        → IsSetOf (LeadsFromAvoiding automaton states []) (set_of states)
    unfolding LeadsFromSome
    exactly_empty state within = record {
      ascends = IsAscending-set_of states;
      some = (state, record { leads = (state, (within, refl)); avoids = empty_avoids });
      members = λ x. (
        λ at. record { leads = (x, ((Contains-set_of states x).0 at, refl)); avoids = empty_avoids },
        λ on.
            let P : ℕ → Type 0 = λ y. Contains states y in
            (Contains-set_of states x).1 (subst P on.leads.1.1 on.leads.1.0),
      );
    }

    -- the first symbol leads to what the rest of the text leads from
    one_more_avoiding : (symbol : ℕ) (text : List ℕ) (state : ℕ)
        → LeadsFromAvoiding automaton (targets_by (moves_of_each automaton (set_of states)) symbol) text state
        ↔ LeadsFromAvoiding automaton states (symbol ∷ text) state
    one_more_avoiding symbol text state = (
      λ on. record {
        leads = (one_more automaton states symbol text state).0 on.leads;
        avoids = forth on.avoids;
      },
      λ on. record {
        leads = (one_more automaton states symbol text state).1 on.leads;
        avoids = λ front rest whole last leads_on. on.avoids (symbol ∷ front) rest (ap (λ t. symbol ∷ t) whole) last
            ((one_more automaton states symbol front last).0 leads_on);
      },
    )
      where
        forth : AvoidsFromSome automaton (targets_by (moves_of_each automaton (set_of states)) symbol) text
            → AvoidsFromSome automaton states (symbol ∷ text)
        forth avoids [] rest whole last leads_on accepts = empty_leads_to_rejection last leads_on accepts
        forth avoids (first ∷ front) rest whole last leads_on accepts =
            let same : first ≡ symbol = cc in
            let further : text ≡ front ++ rest = cc in
            let P : ℕ → Type 0 = λ s. LeadsFromSome automaton states (s ∷ front) last in
            let from_next = (one_more automaton states symbol front last).1 (subst P same leads_on) in
            avoids front rest further last from_next accepts

  exactly_from_accepting : (text states : List ℕ) → any_accepts automaton (set_of states) ≡ true
      → GoesExactly automaton text states (unless_accepting automaton (Some (set_of states)))
  unfolding HasExactly
  exactly_from_accepting text states accepts =
      subst (GoesExactly automaton text states) (sym (unless_accepted automaton (set_of states) accepts))
      (from_accepting text states accepts)

  exactly_from : (text states : List ℕ)
      → GoesExactly automaton text states (unless_accepting automaton (some_set states))
  unfolding HasExactly LeadsFromSome
  exactly_from [] [] = λ x on. Contains-none on.leads.0 on.leads.1.0
  exactly_from (symbol ∷ text) [] = λ x on. Contains-none on.leads.0 on.leads.1.0
  exactly_from [] (state ∷ states) =
      let all = state ∷ states in
      elim (cases_Bool (any_accepts automaton (set_of all))) [
        | inl accepts ↦ exactly_from_accepting [] all accepts
        | inr rejects ↦
            subst (GoesExactly automaton [] all) (sym (unless_rejected automaton (set_of all) rejects))
            (exactly_empty all rejects state (Contains-here state states))
      ]
  exactly_from (symbol ∷ text) (state ∷ states) =
      let all = state ∷ states in
      elim (cases_Bool (any_accepts automaton (set_of all))) [
        | inl accepts ↦ exactly_from_accepting (symbol ∷ text) all accepts
        | inr rejects ↦
            let next = targets_by (moves_of_each automaton (set_of all)) symbol in
            let further = lead (avoiding automaton) (unless_accepting automaton (some_set next)) text in
            subst (GoesExactly automaton (symbol ∷ text) all) (sym (unless_rejected automaton (set_of all) rejects))
            (HasExactly-like (LeadsFromAvoiding automaton next text) (LeadsFromAvoiding automaton all (symbol ∷ text))
            further (one_more_avoiding all rejects symbol text) (exactly_from text next))
      ]

  pub exactly : (text : List ℕ) → HasExactly (LeadsAvoiding automaton text) (leads (avoiding automaton) text)
  unfolding LeadsFromSome
  exactly text =
      HasExactly-like (LeadsFromAvoiding automaton automaton.initial text) (LeadsAvoiding automaton text)
      (leads (avoiding automaton) text) (λ x. (
        λ on. record {
          leads = record { start = on.leads.0; is_initial = on.leads.1.0; leads = on.leads.1.1 };
          avoids = λ front rest whole accepts.
              on.avoids front rest whole accepts.0 (accepts.1.start, (accepts.1.is_initial, accepts.1.leads)) accepts.2;
        },
        λ among. record {
          leads = (among.leads.start, (among.leads.is_initial, among.leads.leads));
          avoids = λ front rest whole state leads_on accepts.
              among.avoids front rest whole
              (state, record { start = leads_on.0; is_initial = leads_on.1.0; leads = leads_on.1.1 }, accepts);
        },
      ))
      (exactly_from text automaton.initial)

  -- the table of the explored machine accepts each text that leads to a set
  pub same_texts : (table : Table) (states : List (List ℕ)) (origins : List (ℕ × ℕ))
      → IsExploration (avoiding automaton) table states origins
      → (text : List ℕ) → AcceptsFrom table table.initial text ↔ ((state : ℕ) × LeadsAvoiding automaton text state)
  same_texts table states origins explored text =
      let somewhere = leads_somewhere (avoiding automaton) (LeadsAvoiding automaton) exactly text in (
        λ accepts. let at = (accepts_same explored text).0 accepts in somewhere.0 (ap is_some at.leads_there),
        λ among. (accepts_same explored text).1 (by (leads (avoiding automaton) text) refl (somewhere.1 among)),
      )
    where
      by : (o : Option (List ℕ)) → leads (avoiding automaton) text ≡ o → IsSome o
          → MachineAccepts (avoiding automaton) text
      by None e some = cc
      by (Some set) e some = record { state = set; leads_there = e; accepts = refl }

-- ---- moves without those to sets that accept

-- whether the set beside the symbol doesn't accept
abbrev pub group_rejects : Nondeterministic → ℕ × List ℕ → Bool
group_rejects automaton group = not (any_accepts automaton group.1)

-- the groups whose sets don't accept
abbrev pub rejecting : Nondeterministic → List (ℕ × List ℕ) → List (ℕ × List ℕ)
rejecting automaton = filter (group_rejects automaton)

filter_kept : (test : ℕ × List ℕ → Bool) (group : ℕ × List ℕ) (groups : List (ℕ × List ℕ)) → test group ≡ true
    → filter test (group ∷ groups) ≡ group ∷ filter test groups
filter_kept test group groups passes = rw passes refl

filter_dropped : (test : ℕ × List ℕ → Bool) (group : ℕ × List ℕ) (groups : List (ℕ × List ℕ)) → test group ≡ false
    → filter test (group ∷ groups) ≡ filter test groups
filter_dropped test group groups fails = rw fails refl

-- what the ascending groups have by a symbol is left unless it accepts
lookup_rejecting : (automaton : Nondeterministic) (groups : List (ℕ × List ℕ)) (symbol : ℕ) → Ascends groups
    → lookup (rejecting automaton groups) symbol ≡ unless_accepting automaton (lookup groups symbol)
lookup_rejecting automaton [] symbol ascends = refl
lookup_rejecting automaton (group ∷ groups) symbol ascends =
    by (cases_eq group.0 symbol) (cases_Bool (any_accepts automaton group.1))
    (lookup_rejecting automaton groups symbol (Ascends-tail group groups ascends))
  where
    none_later : group.0 ≡ symbol → All (λ later. later.0 ≢ symbol) groups
    none_later same k d within e = let less = Ascends-head group groups ascends k d within in omega (arith, same, e)

    dropped : any_accepts automaton group.1 ≡ true
        → lookup (rejecting automaton (group ∷ groups)) symbol ≡ lookup (rejecting automaton groups) symbol
    dropped accepts =
        let fails = not_from_true (any_accepts automaton group.1) accepts in
        ap (λ all. lookup all symbol) (filter_dropped (group_rejects automaton) group groups fails)

    kept : any_accepts automaton group.1 ≡ false
        → lookup (rejecting automaton (group ∷ groups)) symbol ≡ lookup (group ∷ rejecting automaton groups) symbol
    kept rejects =
        let passes = not_from_false (any_accepts automaton group.1) rejects in
        ap (λ all. lookup all symbol) (filter_kept (group_rejects automaton) group groups passes)

    answer : (o : Option (List ℕ)) → lookup (group ∷ groups) symbol ≡ o
        → unless_accepting automaton o ≡ unless_accepting automaton (lookup (group ∷ groups) symbol)
    answer o e = ap (unless_accepting automaton) (sym e)

    by : (group.0 ≡ symbol) ⊎ (group.0 ≢ symbol)
        → (any_accepts automaton group.1 ≡ true) ⊎ (any_accepts automaton group.1 ≡ false)
        → lookup (rejecting automaton groups) symbol ≡ unless_accepting automaton (lookup groups symbol)
        → lookup (rejecting automaton (group ∷ groups)) symbol
        ≡ unless_accepting automaton (lookup (group ∷ groups) symbol)
    by (inl same) (inl accepts) rest =
        let Differs = λ (later : ℕ × List ℕ). later.0 ≢ symbol in
        let none = All-filter (group_rejects automaton) Differs groups (none_later same) in
        dropped accepts ∙ lookup_nowhere (rejecting automaton groups) symbol none
        ∙ sym (unless_accepted automaton group.1 accepts) ∙ answer (Some group.1) (lookup_here group groups symbol same)
    by (inl same) (inr rejects) rest =
        kept rejects ∙ lookup_here group (rejecting automaton groups) symbol same
        ∙ sym (unless_rejected automaton group.1 rejects) ∙ answer (Some group.1) (lookup_here group groups symbol same)
    by (inr differ) (inl accepts) rest =
        dropped accepts ∙ rest ∙ answer (lookup groups symbol) (lookup_there group groups symbol differ)
    by (inr differ) (inr rejects) rest =
        kept rejects ∙ lookup_there group (rejecting automaton groups) symbol differ
        ∙ rest ∙ answer (lookup groups symbol) (lookup_there group groups symbol differ)

-- they are the moves of the machine
pub moves_kept : (automaton : Nondeterministic) (k : ℕ) (states : List ℕ) (groups kept : List (ℕ × List ℕ))
    → AreMovesOf (subsets automaton) k states groups → kept ≡ rejecting automaton groups
    → AreMovesOf (avoiding automaton) k states kept
moves_kept automaton k states groups kept are filtered =
    let Less = λ (earlier later : ℕ × List ℕ). earlier.0 < later.0 in
    let IsSymbol = λ (group : ℕ × List ℕ). (0 < group.0) × (group.0 ≤ k) in
    subst (AreMovesOf (avoiding automaton) k states) (sym filtered) (record {
      ascends = AllPairs-filter Less (group_rejects automaton) groups are.ascends;
      symbols = All-filter (group_rejects automaton) IsSymbol groups are.symbols;
      follow = λ symbol.
          lookup_rejecting automaton groups symbol are.ascends ∙ ap (unless_accepting automaton) (are.follow symbol);
    })
