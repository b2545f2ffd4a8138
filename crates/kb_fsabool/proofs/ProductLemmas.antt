-- The product of two automata: its moves, the texts that lead to a state, and how many states it has.
use Rattle.std.proofs.Common.{◌≡◌, ◌≢◌, ◌↔◌, ◌⊎◌, ℕ, zero, suc, ◌<◌, ◌≤◌, max, Bool, true, false, nat_eq, not, if◌then◌else◌, IsTrue, IsSome, is_some, List, [], ◌∷◌, get_or, Option, Some, None, refl, sym, ap, ◌∙◌, subst, inl, inr, arith}
use Rattle.std.specs.List.{All}
use Rattle.std.proofs.lemmas.Bool.{true≢false, false≢true, and_parts, or_cases, ne_eqb, not_from_false, and_from, and_right, or_left}
use Rattle.std.proofs.lemmas.List.Elements.{All-nil, All-contains}
use Rattle.std.proofs.lemmas.Option.{none-some, same_Some}
use Rattle.kb_fsa.specs.Table.{Table, IsTable, HasSymbols, target, moves_of, step, after, state_after, is_accepting}
use Rattle.kb_fsa.specs.Language.{Automaton, IsAutomaton, IsTextOf, symbols}
use Rattle.kb_fsa.specs.declared.alphabet.Alphabet.{Alphabet}
use Rattle.kb_fsa.proofs.Lookups.{lookup_at, lookup_from_target, entry_from_lookup, All-moves_of, IsRow-moves_of, after_none, accepting_positive}
use Rattle.kb_explore.specs.Machine.{Machine, MachineAccepts, AreMovesOf, HasMoreStates, lead, leads}
use Rattle.kb_explore.specs.Exploration.{IsExploration}
use Rattle.kb_explore.proofs.CountingLemmas.{MoreThan-kept}
use Rattle.kb_explore.proofs.ExplorationLemmas.{accepts_same, leads_nowhere}
use Rattle.kb_fsabool.specs.declared.connective.Connective.{Connective}
use Rattle.kb_fsabool.specs.declared.connective.Connective.TheVariants.{And, Or, Xor}
use Rattle.kb_fsabool.specs.declared.connective.StatePair.{StatePair}
use Rattle.kb_fsabool.specs.Products.{holds, are_state, paired, product, AreState, CountedPairs, AreMerged, IsCombination}
use Rattle.kb_fsabool.proofs.RowMerges.{paired_none}

-- ---- moves

-- a move's symbol is one of the table's
pub symbol_of_target : (table : Table) (k state symbol : ℕ) → IsTable table → HasSymbols k table → step table state symbol ≢ 0
    → (0 < symbol) × (symbol ≤ k)
symbol_of_target table k state symbol is symbols some =
    let row = moves_of table state in
    let to = target row symbol in
    let entry = entry_from_lookup row symbol to (lookup_from_target row symbol to (omega arith) refl) in
    let number = All-contains (λ (move : ℕ × ℕ). (0 < move.0) × (0 < move.1)) row (symbol, to) (IsRow-moves_of table state is).numbers entry in
    let low : All (λ move. move.0 ≤ k) row =
    All-moves_of (λ moves. All (λ move. move.0 ≤ k) moves) table state (All-nil (λ (move : ℕ × ℕ). move.0 ≤ k)) symbols in
    (number.0, All-contains (λ (move : ℕ × ℕ). move.0 ≤ k) row (symbol, to) low entry)

-- one of the two is a state
some_state : (connective : Connective) (p q : ℕ) (state : StatePair) → paired connective p q ≡ Some state → (p ≢ 0) ⊎ (q ≢ 0)
some_state connective zero zero state is = absurd (none-some state (sym (paired_none connective) ∙ is))
some_state connective zero (suc q) state is = inr (λ e. omega arith)
some_state connective (suc p) q state is = inl (λ e. omega arith)

pub product_moves : (connective : Connective) (one two : Automaton) (state : StatePair) (moves : List (ℕ × StatePair))
    → IsAutomaton one → IsAutomaton two
    → AreMerged connective (moves_of one.table state.first) (moves_of two.table state.second) moves
    → AreMovesOf (product connective one.table two.table) (max (symbols one.alphabet) (symbols two.alphabet)) state moves
product_moves connective one two state moves is_one is_two merged = record {
  ascends = merged.ascends;
  symbols = λ k d within.
      let move = get_or moves k d in
      let some = some_state connective (step one.table state.first move.0) (step two.table state.second move.0) move.1
      (sym (merged.lookup move.0) ∙ lookup_at moves k d merged.ascends within) in
      elim some [
        | inl first ↦
            let in_range = symbol_of_target one.table (symbols one.alphabet) state.first move.0 is_one.table is_one.symbols first in
            (in_range.0, omega arith)
        | inr second ↦
            let in_range = symbol_of_target two.table (symbols two.alphabet) state.second move.0 is_two.table is_two.symbols second in
            (in_range.0, omega arith)
      ];
  follow = merged.lookup;
}

-- ---- the texts that lead to a state

lead_nil : {S : Type 0} (machine : Machine S) (o : Option S) → lead machine o [] ≡ o
lead_nil machine None = refl
lead_nil machine (Some state) = refl

-- what two states make: none, or themselves
pub data PairedCase (connective : Connective) (p q : ℕ) : Type 0 where
  no_state : paired connective p q ≡ None → ¬ AreState connective p q → PairedCase connective p q
  a_state : paired connective p q ≡ Some (record { first = p; second = q }) → AreState connective p q → PairedCase connective p q

isnt_zero : (x : ℕ) → not (nat_eq (suc x) 0) ≡ true
isnt_zero x = not_from_false (nat_eq (suc x) 0) (ne_eqb (suc x) 0 (λ e. omega arith))

when : (connective : Connective) (p q : ℕ) {answer : Bool} → are_state connective p q ≡ answer
    → paired connective p q ≡ (if answer then Some (record { first = p; second = q }) else None)
when connective p q is = ap (λ (b : Bool). if b then Some (record { first = p; second = q }) else None) is

either_zero : ((zero ≢ zero) ⊎ (zero ≢ zero)) → ⊥
either_zero (inl one) = one refl
either_zero (inr two) = two refl

pub paired_case : (connective : Connective) (p q : ℕ) → PairedCase connective p q
paired_case And zero q = no_state refl (λ both. both.0 refl)
paired_case And (suc p) zero = no_state (when And (suc p) zero {answer = false} (and_right (not (nat_eq (suc p) 0)) false refl)) (λ both. both.1 refl)
paired_case And (suc p) (suc q) =
    a_state (when And (suc p) (suc q) {answer = true} (and_from (not (nat_eq (suc p) 0)) (not (nat_eq (suc q) 0)) (isnt_zero p) (isnt_zero q))) ((λ e. omega arith), (λ e. omega arith))
paired_case Or zero zero = no_state refl either_zero
paired_case Or zero (suc q) = a_state (when Or zero (suc q) {answer = true} (isnt_zero q)) (inr (λ e. omega arith))
paired_case Or (suc p) q = a_state (when Or (suc p) q {answer = true} (or_left (not (nat_eq (suc p) 0)) (not (nat_eq q 0)) (isnt_zero p))) (inl (λ e. omega arith))
paired_case Xor zero zero = no_state refl either_zero
paired_case Xor zero (suc q) = a_state (when Xor zero (suc q) {answer = true} (isnt_zero q)) (inr (λ e. omega arith))
paired_case Xor (suc p) q = a_state (when Xor (suc p) q {answer = true} (or_left (not (nat_eq (suc p) 0)) (not (nat_eq q 0)) (isnt_zero p))) (inl (λ e. omega arith))

-- what isn't a state of the product leads on to none
not_after : (connective : Connective) (one two : Table) (p q : ℕ) (text : List ℕ) → ¬ AreState connective p q
    → ¬ AreState connective (after one p text) (after two q text)
not_after And one two p q text nowhere both =
    nowhere ((λ e. both.0 (ap (λ x. after one x text) e ∙ after_none one text)), (λ e. both.1 (ap (λ x. after two x text) e ∙ after_none two text)))
not_after Or one two p q text nowhere (inl first) = nowhere (inl (λ e. first (ap (λ x. after one x text) e ∙ after_none one text)))
not_after Or one two p q text nowhere (inr second) = nowhere (inr (λ e. second (ap (λ x. after two x text) e ∙ after_none two text)))
not_after Xor one two p q text nowhere (inl first) = nowhere (inl (λ e. first (ap (λ x. after one x text) e ∙ after_none one text)))
not_after Xor one two p q text nowhere (inr second) = nowhere (inr (λ e. second (ap (λ x. after two x text) e ∙ after_none two text)))

none_paired : (connective : Connective) (p q : ℕ) → ¬ AreState connective p q → paired connective p q ≡ None
none_paired connective p q nowhere = on (paired_case connective p q)
  where
    on : PairedCase connective p q → paired connective p q ≡ None
    on (no_state none never) = none
    on (a_state is state) = absurd (nowhere state)

lead_paired : (connective : Connective) (one two : Table) (p q : ℕ) (text : List ℕ)
    → lead (product connective one two) (paired connective p q) text ≡ paired connective (after one p text) (after two q text)
lead_paired connective one two p q [] = lead_nil (product connective one two) (paired connective p q)
lead_paired connective one two p q (symbol ∷ text) =
    on (paired_case connective p q) (lead_paired connective one two (step one p symbol) (step two q symbol) text)
  where
    on : PairedCase connective p q
        → lead (product connective one two) (paired connective (step one p symbol) (step two q symbol)) text
        ≡ paired connective (after one (step one p symbol) text) (after two (step two q symbol) text)
        → lead (product connective one two) (paired connective p q) (symbol ∷ text)
        ≡ paired connective (after one (step one p symbol) text) (after two (step two q symbol) text)
    on (no_state none never) rest =
        ap (λ o. lead (product connective one two) o (symbol ∷ text)) none
        ∙ sym (none_paired connective (after one p (symbol ∷ text)) (after two q (symbol ∷ text)) (not_after connective one two p q (symbol ∷ text) never))
    on (a_state is state) rest = ap (λ o. lead (product connective one two) o (symbol ∷ text)) is ∙ rest

-- a text leads to the pair of the states that it leads to
pub product_leads : (connective : Connective) (one two : Table) (text : List ℕ)
    → leads (product connective one two) text ≡ paired connective (state_after one text) (state_after two text)
product_leads connective one two text = lead_paired connective one two one.initial two.initial text

-- ---- acceptance

-- exactly one of two answers is yes
pub xor_cases : (a b : Bool) → IsTrue (holds Xor a b) → ((a ≡ true) × (b ≡ false)) ⊎ ((b ≡ true) × (a ≡ false))
xor_cases true true h = cc
xor_cases true false h = inl (refl, refl)
xor_cases false true h = inr (refl, refl)
xor_cases false false h = cc

pub xor_from : (a b : Bool) → ((a ≡ true) × (b ≡ false)) ⊎ ((b ≡ true) × (a ≡ false)) → IsTrue (holds Xor a b)
xor_from true true (inl one) = absurd (true≢false one.1)
xor_from true true (inr two) = absurd (true≢false two.1)
xor_from true false h = refl
xor_from false true h = refl
xor_from false false (inl one) = absurd (false≢true one.0)
xor_from false false (inr two) = absurd (false≢true two.0)

accepting_isnt_zero : (table : Table) (state : ℕ) → is_accepting table state ≡ true → state ≢ 0
accepting_isnt_zero table state accepts = let positive = accepting_positive table state accepts in λ e. omega arith

-- where the answers give yes, the two are a state of the product
accepted_states : (connective : Connective) (one two : Table) (p q : ℕ)
    → IsTrue (holds connective (is_accepting one p) (is_accepting two q)) → AreState connective p q
accepted_states And one two p q accepts =
    let parts = and_parts (is_accepting one p) (is_accepting two q) accepts in
    (accepting_isnt_zero one p parts.0, accepting_isnt_zero two q parts.1)
accepted_states Or one two p q accepts =
    elim (or_cases (is_accepting one p) (is_accepting two q) accepts) [
      | inl first ↦ inl (accepting_isnt_zero one p first)
      | inr second ↦ inr (accepting_isnt_zero two q second)
    ]
accepted_states Xor one two p q accepts =
    elim (xor_cases (is_accepting one p) (is_accepting two q) accepts) [
      | inl first ↦ inl (accepting_isnt_zero one p first.0)
      | inr second ↦ inr (accepting_isnt_zero two q second.0)
    ]

module _ (connective : Connective) (one two : Table) where
  -- a text that leads to a state of the product leads to the pair of its states
  pub states_of_leads : (text : List ℕ) (state : StatePair) → leads (product connective one two) text ≡ Some state
      → (state ≡ record { first = state_after one text; second = state_after two text }) × AreState connective (state_after one text) (state_after two text)
  states_of_leads text state is = on (paired_case connective (state_after one text) (state_after two text))
    where
      on : PairedCase connective (state_after one text) (state_after two text)
          → (state ≡ record { first = state_after one text; second = state_after two text }) × AreState connective (state_after one text) (state_after two text)
      on (no_state none never) = absurd (none-some state (sym none ∙ sym (product_leads connective one two text) ∙ is))
      on (a_state some states) = (same_Some _ _ (sym is ∙ product_leads connective one two text ∙ some), states)

  pub leads_of_states : (text : List ℕ) → AreState connective (state_after one text) (state_after two text)
      → leads (product connective one two) text ≡ Some (record { first = state_after one text; second = state_after two text })
  leads_of_states text states = on (paired_case connective (state_after one text) (state_after two text))
    where
      on : PairedCase connective (state_after one text) (state_after two text)
          → leads (product connective one two) text ≡ Some (record { first = state_after one text; second = state_after two text })
      on (no_state none never) = absurd (never states)
      on (a_state some also) = product_leads connective one two text ∙ some

  -- the product accepts what the answers of the two say
  pub product_accepts : (text : List ℕ) → MachineAccepts (product connective one two) text
      ↔ IsTrue (holds connective (is_accepting one (state_after one text)) (is_accepting two (state_after two text)))
  product_accepts text = (
    λ accepts.
        let P : StatePair → Type 0 = λ state. IsTrue (holds connective (is_accepting one state.first) (is_accepting two state.second)) in
        subst P (states_of_leads text accepts.state accepts.leads_there).0 accepts.accepts,
    λ accepts. record {
      state = record { first = state_after one text; second = state_after two text };
      leads_there = leads_of_states text (accepted_states connective one two (state_after one text) (state_after two text) accepts);
      accepts = accepts;
    },
  )

  -- ---- how many states there are

  some_leads : (text : List ℕ) → IsSome (leads (product connective one two) text) → AreState connective (state_after one text) (state_after two text)
  some_leads text some = on (leads (product connective one two) text) refl some
    where
      on : (o : Option StatePair) → leads (product connective one two) text ≡ o → IsSome o → AreState connective (state_after one text) (state_after two text)
      on None is some = absurd (false≢true some)
      on (Some state) is some = (states_of_leads text state is).1

  pub states_counted : (m : ℕ) → HasMoreStates (product connective one two) m ↔ CountedPairs connective one two m
  states_counted m = (
    λ more. MoreThan-kept more some_leads
        (λ text other here there same.
        let P : ℕ → ℕ → Option StatePair = paired connective in
        product_leads connective one two text ∙ ap (λ p. P p (state_after two text)) same.0 ∙ ap (P (state_after one other)) same.1
        ∙ sym (product_leads connective one two other)),
    λ more. MoreThan-kept more
        (λ text states. ap (λ o. is_some o) (leads_of_states text states))
        (λ text other here there same.
        let pairs = same_Some _ _ (sym (leads_of_states text here) ∙ same ∙ leads_of_states other there) in
        (ap (λ pair. pair.first) pairs, ap (λ pair. pair.second) pairs)),
  )

-- ---- the automaton

-- the texts that lead to a state of the product are of the alphabet
texts_of_states : (connective : Connective) (one two : Automaton) (text : List ℕ) → IsAutomaton one → IsAutomaton two → one.alphabet ≡ two.alphabet
    → AreState connective (state_after one.table text) (state_after two.table text) → IsTextOf one.alphabet text
texts_of_states And one two text is_one is_two same states = is_one.texts text states.0
texts_of_states Or one two text is_one is_two same (inl first) = is_one.texts text first
texts_of_states Or one two text is_one is_two same (inr second) =
    let P : Alphabet → Type 0 = λ alphabet. IsTextOf alphabet text in subst P (sym same) (is_two.texts text second)
texts_of_states Xor one two text is_one is_two same (inl first) = is_one.texts text first
texts_of_states Xor one two text is_one is_two same (inr second) =
    let P : Alphabet → Type 0 = λ alphabet. IsTextOf alphabet text in subst P (sym same) (is_two.texts text second)

module _ (connective : Connective) (one two : Automaton) {table : Table} {states : List StatePair} {origins : List (ℕ × ℕ)}
    (explored : IsExploration (product connective one.table two.table) table states origins) where
  pub product_automaton : IsAutomaton one → IsAutomaton two → one.alphabet ≡ two.alphabet
      → HasSymbols (max (symbols one.alphabet) (symbols two.alphabet)) table → IsAutomaton (record { alphabet = one.alphabet; table = table })
  product_automaton is_one is_two same low = record {
    generators = is_one.generators;
    table = explored.is_table;
    symbols =
        let P : ℕ → Type 0 = λ k. HasSymbols k table in
        subst P (let e = ap symbols same in omega arith) low;
    texts = λ text some. on text some (leads (product connective one.table two.table) text) refl;
  }
    where
      on : (text : List ℕ) → state_after table text ≢ 0 → (o : Option StatePair) → leads (product connective one.table two.table) text ≡ o
          → IsTextOf one.alphabet text
      on text some None is = absurd (some ((leads_nowhere explored text).1 is))
      on text some (Some state) is = texts_of_states connective one two text is_one is_two same (states_of_leads connective one.table two.table text state is).1

  pub product_language : IsCombination connective one two (record { alphabet = one.alphabet; table = table })
  product_language text =
      let same = accepts_same explored text in
      let means = product_accepts connective one.table two.table text in
      (λ accepts. means.0 (same.0 accepts), λ accepts. same.1 (means.1 accepts))
