-- What an exploration says of its machine.
use Rattle.std.proofs.Common.{◌≡◌, ◌↔◌, ℕ, zero, suc, ◌<◌, ◌≤◌, IsTrue, List, length, slice_get, Some, None, refl, sym, ap, subst, ◌∙◌, inl, inr, arith}
use Rattle.std.proofs.lemmas.Option.{none-some, slice_get_within}
use Rattle.kb_word.specs.Words.{Less}
use Rattle.kb_word.specs.ShortlexLaws.{shortlex_total}
use Rattle.kb_fsa.specs.Table.{Table, AcceptsFrom, is_accepting, state_after}
use Rattle.kb_fsa.specs.Canonical.{IsLeastText, IsBreadthFirst, AreReached}
use Rattle.kb_fsa.proofs.Lookups.{after_within}
use Rattle.kb_explore.specs.Machine.{Machine, MachineAccepts, leads, HasMoreStates}
use Rattle.kb_explore.specs.Exploration.{numbered, IsExploration}
use Rattle.kb_explore.specs.Progress.{AreDistinct, LeadTo}
use Rattle.kb_explore.proofs.CountingLemmas.{no_more_states}
use Rattle.kb_explore.proofs.Leading.{has_more_states}
use Rattle.kb_explore.proofs.Lists.{item_within}

-- each number from 1 to the length is that of a state
pub numbered_within : {S : Type 0} (states : List S) (number : ℕ) → 0 < number → number ≤ length states
    → (state : S) × (numbered states number ≡ Some state)
numbered_within states zero positive within = absurd (let no : ⊥ = omega arith in no)
numbered_within states (suc place) positive within = item_within states place (omega arith)

-- and others aren't
pub number_positive : {S : Type 0} (states : List S) (number : ℕ) (state : S) → numbered states number ≡ Some state → 0 < number
number_positive states zero state at = absurd (none-some state at)
number_positive states (suc place) state at = omega arith

pub number_within : {S : Type 0} (states : List S) (number : ℕ) (state : S) → numbered states number ≡ Some state → number ≤ length states
number_within states zero state at = absurd (none-some state at)
number_within states (suc place) state at = omega (arith, slice_get_within states place state at)

pub one_number : {S : Type 0} (states : List S) → AreDistinct states → (p q : ℕ) (state : S) → numbered states p ≡ Some state
    → numbered states q ≡ Some state → p ≡ q
one_number states distinct zero q state one two = absurd (none-some state one)
one_number states distinct (suc p) zero state one two = absurd (none-some state two)
one_number states distinct (suc p) (suc q) state one two = ap suc (distinct p q state one two)

-- different numbers are those of different states
pub same_number : {S : Type 0} (states : List S) → AreDistinct states → (p q : ℕ) → p ≤ length states → q ≤ length states
    → numbered states p ≡ numbered states q → p ≡ q
same_number states distinct zero zero low high e = refl
same_number states distinct zero (suc q) low high e =
    let at = item_within states q (omega arith) in absurd (none-some at.0 (e ∙ at.1))
same_number states distinct (suc p) q low high e =
    let at = item_within states p (omega arith) in one_number states distinct (suc p) q at.0 at.1 (sym e ∙ at.1)

-- a state has one least text
pub one_least_text : (table : Table) (state : ℕ) (text other : List ℕ) → IsLeastText table state text → IsLeastText table state other → text ≡ other
one_least_text table state text other one two =
    elim (shortlex_total text other) [
      | inl same ↦ same
      | inr differ ↦ elim differ [ inl less ↦ absurd (two.least text one.leads less) | inr more ↦ absurd (one.least other two.leads more) ]
    ]

module _ {S : Type 0} {machine : Machine S} {table : Table} {states : List S} {origins : List (ℕ × ℕ)}
    (explored : IsExploration machine table states origins) where
  within_states : (text : List ℕ) → state_after table text ≤ length states
  within_states text =
      let within = after_within table table.initial text explored.is_table explored.is_table.initial in
      let count = explored.one_state_each in
      omega arith

  -- texts lead to one number exactly where they lead to one state
  pub same_states : (text other : List ℕ) → (state_after table text ≡ state_after table other) ↔ (leads machine text ≡ leads machine other)
  same_states text other = (
    λ e. sym (explored.leads_there text) ∙ ap (numbered states) e ∙ explored.leads_there other,
    λ e. same_number states explored.distinct (state_after table text) (state_after table other) (within_states text) (within_states other)
        (explored.leads_there text ∙ e ∙ sym (explored.leads_there other)),
  )

  -- to no state where the machine has none
  pub leads_nowhere : (text : List ℕ) → (state_after table text ≡ 0) ↔ (leads machine text ≡ None)
  leads_nowhere text = (
    λ e. sym (explored.leads_there text) ∙ ap (numbered states) e,
    λ e. same_number states explored.distinct (state_after table text) 0 (within_states text) (omega arith) (explored.leads_there text ∙ e),
  )

  -- the state that a text leads to is one of the list
  pub leads_within : (text : List ℕ) (state : S) → leads machine text ≡ Some state
      → (place : ℕ) × ((slice_get states place ≡ Some state) × (state_after table text ≡ suc place))
  leads_within text state e = by (state_after table text) refl
    where
      by : (number : ℕ) → state_after table text ≡ number
          → (place : ℕ) × ((slice_get states place ≡ Some state) × (state_after table text ≡ suc place))
      by zero is = absurd (none-some state (sym ((leads_nowhere text).0 is) ∙ e))
      by (suc place) is = (place, (sym (ap (numbered states) is) ∙ explored.leads_there text ∙ e, is))

  -- the table accepts what the machine does
  pub accepts_same : (text : List ℕ) → AcceptsFrom table table.initial text ↔ MachineAccepts machine text
  accepts_same text = (forth (state_after table text) refl, back)
    where
      forth : (number : ℕ) → state_after table text ≡ number → IsTrue (is_accepting table number) → MachineAccepts machine text
      forth zero is accepts = absurd (let no : ⊥ = cc in no)
      forth (suc place) is accepts =
          let count = explored.one_state_each in
          let within = within_states text in
          let at = item_within states place (omega arith) in
          record {
            state = at.0;
            leads_there = sym (explored.leads_there text) ∙ ap (numbered states) is ∙ at.1;
            accepts = sym (explored.accepts place at.0 at.1) ∙ accepts;
          }

      back : MachineAccepts machine text → IsTrue (is_accepting table (state_after table text))
      back accepts =
          let at = leads_within text accepts.state accepts.leads_there in
          let P : ℕ → Type 0 = λ number. IsTrue (is_accepting table number) in
          subst P (sym at.1.1) (explored.accepts at.0 accepts.state at.1.0 ∙ accepts.accepts)

  least_text : (state : ℕ) → 0 < state → state ≤ length table.rows
      → (text : List ℕ) × ((numbered explored.words state ≡ Some text) × IsLeastText table state text)
  least_text state positive within =
      let count = explored.one_word_each in
      let word = numbered_within explored.words state positive (omega arith) in
      (word.0, (word.1, explored.least state word.0 word.1))

  pub are_reached : AreReached table
  are_reached state is =
      let positive = is.positive in
      let least = least_text state positive is.within in (least.0, least.1.1)

  pub is_breadth_first : IsBreadthFirst table
  is_breadth_first p q text other positive less one two =
      let here = after_within table table.initial text explored.is_table explored.is_table.initial in
      let there = after_within table table.initial other explored.is_table explored.is_table.initial in
      let one_leads = one.leads in let two_leads = two.leads in
      let least = least_text p positive (omega arith) in
      let next = least_text q (omega arith) (omega arith) in
      let first : text ≡ least.0 = one_least_text table p text least.0 one least.1.1 in
      let second : other ≡ next.0 = one_least_text table q other next.0 two next.1.1 in
      let result = explored.ascending p q least.0 next.0 less least.1.0 next.1.0 in
      let P : List ℕ → Type 0 = λ u. Less u next.0 in
      let Q : List ℕ → Type 0 = λ u. Less text u in
      subst Q (sym second) (subst P (sym first) result)

  -- the machine has no more states than the table
  pub no_more_than_explored : ¬ HasMoreStates machine (length table.rows)
  no_more_than_explored =
      no_more_states machine states (length table.rows) (let count = explored.one_state_each in omega arith)
      (λ text state e. let at = leads_within text state e in (at.0, at.1.0))

  -- and more than each lesser number
  pub more_than_fewer : (m : ℕ) → m < length table.rows → HasMoreStates machine m
  more_than_fewer m less =
      has_more_states lead_there m explored.distinct (let count = explored.one_state_each in omega arith)
    where
      lead_there : LeadTo machine explored.words states
      lead_there = record {
        one_word_each = let words = explored.one_word_each in let count = explored.one_state_each in omega arith;
        leads_there = λ place word state at beside.
            let least = explored.least (suc place) word at in
            sym (explored.leads_there word) ∙ ap (numbered states) least.leads ∙ beside;
      }
