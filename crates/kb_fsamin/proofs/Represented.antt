-- What texts lead to in the quotient of a table: to the representative of the state to which they lead in the table.
use Rattle.std.proofs.Common.{◌≡◌, ◌≢◌, ◌↔◌, ℕ, zero, suc, ◌≤◌, IsTrue, List, [], ◌∷◌, ◌++◌, length, slice_get, Option, Some, None, refl, sym, ap, ◌∙◌, subst, inl, inr, arith}
use Rattle.std.proofs.lemmas.Bool.{cases_eq, cases_lt}
use Rattle.std.proofs.lemmas.List.{get_or_past}
use Rattle.std.proofs.lemmas.Option.{none-some, same_Some, slice_get-get_or}
use Rattle.kb_fsa.specs.Table.{Table, IsTable, is_accepting, step, after, AcceptsFrom, state_after, IsLive}
use Rattle.kb_fsa.proofs.Lookups.{step_within, after_within, after-append}
use Rattle.kb_labelled.specs.Labels.{AreAlike, label_of}
use Rattle.kb_labelled.proofs.Likeness.{accepts_alike}
use Rattle.kb_explore.specs.Machine.{Machine, MachineAccepts, lead, leads, HasMoreStates}
use Rattle.kb_explore.proofs.CountingLemmas.{no_more_states}
use Rattle.kb_fsamin.specs.Classes.{representative, AreRepresentatives}
use Rattle.kb_fsamin.specs.Quotient.{some_state, quotient_of}
use Rattle.kb_fsamin.proofs.Uniqueness.{accepted_positive}

-- ---- numbers of states

pub some_state_is : (state : ℕ) → state ≢ 0 → some_state state ≡ Some state
some_state_is zero some = absurd (some refl)
some_state_is (suc place) some = refl

pub state_from_some : (state number : ℕ) → some_state state ≡ Some number → (state ≡ number) × (state ≢ 0)
state_from_some zero number e = absurd (none-some number e)
state_from_some (suc place) number e = (same_Some (suc place) number e, λ none. omega arith)

lead_none : {S : Type 0} (machine : Machine S) (start : Option S) → lead machine start [] ≡ start
lead_none machine None = refl
lead_none machine (Some state) = refl

-- ---- labels along texts

-- after a text those texts are accepted that are accepted before it behind the text
accepted_after : (table : Table) (state : ℕ) (text more : List ℕ) → AcceptsFrom table state (text ++ more) ↔ AcceptsFrom table (after table state text) more
accepted_after table state text more =
    let P : ℕ → Type 0 = λ s. IsTrue (is_accepting table s) in
    let same = after-append table state text more in
    (λ accepts. subst P same accepts, λ accepts. subst P (sym same) accepts)

alike_after : (table : Table) (labels : List ℕ) (p q : ℕ) (text : List ℕ) → AreAlike table labels p q
    → AreAlike table labels (after table p text) (after table q text)
alike_after table labels p q text same more =
    sym (ap (label_of table labels) (after-append table p text more)) ∙ same (text ++ more)
    ∙ ap (label_of table labels) (after-append table q text more)

live_before : (table : Table) (state : ℕ) (text : List ℕ) → IsLive table (after table state text) → IsLive table state
live_before table state text live = (text ++ live.0, (accepted_after table state text live.0).1 live.1)

module _ (table : Table) (labels listed : List ℕ) (is : IsTable table) (represented : AreRepresentatives table labels listed) where
  -- what has no representative leads to no acceptance
  pub dead_state : (state : ℕ) → state ≤ length table.rows → representative listed state ≡ 0 → ¬ IsLive table state
  dead_state zero within none = λ live. let some = accepted_positive table 0 live.0 live.1 in omega arith
  dead_state (suc place) within none = represented.dead (suc place) (record { positive = omega arith; within = within }) none

  -- and only that has none
  pub no_representative : (state : ℕ) → state ≤ length table.rows → ¬ IsLive table state → representative listed state ≡ 0
  no_representative zero within dead = refl
  no_representative (suc place) within dead =
      elim (cases_eq (representative listed (suc place)) 0) [
        | inl none ↦ none
        | inr some ↦ absurd (dead (represented.live (suc place) (record { positive = omega arith; within = within }) some))
      ]

  none_alike : (q : ℕ) → q ≤ length table.rows → AreAlike table labels 0 q → representative listed q ≡ 0
  none_alike q within same =
      no_representative q within (λ live.
      let some = accepted_positive table 0 live.0 (accepts_alike table labels q 0 live.0 (sym (same live.0)) live.1) in absurd (let no : ⊥ = omega arith in no))

  pub representatives_same : (p q : ℕ) → p ≤ length table.rows → q ≤ length table.rows → AreAlike table labels p q
      → representative listed p ≡ representative listed q
  representatives_same zero q low high same = sym (none_alike q high same)
  representatives_same (suc p) zero low high same = none_alike (suc p) low (λ text. sym (same text))
  representatives_same (suc p) (suc q) low high same =
      represented.same (suc p) (suc q) (record { positive = omega arith; within = low }) (record { positive = omega arith; within = high }) same

  leads_on : (state : ℕ) → state ≤ length table.rows → (text : List ℕ)
      → lead (quotient_of table listed) (some_state (representative listed state)) text ≡ some_state (representative listed (after table state text))
  leads_on state within [] = lead_none (quotient_of table listed) (some_state (representative listed state))
  leads_on state within (symbol ∷ text) =
      let machine = quotient_of table listed in
      elim (cases_eq (representative listed state) 0) [
        | inl none ↦
            let dead = no_representative (after table state (symbol ∷ text)) (after_within table state (symbol ∷ text) is within)
            (λ live. dead_state state within none (live_before table state (symbol ∷ text) live)) in
            ap (λ r. lead machine (some_state r) (symbol ∷ text)) none ∙ sym (ap some_state dead)
        | inr some ↦
            let class = representative listed state in
            let there = represented.is_state state some in
            let later = leads_on (step table class symbol) (step_within table class symbol is) text in
            let same = representatives_same (after table class (symbol ∷ text)) (after table state (symbol ∷ text))
            (after_within table class (symbol ∷ text) is there.within) (after_within table state (symbol ∷ text) is within)
            (alike_after table labels class state (symbol ∷ text) (λ more. sym (represented.alike state some more))) in
            ap (λ start. lead machine start (symbol ∷ text)) (some_state_is class some) ∙ later ∙ ap some_state same
      ]

  -- the text leads to the representative of the state to which it leads in the table
  pub leads_quotient : (text : List ℕ) → leads (quotient_of table listed) text ≡ some_state (representative listed (state_after table text))
  leads_quotient text = leads_on table.initial is.initial text

  pub state_within : (text : List ℕ) → state_after table text ≤ length table.rows
  state_within text = after_within table table.initial text is is.initial

  -- the quotient accepts what the table does
  pub quotient_accepts : (text : List ℕ) → MachineAccepts (quotient_of table listed) text ↔ AcceptsFrom table table.initial text
  quotient_accepts text = (
    λ accepts.
        let class = state_from_some (representative listed (state_after table text)) accepts.state
        (sym (leads_quotient text) ∙ accepts.leads_there) in
        accepts_alike table labels (representative listed (state_after table text)) (state_after table text) []
        (sym (represented.alike (state_after table text) class.1 []))
        (let P : ℕ → Type 0 = λ s. IsTrue (is_accepting table s) in subst P (sym class.0) accepts.accepts),
    λ accepts.
        let some : representative listed (state_after table text) ≢ 0 = λ none.
        dead_state (state_after table text) (state_within text) none ([], accepts) in
        record {
          state = representative listed (state_after table text);
          leads_there = leads_quotient text ∙ some_state_is (representative listed (state_after table text)) some;
          accepts =
              accepts_alike table labels (state_after table text) (representative listed (state_after table text)) []
              (represented.alike (state_after table text) some []) accepts;
        },
  )

  listed_at : (state : ℕ) → representative listed state ≢ 0 → (place : ℕ) × (slice_get listed place ≡ Some (representative listed state))
  listed_at zero some = absurd (some refl)
  listed_at (suc place) some =
      elim (cases_lt place (length listed)) [
        | inl less ↦ (place, slice_get-get_or listed place 0 less)
        | inr past ↦ absurd (some (get_or_past listed place 0 past))
      ]

  -- the quotient has no more states than the table
  pub no_more_classes : ¬ HasMoreStates (quotient_of table listed) (length table.rows)
  no_more_classes =
      no_more_states (quotient_of table listed) listed (length table.rows) (let count = represented.one_each in omega arith)
      (λ text state e.
      let class = state_from_some (representative listed (state_after table text)) state (sym (leads_quotient text) ∙ e) in
      let at = listed_at (state_after table text) class.1 in
      (at.0, at.1 ∙ ap (λ s. Some s) class.0))
