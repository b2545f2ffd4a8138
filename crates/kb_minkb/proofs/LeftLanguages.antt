-- The left sides that the machine of left sides accepts.
use Rattle.std.proofs.Common.{◌≡◌, ◌↔◌, ◌≤◌, ℕ, true, List, drop, take, length, ◌-◌, sym, ap, subst, refl, arith}
use Rattle.std.proofs.lemmas.Bool.{false≢true}
use Rattle.kb_word.specs.Relations.{IsOver}
use Rattle.kb_fsa.specs.declared.alphabet.Alphabet.{Alphabet}
use Rattle.kb_fsa.specs.declared.alphabet.Alphabet.TheVariants.{Plain}
use Rattle.kb_fsa.specs.Table.{Table, HasSymbols, state_after}
use Rattle.kb_fsa.specs.Language.{Automaton, IsAutomaton, Accepts, SameLanguage, generators}
use Rattle.kb_fsa.proofs.Lookups.{accepting_positive}
use Rattle.kb_explore.specs.Machine.{MachineAccepts}
use Rattle.kb_explore.specs.Exploration.{IsExploration}
use Rattle.kb_explore.proofs.ExplorationLemmas.{accepts_same}
use Rattle.kb_minkb.specs.declared.place.LeftPlace.{LeftPlace}
use Rattle.kb_minkb.specs.declared.place.LeftPlace.TheVariants.{Start, Inside, End}
use Rattle.kb_minkb.specs.LeftSides.{IsJustOutside, IsLeftSide, LeadsSomewhere, AcceptsEachState, HasPlace}
use Rattle.kb_minkb.specs.LeftSides.HasPlace.{at_end}
use Rattle.kb_minkb.specs.LeftMachine.{is_end, left_sides}
use Rattle.kb_minkb.proofs.Items.{explored_automaton}
use Rattle.kb_minkb.proofs.Places.{IsOfWords, leads_to_place, over_of_place}

-- words just outside of the same words are the same
pub just_outside_alike : {n : ℕ} {Given Other : List ℕ → Type 0} {w : List ℕ} → ((v : List ℕ) → Given v ↔ Other v)
    → IsJustOutside n Given w → IsJustOutside n Other w
just_outside_alike {w = w} alike is = record {
  letters = is.letters;
  outside = λ other. is.outside ((alike w).1 other);
  behind_first = (alike (drop 1 w)).0 is.behind_first;
  before_last = (alike (take (length w - 1) w)).0 is.before_last;
}

-- an accepted word leads somewhere
pub accepted_leads : (acceptor : Automaton) (w : List ℕ) → Accepts acceptor w → LeadsSomewhere acceptor w
accepted_leads acceptor w accepts none =
    let positive = accepting_positive acceptor.table (state_after acceptor.table w) accepts in
    let no : ⊥ = omega (arith, positive, none) in no

pub leads_and_accepts : (acceptor : Automaton) → AcceptsEachState acceptor → (w : List ℕ) → LeadsSomewhere acceptor w ↔ Accepts acceptor w
leads_and_accepts acceptor each w = (each w, accepted_leads acceptor w)

left_side_of : {acceptor : Automaton} {w : List ℕ} → HasPlace acceptor w End → AcceptsEachState acceptor → IsLeftSide acceptor w
left_side_of {acceptor} (at_end left) each = just_outside_alike (leads_and_accepts acceptor each) left

pub end_of_accepting : (place : LeftPlace) → is_end place ≡ true → place ≡ End
end_of_accepting Start holds = absurd (false≢true holds)
end_of_accepting (Inside own behind) holds = absurd (false≢true holds)
end_of_accepting End holds = refl

pub left_sides_accepted : {acceptor : Automaton} → IsOfWords acceptor → AcceptsEachState acceptor → (w : List ℕ)
    → MachineAccepts (left_sides acceptor) w ↔ IsLeftSide acceptor w
left_sides_accepted {acceptor} given each w = (
  λ accepts.
      let has = (leads_to_place given w accepts.state).0 accepts.leads_there in
      left_side_of (subst (HasPlace acceptor w) (end_of_accepting accepts.state accepts.accepts) has) each,
  λ left. record {
    state = End;
    leads_there = (leads_to_place given w End).1
        (at_end (just_outside_alike (λ v. let both = leads_and_accepts acceptor each v in (both.1, both.0)) left));
    accepts = refl;
  },
)

-- ---- the explored machine

module _ {acceptor : Automaton} (given : IsOfWords acceptor) {table : Table} {states : List LeftPlace} {origins : List (ℕ × ℕ)}
    (explored : IsExploration (left_sides acceptor) table states origins) where
  pub left_automaton : HasSymbols (generators acceptor.alphabet) table → IsAutomaton (record { alphabet = acceptor.alphabet; table = table })
  left_automaton symbols =
      let plain = given.plain in
      let n : generators acceptor.alphabet ≡ plain.0 = ap generators plain.1 in
      let Bound : ℕ → Type 0 = λ k. k ≤ 65534 in
      let Symbols : ℕ → Type 0 = λ k. HasSymbols k table in
      let P : Alphabet → Type 0 = λ alphabet. IsAutomaton (record { alphabet = alphabet; table = table }) in
      subst P (sym plain.1)
      (explored_automaton (left_sides acceptor) (HasPlace acceptor) (leads_to_place given) (Plain plain.0) explored
      (subst Bound n given.is.generators) (subst Symbols n symbols)
      (λ text place has. let Over : ℕ → Type 0 = λ k. IsOver k text in subst Over n (over_of_place given text place has)))

  pub left_language : AcceptsEachState acceptor → (made : Automaton)
      → SameLanguage (record { alphabet = acceptor.alphabet; table = table }) made → (w : List ℕ) → Accepts made w ↔ IsLeftSide acceptor w
  left_language each made same w =
      let table_accepts = accepts_same explored w in
      let means = left_sides_accepted given each w in (
        λ accepts. means.0 (table_accepts.0 ((same w).1 accepts)),
        λ left. (same w).0 (table_accepts.1 (means.1 left)),
      )
