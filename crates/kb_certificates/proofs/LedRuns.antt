-- Where texts lead in a cascade product, and which it accepts.
use Rattle.std.proofs.Common.{◌≡◌, ◌≢◌, ◌↔◌, ℕ, zero, suc, ◌<◌, IsTrue, IfNone, List, [], ◌∷◌, Option, Some, None, refl, sym, ap, ◌∙◌, subst, arith}
use Rattle.std.proofs.lemmas.Bool.{false≢true}
use Rattle.std.proofs.lemmas.Option.{none-some, same_Some}
use Rattle.kb_fsa.specs.Table.{Table, HasSymbols, AcceptsFrom, after, state_after, step}
use Rattle.kb_fsa.specs.Language.{Automaton, IsAutomaton, symbols}
use Rattle.kb_fsa.proofs.Lookups.{after_none}
use Rattle.kb_explore.specs.Machine.{MachineAccepts, lead, leads}
use Rattle.kb_explore.specs.Exploration.{IsExploration}
use Rattle.kb_explore.specs.FirstAccepted.{IsLeastAccepted}
use Rattle.kb_explore.proofs.ExplorationLemmas.{accepts_same, leads_nowhere}
use Rattle.kb_certificates.specs.declared.cascade.led.Led.{Led}
use Rattle.kb_certificates.specs.Cascade.{Follower, cascade, followed, led, AcceptsLed, IsLeastLed}
use Rattle.kb_certificates.proofs.LedMoves.{led_some}

module _ {X : Type 0} (table : Table) (follower : Follower X) where
  lead_led : (state : ℕ) (x : X) (text : List ℕ)
      → lead (cascade table follower) (led state x) text ≡ led (after table state text) (followed table follower state x text)
  lead_led zero x text = sym (ap (λ s. led s (followed table follower zero x text)) (after_none table text))
  lead_led (suc place) x [] = refl
  lead_led (suc place) x (symbol ∷ text) = lead_led (step table (suc place) symbol) (follower.next (suc place) x symbol) text

  -- where the follower is after a text
  abbrev end : List ℕ → X
  end text = followed table follower table.initial follower.start text

  leads_led : (text : List ℕ) → leads (cascade table follower) text ≡ led (state_after table text) (end text)
  leads_led text = lead_led table.initial follower.start text

  state_of_led : (state : ℕ) (x : X) (both : Led X) → led state x ≡ Some both → (both ≡ record { leader = state; follower = x }) × (state ≢ 0)
  state_of_led zero x both is = absurd (none-some both is)
  state_of_led (suc place) x both is = (sym (same_Some (record { leader = suc place; follower = x }) both is), (λ none. omega arith))

  accepted_state : (state : ℕ) (x : X) → IsTrue (follower.accepts state x) → 0 < state
  accepted_state zero x accepts = absurd (false≢true (sym (follower.rejects_nowhere x) ∙ accepts))
  accepted_state (suc place) x accepts = omega arith

  -- the product accepts what leads both to acceptance
  pub led_accepts : (text : List ℕ) → MachineAccepts (cascade table follower) text ↔ AcceptsLed table follower text
  led_accepts text = (
    λ accepts.
        let P : Led X → Type 0 = λ both. IsTrue (follower.accepts both.leader both.follower) in
        let at = state_of_led (state_after table text) (end text) accepts.state (sym (leads_led text) ∙ accepts.leads_there) in
        subst P at.0 accepts.accepts,
    λ accepts. record {
      state = record { leader = state_after table text; follower = end text };
      leads_there = leads_led text ∙ led_some (state_after table text) (end text) (accepted_state (state_after table text) (end text) accepts);
      accepts = accepts;
    },
  )

  pub least_of_both : (text : List ℕ) → IsLeastAccepted (cascade table follower) text → IsLeastLed table follower text
  least_of_both text least = record {
    accepted = (led_accepts text).0 least.accepted;
    least = λ other accepts. least.least other ((led_accepts other).1 accepts);
  }

  -- a text that leads to a state of the product leads the leader to one
  pub leader_leads : (text : List ℕ) (both : Led X) → leads (cascade table follower) text ≡ Some both → state_after table text ≢ 0
  leader_leads text both is = (state_of_led (state_after table text) (end text) both (sym (leads_led text) ∙ is)).1

module _ {X : Type 0} (leader : Automaton) (follower : Follower X) {table : Table} {states : List (Led X)} {origins : List (ℕ × ℕ)}
    (explored : IsExploration (cascade leader.table follower) table states origins) where
  pub led_automaton : IsAutomaton leader → HasSymbols (symbols leader.alphabet) table
      → IsAutomaton (record { alphabet = leader.alphabet; table = table })
  led_automaton is low = record {
    generators = is.generators;
    table = explored.is_table;
    symbols = low;
    texts = λ text some. is.texts text (on text some (leads (cascade leader.table follower) text) refl);
  }
    where
      on : (text : List ℕ) → state_after table text ≢ 0 → (o : Option (Led X)) → leads (cascade leader.table follower) text ≡ o
          → state_after leader.table text ≢ 0
      on text some None is = absurd (some ((leads_nowhere explored text).1 is))
      on text some (Some both) is = leader_leads leader.table follower text both is

  pub led_language : (text : List ℕ) → AcceptsFrom table table.initial text ↔ AcceptsLed leader.table follower text
  led_language text =
      let same = accepts_same explored text in
      let means = led_accepts leader.table follower text in
      (λ accepts. means.0 (same.0 accepts), λ accepts. same.1 (means.1 accepts))

-- what is said where nothing is found
pub none_kept : {X P Q : Type 0} (found : Option X) → (P → Q) → IfNone found P → IfNone found Q
none_kept None implies none = implies none
none_kept (Some x) implies none = none
