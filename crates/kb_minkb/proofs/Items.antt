-- Machines that lead a text to what belongs to it, which is one thing or none.
use Rattle.std.proofs.Common.{◌≡◌, ◌≢◌, ◌↔◌, ℕ, ◌≤◌, List, Option, Some, None, IsSome, is_some, refl, sym, ap, ◌∙◌}
use Rattle.std.proofs.lemmas.Option.{none-some}
use Rattle.kb_fsa.specs.declared.alphabet.Alphabet.{Alphabet}
use Rattle.kb_fsa.specs.Language.{generators, symbols, IsTextOf, IsAutomaton}
use Rattle.kb_fsa.specs.Table.{Table, HasSymbols, state_after}
use Rattle.kb_fsa.specs.Counted.{MoreSetsThan}
use Rattle.kb_explore.specs.Machine.{Machine, leads, HasMoreStates}
use Rattle.kb_explore.specs.Exploration.{IsExploration}
use Rattle.kb_explore.proofs.CountingLemmas.{MoreThan-kept, some_state}
use Rattle.kb_explore.proofs.ExplorationLemmas.{leads_nowhere}

module _ {S : Type 0} (machine : Machine S) (Member : List ℕ → S → Type 0)
    (means : (text : List ℕ) (state : S) → (leads machine text ≡ Some state) ↔ Member text state) where
  -- it leads somewhere where the text has something
  leads_somewhere : (text : List ℕ) → IsSome (leads machine text) ↔ ((state : S) × Member text state)
  leads_somewhere text = (
    λ some. let is = some_state machine text some in (is.0, (means text is.0).0 is.1),
    λ has. ap is_some ((means text has.0).1 has.1),
  )

  -- and to one state exactly where texts have the same
  same_members : (text other : List ℕ) → leads machine text ≡ leads machine other → (state : S) → Member text state ↔ Member other state
  same_members text other same state = (
    λ has. (means other state).0 (sym same ∙ (means text state).1 has),
    λ has. (means text state).0 (same ∙ (means other state).1 has),
  )

  same_leads : (text other : List ℕ) → ((state : S) → Member text state ↔ Member other state) → leads machine text ≡ leads machine other
  same_leads text other like = by (leads machine text) (leads machine other) refl refl
    where
      by : (o p : Option S) → leads machine text ≡ o → leads machine other ≡ p → o ≡ p
      by None None one two = refl
      by None (Some state) one two =
          absurd (none-some state (sym one ∙ (means text state).1 ((like state).1 ((means other state).0 two))))
      by (Some state) p one two = sym ((means other state).1 ((like state).0 ((means text state).0 one))) ∙ two

  -- so it has as many states as texts have different things
  pub states_counted : (m : ℕ) → HasMoreStates machine m ↔ MoreSetsThan Member m
  states_counted m = (
    λ more. MoreThan-kept more (λ text some. (leads_somewhere text).0 some) (λ text other one two like. same_leads text other like),
    λ more. MoreThan-kept more (λ text has. (leads_somewhere text).1 has) (λ text other one two same. same_members text other same),
  )

  -- and over an alphabet that has each text with something its table is an automaton
  pub explored_automaton : {table : Table} {states : List S} {origins : List (ℕ × ℕ)} (alphabet : Alphabet)
      → IsExploration machine table states origins → generators alphabet ≤ 65534 → HasSymbols (symbols alphabet) table
      → ((text : List ℕ) (state : S) → Member text state → IsTextOf alphabet text)
      → IsAutomaton (record { alphabet = alphabet; table = table })
  explored_automaton {table} alphabet explored generators' symbols' texts = record {
    generators = generators';
    table = explored.is_table;
    symbols = symbols';
    texts = λ text some. by text some (leads machine text) refl;
  }
    where
      by : (text : List ℕ) → state_after table text ≢ 0 → (o : Option S) → leads machine text ≡ o → IsTextOf alphabet text
      by text some None is = absurd (some ((leads_nowhere explored text).1 is))
      by text some (Some state) is = texts text state ((means text state).0 is)
