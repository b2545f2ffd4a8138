-- The composite of two automata of pairs: its language and its count.
use Rattle.std.proofs.Common.{◌≡◌, ℕ, ◌*◌, ◌≤◌, List, sym, ap, ◌∙◌, subst}
use Rattle.std.specs.List.{All, flat_map}
use Rattle.kb_fsa.specs.declared.alphabet.Alphabet.TheVariants.{Pair}
use Rattle.kb_fsa.specs.Table.{Table, Moves, HasSymbols}
use Rattle.kb_fsa.specs.Language.{Automaton, IsAutomaton, generators, symbols}
use Rattle.kb_explore.specs.Machine.{HasMoreStates}
use Rattle.kb_explore.specs.Exploration.{IsExploration}
use Rattle.kb_fsadet.specs.SubsetConstruction.{set_of}
use Rattle.kb_compose.specs.declared.place.Place.{Place}
use Rattle.kb_compose.specs.Composition.{IsComposite, CountedComposite}
use Rattle.kb_compose.specs.StatePairs.{state_pairs}
use Rattle.kb_compose.specs.Tails.{AreEnding}
use Rattle.kb_compose.specs.Progress.{HaveFewSets, HaveMoreSets}
use Rattle.kb_compose.proofs.Stepping.{IsPairTable, pair_table, pair_alphabet}
use Rattle.kb_compose.proofs.CountedSets.{more_places, more_sets, few_sets}
use Rattle.kb_compose.proofs.Languages.{is_composite, is_automaton}

pub ending_along : {n n' : ℕ} {first first' second second' : Table} {pairs pairs' ending : List ℕ} → n' ≡ n → first' ≡ first → second' ≡ second
    → pairs' ≡ pairs → AreEnding n' first' second' pairs' ending → AreEnding n first second pairs ending
ending_along {n} {n'} {first} {first'} {second} {second'} {pairs} {pairs'} {ending} a b c d are =
    let P : ℕ → Type 0 = λ m. AreEnding m first second pairs ending in
    let Q : Table → Type 0 = λ t. AreEnding n' t second pairs ending in
    let R : Table → Type 0 = λ t. AreEnding n' first' t pairs ending in
    let S : List ℕ → Type 0 = λ l. AreEnding n' first' second' l ending in
    subst P a (subst Q b (subst R c (subst S d are)))

module _ (first second : Automaton) (pairs : (n : ℕ) × (first.alphabet ≡ Pair n)) (alike : second.alphabet ≡ first.alphabet)
    (one : IsAutomaton first) (two : IsAutomaton second) where
  abbrev all : List Place → List ℕ
  all states = set_of (flat_map (λ (place : Place). place.pairs) states)

  whole : first.alphabet ≡ Pair (generators first.alphabet)
  whole = pair_alphabet first.alphabet pairs.0 pairs.1

  one_table : IsPairTable (generators first.alphabet) first.table
  one_table = pair_table first (generators first.alphabet) whole one

  two_table : IsPairTable (generators first.alphabet) second.table
  two_table = pair_table second (generators first.alphabet) (alike ∙ whole) two

  pub places_counted : (ending : List ℕ) (limit : ℕ) → HasMoreStates (state_pairs first second ending) (limit * 3) → CountedComposite first second limit
  places_counted ending limit more = more_places first second whole one_table two_table ending limit more

  module _ (ending : List ℕ) {table : Table} {states : List Place} {origins : List (ℕ × ℕ)}
      (explored : IsExploration (state_pairs first second ending) table states origins) where
    pub sets_counted : (limit : ℕ) → HaveMoreSets states limit → CountedComposite first second limit
    sets_counted limit more = more_sets first second whole one_table two_table ending table states origins explored limit more

    pub sets_few : (limit : ℕ) → HaveFewSets states limit → ¬ CountedComposite first second limit
    sets_few limit are = few_sets first second whole one_table two_table ending table states origins explored limit are

    pub composed_automaton : AreEnding (generators first.alphabet) first.table second.table (all states) ending
        → HasSymbols (symbols first.alphabet) table → IsAutomaton (record { alphabet = first.alphabet; table = table })
    composed_automaton ends within =
        is_automaton first second whole one_table two_table (ap generators alike) ending table states origins explored ends one.generators within

    pub composed_language : AreEnding (generators first.alphabet) first.table second.table (all states) ending
        → IsComposite first second (record { alphabet = first.alphabet; table = table })
    composed_language ends = is_composite first second whole one_table two_table (ap generators alike) ending table states origins explored ends

-- tables with the same rows have the same symbols
pub symbols_along : (k : ℕ) (table other : Table) → other.rows ≡ table.rows → HasSymbols k table → HasSymbols k other
symbols_along k table other same within =
    let P : List Moves → Type 0 = λ rows. All (All (λ move. move.0 ≤ k)) rows in subst P (sym same) within
