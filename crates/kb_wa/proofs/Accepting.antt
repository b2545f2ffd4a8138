-- The trie of the explored states, and its language.
use Rattle.std.proofs.Common.{◌≡◌, ◌≢◌, ◌↔◌, ℕ, ◌≤◌, List, Option, Some, None, refl}
use Rattle.kb_word.specs.Words.{Pair, OneOf}
use Rattle.kb_word.specs.Relations.{IsOver}
use Rattle.kb_word.specs.Rewriting.{IsIrreducible}
use Rattle.kb_fsa.specs.Table.{Table, AcceptsFrom, HasSymbols}
use Rattle.kb_fsa.specs.Language.{IsAutomaton}
use Rattle.kb_fsa.specs.declared.alphabet.Alphabet.TheVariants.{Plain}
use Rattle.kb_explore.specs.Machine.{leads}
use Rattle.kb_explore.specs.Exploration.{IsExploration}
use Rattle.kb_explore.proofs.ExplorationLemmas.{accepts_same, leads_nowhere}
use Rattle.kb_trie.specs.States.{States}
use Rattle.kb_wa.specs.Dictionary.{dictionary}
use Rattle.kb_wa.proofs.Reading.{IsDictionary, accepts_irreducible, read_there}

module _ {n : ℕ} {rules : List Pair} {trie : States} (given : IsDictionary n rules trie) {table : Table} {states : List ℕ}
    {origins : List (ℕ × ℕ)} (explored : IsExploration (dictionary n trie) table states origins) where
  over_there : (w : List ℕ) (there : Option ℕ) → leads (dictionary n trie) w ≡ there → there ≢ None → IsOver n w
  over_there w None leads_there some = absurd (some refl)
  over_there w (Some state) leads_there some = (read_there given w state leads_there).over

  pub is_acceptor : n ≤ 65534 → HasSymbols n table → IsAutomaton (record { alphabet = Plain n; table = table })
  is_acceptor few symbols = record {
    generators = few;
    table = explored.is_table;
    symbols = symbols;
    texts = λ text some. over_there text (leads (dictionary n trie) text) refl (λ none. some ((leads_nowhere explored text).1 none));
  }

  pub language : (w : List ℕ) → AcceptsFrom table table.initial w ↔ (IsOver n w × IsIrreducible (OneOf rules) w)
  language w =
      let machine = accepts_same explored w in
      let irreducible = accepts_irreducible given w in
      (λ accepts. irreducible.0 (machine.0 accepts), λ both. machine.1 (irreducible.1 both))
