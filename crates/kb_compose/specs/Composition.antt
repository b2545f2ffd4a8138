-- Composites of automata of pairs. Epstein et al., Word Processing in Groups, 2.3 and 5.1.
use Rattle.std.specs.Prelude.{◌≡◌, ◌≢◌, ◌↔◌, ℕ, ◌<◌, ◌≤◌, max, IsTrue, List, length}
use Rattle.kb_word.specs.Relations.{IsOver}
use Rattle.kb_fsa.specs.Table.{Table, state_after, is_accepting}
use Rattle.kb_fsa.specs.Padding.{padded, IsTextOfPair}
use Rattle.kb_fsa.specs.Language.{Automaton, AcceptsPair, generators}
use Rattle.kb_fsa.specs.Counted.{MoreSetsThan}

-- a word between the two, of any length: the first automaton accepts it behind u, the second one before v
pub record HasMiddle (first second : Automaton) (u v : List ℕ) : Type 0 where
  pub middle : List ℕ
  pub over : IsOver (generators first.alphabet) middle
  pub in_first : AcceptsPair first u middle
  pub in_second : AcceptsPair second middle v

-- the composite accepts the pairs of words with a word between
abbrev pub IsComposite : Automaton → Automaton → Automaton → Type 0
IsComposite first second composite = (u v : List ℕ) → IsOver (generators first.alphabet) u
    → IsOver (generators first.alphabet) v → AcceptsPair composite u v ↔ HasMiddle first second u v

-- The pair of words over n generators, neither longer than k and padded to k, leads to the state. An accepting state
-- stays where it is under a pair of two paddings, and another has no move.
pub record IsAfterPadded (n : ℕ) (table : Table) (u v : List ℕ) (k state : ℕ) : Type 0 where
  pub leads : state_after table (padded n u v) ≡ state
  pub some : state ≢ 0
  pub stays : max (length u) (length v) < k → IsTrue (is_accepting table state)

-- the text is that of a pair of words; with some word between them, no longer than the text, they lead to both states
pub record IsPairAfter (first second : Automaton) (text : List ℕ) (states : ℕ × ℕ) : Type 0 where
  pub u : List ℕ
  pub middle : List ℕ
  pub v : List ℕ
  pub is_text : IsTextOfPair (generators first.alphabet) text u v
  pub over : IsOver (generators first.alphabet) middle
  pub no_longer : length middle ≤ length text
  pub in_first : IsAfterPadded (generators first.alphabet) first.table u middle (length text) states.0
  pub in_second : IsAfterPadded (generators first.alphabet) second.table middle v (length text) states.1

-- `compose` counts the sets of pairs of states to which one text leads
abbrev pub CountedComposite : Automaton → Automaton → ℕ → Type 0
CountedComposite first second = MoreSetsThan (IsPairAfter first second)
