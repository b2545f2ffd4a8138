-- Composites along a word.
use Rattle.std.specs.Prelude.{◌≡◌, ◌↔◌, ℕ, ◌<◌, ◌≤◌, List, [], ◌∷◌, map, All, Some}
use Rattle.kb_word.specs.Relations.{IsOver}
use Rattle.kb_fsa.specs.declared.alphabet.Alphabet.TheVariants.{Pair}
use Rattle.kb_fsa.specs.Table.{Moves}
use Rattle.kb_fsa.specs.PairSymbols.{pair_symbol}
use Rattle.kb_fsa.specs.Language.{Automaton, IsAutomaton, Accepts, AcceptsPair, generators}
use Rattle.kb_fsa.specs.Canonical.{IsCanonical}
use Rattle.kb_explore.specs.Exploration.{numbered}
use Rattle.kb_compose.specs.Composition.{IsComposite, CountedComposite}

-- the multiplier of the letter has the pair of words over n generators
pub record Multiplies (n : ℕ) (multipliers : List Automaton) (x : ℕ) (u v : List ℕ) : Type 0 where
  pub multiplier : Automaton
  pub is_its : numbered multipliers x ≡ Some multiplier
  pub second_over : IsOver n v
  pub accepted : AcceptsPair multiplier u v

-- following the word's letters from u by their multipliers, one after another, leads to v
abbrev pub Follows : ℕ → List Automaton → List ℕ → List ℕ → List ℕ → Type 0
Follows n multipliers [] u v = u ≡ v
Follows n multipliers (x ∷ w) u v =
    (next : List ℕ) × (Multiplies n multipliers x u next × Follows n multipliers w next v)

-- the automaton accepts the pairs whose first word the acceptor accepts, and from which the word leads to the second
abbrev pub IsAlong : Automaton → List Automaton → List ℕ → Automaton → Type 0
IsAlong acceptor multipliers word along = (u v : List ℕ) → IsOver (generators acceptor.alphabet) u
    → IsOver (generators acceptor.alphabet) v
    → AcceptsPair along u v
    ↔ (Accepts acceptor u × Follows (generators acceptor.alphabet) multipliers word u v)

-- the moves are by letters of n
abbrev pub AreLetters : ℕ → Moves → Type 0
AreLetters n moves = All (λ move. (0 < move.0) × (move.0 ≤ n)) moves

-- the move by a pair of the same letter twice
abbrev pub twice : ℕ → ℕ × ℕ → ℕ × ℕ
twice n move = (pair_symbol n move.0 move.0, move.1)

-- the identity on the acceptor, with the acceptor's states: it accepts the pairs of an accepted word with itself
abbrev pub identity_on : Automaton → Automaton
identity_on acceptor = record {
  alphabet = Pair (generators acceptor.alphabet);
  table = record {
    initial = acceptor.table.initial;
    rows = map (map (twice (generators acceptor.alphabet))) acceptor.table.rows;
    accepting = acceptor.table.accepting;
  };
}

-- the canonical automaton of the composite of the two
pub record IsCanonicalComposite (first second composite : Automaton) : Type 0 where
  pub automaton : IsAutomaton composite
  pub alphabet : composite.alphabet ≡ first.alphabet
  pub canonical : IsCanonical composite.table
  pub language : IsComposite first second composite

-- one of the composites with the multipliers of the word's letters, from the automaton on, counts more than m. Each is
-- over the canonical automaton of the one before.
pub data CountedAlong (multipliers : List Automaton) (m : ℕ) : Automaton → List ℕ → Type 0 where
  at_once : {automaton multiplier : Automaton} {x : ℕ} {w : List ℕ}
      → numbered multipliers x ≡ Some multiplier → CountedComposite automaton multiplier m
      → CountedAlong multipliers m automaton (x ∷ w)
  later : {automaton multiplier next : Automaton} {x : ℕ} {w : List ℕ}
      → numbered multipliers x ≡ Some multiplier
      → IsCanonicalComposite automaton multiplier next → CountedAlong multipliers m next w
      → CountedAlong multipliers m automaton (x ∷ w)
