-- Composites along the sides of relations, and what is counted of them.
use Rattle.std.specs.Prelude.{◌≡◌, ◌≢◌, ℕ, List, []}
use Rattle.kb_word.specs.Words.{Pair as Sides}
use Rattle.kb_fsa.specs.declared.alphabet.Alphabet.TheVariants.{Pair}
use Rattle.kb_fsa.specs.Language.{Automaton, IsAutomaton, generators}
use Rattle.kb_fsa.specs.Canonical.{IsCanonical}
use Rattle.kb_fsa.specs.Counted.{CountedOr}
use Rattle.kb_compose.specs.Along.{IsAlong, CountedAlong, identity_on}

-- The automaton is the composite along the word, as it is compared: canonical, but for the empty word the identity with
-- the acceptor's states as they stand.
pub record IsCompositeAlong (acceptor : Automaton) (multipliers : List Automaton) (word : List ℕ)
    (composite : Automaton) : Type 0 where
  pub automaton : IsAutomaton composite
  pub alphabet : composite.alphabet ≡ Pair (generators acceptor.alphabet)
  pub language : IsAlong acceptor multipliers word composite
  pub identity : word ≡ [] → composite ≡ identity_on acceptor
  pub canonical : word ≢ [] → IsCanonical composite.table

-- More states than the limit are counted for a relation: in a composite along a side, or where the two composites are
-- compared.
pub data CountedRelation (acceptor : Automaton) (multipliers : List Automaton) (relation : Sides)
    (limit : ℕ) : Type 0 where
  along_left : CountedAlong multipliers limit (identity_on acceptor) relation.0
      → CountedRelation acceptor multipliers relation limit
  along_right : CountedAlong multipliers limit (identity_on acceptor) relation.1
      → CountedRelation acceptor multipliers relation limit
  compared : (left right : Automaton) → IsCompositeAlong acceptor multipliers relation.0 left
      → IsCompositeAlong acceptor multipliers relation.1 right
      → CountedOr left.table right.table limit
      → CountedRelation acceptor multipliers relation limit
