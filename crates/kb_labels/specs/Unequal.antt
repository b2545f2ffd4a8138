-- Pairs of a multiplier whose words don't differ by its generator, as normal forms show.
use Rattle.std.specs.Prelude.{◌≢◌, ℕ, List, [], ◌∷◌, ◌++◌}
use Rattle.kb_word.specs.Words.{Less, Pair}
use Rattle.kb_word.specs.Relations.{IsOver}
use Rattle.kb_word.specs.Rewriting.{NormalForm}
use Rattle.kb_fsa.specs.Table.{Table, AcceptsFrom}
use Rattle.kb_fsa.specs.Padding.{padded}
use Rattle.kb_fsa.specs.Language.{Automaton, AcceptsPair, generators}

-- The automaton has the pair of words over its generators, and the first followed by x has another normal form by the
-- rules than the second.
pub record IsUnequalPair (rules : List Pair) (pairs : Automaton) (x : ℕ)
    (u v : List ℕ) : Type 0 where
  pub first_over : IsOver (generators pairs.alphabet) u
  pub second_over : IsOver (generators pairs.alphabet) v
  pub accepted : AcceptsPair pairs u v
  pub product : List ℕ
  pub other : List ℕ
  pub product_normal : NormalForm rules (u ++ x ∷ []) product
  pub other_normal : NormalForm rules v other
  pub different : product ≢ other

-- the second word is the least that makes such a pair with the first
pub record IsLeastUnequalSecond (rules : List Pair) (pairs : Automaton) (x : ℕ)
    (u v : List ℕ) : Type 0 where
  pub unequal : IsUnequalPair rules pairs x u v
  pub least : (other : List ℕ) → IsUnequalPair rules pairs x u other → ¬ Less other v

-- the second word is accepted beside the first from the state on, and behind the word it has another normal form than
-- the target
pub record IsOther (n : ℕ) (rules : List Pair) (table : Table) (state : ℕ)
    (first word target second : List ℕ) : Type 0 where
  pub over : IsOver n second
  pub accepted : AcceptsFrom table state (padded n first second)
  pub normal : List ℕ
  pub is_normal : NormalForm rules (word ++ second) normal
  pub different : normal ≢ target

-- the least such second word
pub record IsLeastOther (n : ℕ) (rules : List Pair) (table : Table) (state : ℕ)
    (first word target second : List ℕ) : Type 0 where
  pub other : IsOther n rules table state first word target second
  pub least : (more : List ℕ) → IsOther n rules table state first word target more
      → ¬ Less more second
