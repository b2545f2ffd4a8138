-- The word acceptor and the multipliers that are made from word differences. Epstein et al., Word
-- Processing in Groups, 2.3 and 6; Holt, Eick, O'Brien, Handbook of Computational Group Theory,
-- 13.2.
use Rattle.std.specs.Prelude.{◌↔◌, ℕ, List, [], ◌∷◌}
use Rattle.kb_word.specs.Words.{IsFactor}
use Rattle.kb_word.specs.Relations.{IsOver}
use Rattle.kb_word.specs.WordOrders.{Below}
use Rattle.kb_word.specs.Rewriting.{NormalForm}
use Rattle.kb_fsa.specs.Language.{Automaton, Accepts}
use Rattle.kb_diff.specs.Groups.{Group}
use Rattle.kb_diff.specs.Steps.{Leads}

-- some lesser word v leads beside s from the empty word back to it, so that both are the same element
pub record IsShownGreater (group : Group) (words : List (List ℕ)) (s : List ℕ) : Type 0 where
  pub v : List ℕ
  pub letters : IsOver group.n v
  pub less : Below group.order v s
  pub leads : Leads group words [] s v []

-- the acceptor's words: no factor is shown to be greater than another word of the same element
pub record DifferenceAcceptor (group : Group) (words : List (List ℕ)) (w : List ℕ) : Type 0 where
  pub letters : IsOver group.n w
  pub not_greater : (s : List ℕ) → IsFactor w s → ¬ IsShownGreater group words s

-- the acceptor is that of the differences: it accepts the words that no kept differences show to be greater than others
abbrev pub IsDifferenceAcceptor : Group → List (List ℕ) → Automaton → Type 0
IsDifferenceAcceptor group words acceptor =
    (w : List ℕ) → Accepts acceptor w ↔ DifferenceAcceptor group words w

-- the pairs of the multiplier of generator x: words of the acceptor that lead from the empty word to x's normal form
pub record DifferenceMultiplier (group : Group) (words : List (List ℕ)) (x : ℕ)
    (u v : List ℕ) : Type 0 where
  pub first : DifferenceAcceptor group words u
  pub second : DifferenceAcceptor group words v
  pub end : List ℕ
  pub normal : NormalForm group.rules (x ∷ []) end
  pub leads : Leads group words [] u v end
