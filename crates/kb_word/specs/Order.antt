-- What a reduction order is. What is proved of rewriting rests on this alone, and not on shortlex.
use Rattle.std.specs.Prelude.{◌≡◌, ℕ, ◌+◌, ◌*◌, ◌^◌, ◌⊎◌, List, [], ◌∷◌, ◌++◌, length}

-- no endless descent from x: each thing below it is accessible too
pub data Accessible {X : Type 0} (below : X → X → Type 0) : X → Type 0 where
  accessible : {x : X} → ((y : X) → below y x → Accessible below y) → Accessible below x

-- A strict total order of words that is well-founded and kept by adding words on both sides.
-- Baader, Nipkow, Term Rewriting and All That, 5.2; Sims, Computation with Finitely Presented Groups, 2.1.
pub record IsReductionOrder (below : List ℕ → List ℕ → Type 0) : Type 0 where
  pub irreflexive : (u : List ℕ) → ¬ below u u
  pub transitive : (u v w : List ℕ) → below u v → below v w → below u w
  pub total : (u v : List ℕ) → (u ≡ v) ⊎ (below u v ⊎ below v u)
  pub well_founded : (u : List ℕ) → Accessible below u
  pub kept : (before after u v : List ℕ) → below u v
      → below (before ++ u ++ after) (before ++ v ++ after)

-- The word's number, where the words over letters below 2^16 are numbered 0, 1, 2, .. in shortlex order.
-- Each letter is a digit, counted from 1 (the n-adic numerals of Smullyan, Theory of Formal Systems).
abbrev pub rank : List ℕ → ℕ
rank [] = 0
rank (x ∷ w) = (x + 1) * (2 ^ 16) ^ length w + rank w
