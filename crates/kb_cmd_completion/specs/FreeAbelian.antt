-- Free abelian groups.
use Rattle.std.specs.Prelude.{ℕ, zero, suc, ◌+◌, ◌*◌, List, [], ◌∷◌, ◌++◌, Option, Some, codes, decimal}
use Rattle.kb_word.specs.Words.{Pair}
use Rattle.kb_word.specs.Presentations.{PresentationParts}
use Rattle.kb_word.specs.declared.word_order.WordOrder.TheVariants.{ShortLex}

-- the generators are x1, X1, x2, X2, .., and Xi is the inverse of xi
abbrev pub generator_names : ℕ → List (List ℕ)
generator_names zero = []
generator_names (suc i) =
    generator_names i ++ (codes "x" ++ decimal (suc i)) ∷ (codes "X" ++ decimal (suc i)) ∷ []

abbrev pub generator_inverses : ℕ → List (Option ℕ)
generator_inverses zero = []
generator_inverses (suc i) = generator_inverses i ++ Some (2 * i + 2) ∷ Some (2 * i + 1) ∷ []

-- xj*xi = xi*xj, where xi is letter 2i - 1
abbrev pub commutes : ℕ → ℕ → Pair
commutes i j = ((2 * j + 1) ∷ (2 * i + 1) ∷ [], (2 * i + 1) ∷ (2 * j + 1) ∷ [])

-- generator i, counted from 0, commutes with each of the `count` generators after it
abbrev pub commutes_with_next : ℕ → ℕ → List Pair
commutes_with_next i zero = []
commutes_with_next i (suc count) = commutes_with_next i count ++ commutes i (i + suc count) ∷ []

-- each of the first generators commutes with all after it, `count` being those that are no longer first
abbrev pub commuting : ℕ → ℕ → List Pair
commuting zero count = []
commuting (suc i) count = commuting i (suc count) ++ commutes_with_next i count

-- the presentation of the free abelian group of this rank, by commuting generators
abbrev pub free_abelian : ℕ → PresentationParts
free_abelian rank = record {
  order = ShortLex;
  names = generator_names rank;
  inverses = generator_inverses rank;
  equations = commuting rank 0;
}
