-- Presentations: their defining relations, inverses, and oriented relations.
use Rattle.std.specs.Prelude.{◌≡◌, ℕ, zero, suc, ◌<◌, ◌≤◌, ◌⊎◌, List, [], ◌∷◌, ◌++◌, length, All, Option, Some, None, slice_get, option_and_then}
use Rattle.std.specs.Option.{option_map}
use Rattle.kb_word.specs.Words.{Pair, OneOf}
use Rattle.kb_word.specs.WordOrders.{WeighsEach}
use Rattle.kb_word.specs.declared.word_order.WordOrder.{WordOrder}

-- the inverse of letter x, where place 0 holds that of letter 1
abbrev pub inverse_letter : List (Option ℕ) → ℕ → Option ℕ
inverse_letter inverses zero = None
inverse_letter inverses (suc place) =
    option_and_then (λ inverse. inverse) (slice_get inverses place)

-- the inverse of a word: the inverse letters in reverse order, where each letter has one
abbrev pub inverse_word : List (Option ℕ) → List ℕ → Option (List ℕ)
inverse_word inverses [] = Some []
inverse_word inverses (x ∷ w) =
    option_and_then (λ y. option_map (λ v. v ++ y ∷ []) (inverse_word inverses w))
    (inverse_letter inverses x)

-- x*y = IdWord for each letter x with inverse y, in letter order, the first letter being numbered as given
abbrev pub inverse_relations : ℕ → List (Option ℕ) → List Pair
inverse_relations x [] = []
inverse_relations x (None ∷ rest) = inverse_relations (suc x) rest
inverse_relations x (Some y ∷ rest) = (x ∷ y ∷ [], []) ∷ inverse_relations (suc x) rest

-- The defining relations: the equations in order, and then what says which letters are inverse.
-- Holt, Eick, O'Brien, Handbook of Computational Group Theory, 12.1.
abbrev pub relations_of : List (Option ℕ) → List Pair → List Pair
relations_of inverses equations = equations ++ inverse_relations 1 inverses

-- each letter of the word is one of 1 to n
abbrev pub IsOver : ℕ → List ℕ → Type 0
IsOver n w = All (λ x. (0 < x) × (x ≤ n)) w

-- what every presentation with n generators keeps
pub record IsPresentation (n : ℕ) (order : WordOrder) (names : List (List ℕ))
    (inverses : List (Option ℕ)) (equations : List Pair) : Type 0 where
  pub one_weight_each : WeighsEach n order
  pub one_name_each : length names ≡ n
  pub one_inverse_each : length inverses ≡ n
  pub mutual_inverses : (x y : ℕ) → inverse_letter inverses x ≡ Some y
      → inverse_letter inverses y ≡ Some x
  pub letters : (pair : Pair) → OneOf equations pair → IsOver n pair.0 × IsOver n pair.1

-- the rule has the pair's greater side on the left and the lesser on the right
abbrev pub IsOrientation : (List ℕ → List ℕ → Type 0) → Pair → Pair → Type 0
IsOrientation below pair rule = below rule.1 rule.0 × ((rule ≡ pair) ⊎ (rule ≡ (pair.1, pair.0)))

-- What the relations give as rules after those that stand already: each is oriented, a relation with
-- equal sides gives none, and a rule that stands isn't repeated.
pub data Orients (below : List ℕ → List ℕ → Type 0) : List Pair → List Pair → List Pair
    → Type 0 where
  none_left : {standing : List Pair} → Orients below standing [] []
  equal_sides : {standing rules rest : List Pair} {side : List ℕ}
      → Orients below standing rest rules
      → Orients below standing ((side, side) ∷ rest) rules
  repeated : {standing rules rest : List Pair} {pair rule : Pair} → IsOrientation below pair rule
      → OneOf standing rule
      → Orients below standing rest rules → Orients below standing (pair ∷ rest) rules
  added : {standing rules rest : List Pair} {pair rule : Pair} → IsOrientation below pair rule
      → ¬ OneOf standing rule
      → Orients below (standing ++ rule ∷ []) rest rules
      → Orients below standing (pair ∷ rest) (rule ∷ rules)

-- the relations oriented by the order
abbrev pub AreOriented : (List ℕ → List ℕ → Type 0) → List Pair → List Pair → Type 0
AreOriented below relations rules = Orients below [] relations rules
