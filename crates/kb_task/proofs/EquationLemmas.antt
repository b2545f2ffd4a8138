-- How many equations a presentation that was read has.
use Rattle.std.proofs.Common.{◌≡◌, ℕ, suc, ◌≤◌, List, [], ◌∷◌, length, Option, refl, ap, arith}
use Rattle.kb_word.specs.Words.{Pair}
use Rattle.kb_record.specs.Tree.{Factors, Fields}
use Rattle.kb_fields.specs.Fields.{place_count}
use Rattle.kb_presfile.specs.Holds.{most_equations, AreMeanings, HasEquations}
use Rattle.kb_presfile.specs.Kinds.{list_of_equations}

-- as many pairs as equations
meanings-length : (names : List (List ℕ)) (inverses : List (Option ℕ)) (sides : List (Factors × Factors)) (pairs : List Pair)
    → AreMeanings names inverses sides pairs → length pairs ≡ length sides
meanings-length names inverses [] pairs none = ap length none
meanings-length names inverses (sides ∷ others) [] none = absurd none
meanings-length names inverses (sides ∷ others) (pair ∷ pairs) means = ap suc (meanings-length names inverses others pairs means.2)

-- as many places as equations
place_count-equations : (sides : List (Factors × Factors)) → place_count (list_of_equations sides) ≡ length sides
place_count-equations [] = refl
place_count-equations (sides ∷ others) = ap suc (place_count-equations others)

-- there are at most so many equations
pub equations-few : (fields : Fields) (names : List (List ℕ)) (inverses : List (Option ℕ)) (equations : List Pair)
    → HasEquations fields names inverses equations → length equations ≤ most_equations
equations-few fields names inverses equations has =
    let few = has.few in
    omega (arith, meanings-length names inverses has.read.sides equations has.read.meanings, place_count-equations has.read.sides, ap place_count has.read.listed)
