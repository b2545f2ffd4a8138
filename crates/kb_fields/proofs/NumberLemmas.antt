-- Lists of numbers, element by element.
use Rattle.std.proofs.Common.{◌≡◌, ℤ, List, [], ◌∷◌, map, Some, refl, ap}
use Rattle.kb_record.specs.Tree.{Places, number_value, list_value, place}
use Rattle.kb_record.specs.View.{places_of}
use Rattle.kb_fields.specs.Fields.{list_of_numbers}
use Rattle.kb_fields.proofs.ListingLemmas.{list_same}

pub list_of_numbers-places_of : (numbers : List ℤ) → list_of_numbers numbers ≡ places_of (map (λ (z : ℤ). Some (number_value z)) numbers)
list_of_numbers-places_of [] = refl
list_of_numbers-places_of (z ∷ numbers) = ap (place (number_value z)) (list_of_numbers-places_of numbers)

front : {v w : ℤ} {p q : Places} → place (number_value v) p ≡ place (number_value w) q → v ≡ w
front e = cc

behind : {v w : ℤ} {p q : Places} → place (number_value v) p ≡ place (number_value w) q → p ≡ q
behind e = cc

-- a list of numbers is determined by its places
pub list_of_numbers-injective : (xs ys : List ℤ) → list_of_numbers xs ≡ list_of_numbers ys → xs ≡ ys
list_of_numbers-injective [] [] e = refl
list_of_numbers-injective [] (y ∷ ys) e = cc
list_of_numbers-injective (x ∷ xs) [] e = cc
list_of_numbers-injective (x ∷ xs) (y ∷ ys) e =
    let rest = list_of_numbers-injective xs ys (behind e) in let first = front e in cc

-- a value is a list of one list of numbers
pub one_list_of_numbers : (xs ys : List ℤ) → list_value (list_of_numbers xs) ≡ list_value (list_of_numbers ys) → xs ≡ ys
one_list_of_numbers xs ys e = list_of_numbers-injective xs ys (list_same e)
