-- Lists of names and of numbers can be written, are shallow, and have no field twice; and their names and numbers are
-- spelled.
use Rattle.std.proofs.Common.{ℕ, ◌<◌, ◌≤◌, ◌⊎◌, inl, inr, ℤ, pos, List, [], ◌∷◌, arith}
use Rattle.std.specs.List.{All}
use Rattle.std.proofs.Math.Nat.{max-le}
use Rattle.std.proofs.lemmas.List.Elements.{All-head, All-tail}
use Rattle.kb_record.specs.Spelling.{IsName}
use Rattle.kb_record.specs.Grammar.{IsPlaceList, ArePlaces}
use Rattle.kb_layout.specs.Layout.{IsShortNumber, AreSpelledPlaces}
use Rattle.kb_record.specs.Nesting.{places_nesting}
use Rattle.kb_fields.specs.Fields.{list_of_names, list_of_numbers, SomePlaceHasTwice}

-- ---- lists that can be written

pub names_formed : (names : List (List ℕ)) → IsPlaceList (list_of_names names) × ArePlaces (list_of_names names)
names_formed [] = (tt, tt)
names_formed (name ∷ names) = (tt, ((tt, tt), (names_formed names).1))

pub numbers_formed : (numbers : List ℤ) → IsPlaceList (list_of_numbers numbers) × ArePlaces (list_of_numbers numbers)
numbers_formed [] = (tt, tt)
numbers_formed (z ∷ numbers) = (tt, (tt, (numbers_formed numbers).1))

-- ---- how deep they nest

pub names_shallow : (names : List (List ℕ)) → places_nesting (list_of_names names) ≤ 0
names_shallow [] = omega arith
names_shallow (name ∷ names) = max-le (omega arith) (names_shallow names)

pub numbers_shallow : (numbers : List ℤ) → places_nesting (list_of_numbers numbers) ≤ 0
numbers_shallow [] = omega arith
numbers_shallow (z ∷ numbers) = max-le (omega arith) (numbers_shallow numbers)

-- ---- no field stands twice

pub none_of : {A B : Type 0} → (A → ⊥) → (B → ⊥) → A ⊎ B → ⊥
none_of one other (inl a) = one a
none_of one other (inr b) = other b

pub nothing : ⊥ → ⊥
nothing f = f

pub names_once : (names : List (List ℕ)) (name : List ℕ) → SomePlaceHasTwice (list_of_names names) name → ⊥
names_once [] name f = f
names_once (n ∷ names) name f = none_of nothing (names_once names name) f

pub numbers_once : (numbers : List ℤ) (name : List ℕ) → SomePlaceHasTwice (list_of_numbers numbers) name → ⊥
numbers_once [] name f = f
numbers_once (z ∷ numbers) name f = none_of nothing (numbers_once numbers name) f

-- ---- names and numbers are spelled

pub short : (n : ℕ) → n < 1000000000000000000 → IsShortNumber (pos n)
short n small = small

pub names_spelled : (names : List (List ℕ)) → All IsName names → AreSpelledPlaces (list_of_names names)
names_spelled [] each = tt
names_spelled (name ∷ names) each = (((All-head IsName name names each, tt), tt), names_spelled names (All-tail IsName name names each))
