-- Where none of the names of a value's fields is repeated, no name stands twice in a record.
use Rattle.std.proofs.Common.{◌≡◌, ℕ, zero, suc, inl, inr, List, [], ◌∷◌, ◌++◌, take, slice_get, Some, append_assoc, append-nil, sym, ap, subst}
use Rattle.std.specs.List.{Contains}
use Rattle.std.proofs.lemmas.Option.{none-some, same_Some}
use Rattle.kb_record.specs.Tree.{Value, number_value, string_value, record_value, list_value, range_value, word_value, Fields, no_fields, field, Places, no_places, place, empty_place}
use Rattle.kb_record.specs.Repeats.{field_names, StandsTwice, HasFieldTwice, SomeFieldHasTwice, SomePlaceHasTwice, Naming, namings, namings_behind, namings_in, IsRepeatedAt, NoneIs}
use Rattle.kb_record.proofs.BeforeLemmas.{has_place, among_first}
use Rattle.kb_record.proofs.NamingLemmas.{later, sooner}

none_rest : (x : Naming) (xs : List Naming) → NoneIs (x ∷ xs) → NoneIs xs
none_rest x xs none k n r = none (suc k) n (later x xs k n r)

in_front : (xs ys : List Naming) (k : ℕ) (n : List ℕ) → IsRepeatedAt xs k n → IsRepeatedAt (xs ++ ys) k n
in_front [] ys k n r = absurd (none-some (record { name = n; before = r.before }) r.stands)
in_front (x ∷ xs) ys zero n r = record { before = r.before; stands = r.stands; again = r.again }
in_front (x ∷ xs) ys (suc k) n r = later x (xs ++ ys) k n (in_front xs ys k n (sooner x xs k n r))

none_front : (xs ys : List Naming) → NoneIs (xs ++ ys) → NoneIs xs
none_front xs ys none k n r = none k n (in_front xs ys k n r)

none_behind : (xs ys : List Naming) → NoneIs (xs ++ ys) → NoneIs ys
none_behind [] ys none = none
none_behind (x ∷ xs) ys none = none_behind xs ys (none_rest x (xs ++ ys) none)

-- the name of each field is new
new_name : (before : List (List ℕ)) (fields : Fields) → NoneIs (namings_behind before fields) → (j : ℕ) (q : List ℕ) → slice_get (field_names fields) j ≡ Some q
    → Contains (before ++ take j (field_names fields)) q → ⊥
new_name before no_fields none j q at has = none-some q at
new_name before (field text value others) none zero q at has =
    let P : List (List ℕ) → Type 0 = λ names. Contains names q in
    let again : Contains before q = subst P (append-nil before) has in
    none 0 q (record { before = before; stands = ap (λ (n : List ℕ). Some (record { name = n; before = before })) (same_Some text q at); again = again })
new_name before (field text value others) none (suc j) q at has =
    let P : List (List ℕ) → Type 0 = λ names. Contains names q in
    let more : NoneIs (namings_behind (before ++ text ∷ []) others) = none_behind (namings value) (namings_behind (before ++ text ∷ []) others)
    (none_rest (record { name = text; before = before }) (namings value ++ namings_behind (before ++ text ∷ []) others) none) in
    new_name (before ++ text ∷ []) others more j q at (subst P (sym (append_assoc before (text ∷ []) (take j (field_names others)))) has)

no_name_twice : (fields : Fields) (q : List ℕ) → NoneIs (namings_behind [] fields) → StandsTwice (field_names fields) q → ⊥
no_name_twice fields q none t =
    new_name [] fields none t.again q t.at_again
    (has_place (take t.again (field_names fields)) t.first q (among_first (field_names fields) t.again t.first q t.at_first t.later))

mutual
  pub once_within : (v : Value) (q : List ℕ) → NoneIs (namings v) → HasFieldTwice v q → ⊥
  once_within (number_value z) q none twice = absurd twice
  once_within (string_value text) q none twice = absurd twice
  once_within (record_value fields) q none (inl twice) = no_name_twice fields q none twice
  once_within (record_value fields) q none (inr some) = once_behind [] fields q none some
  once_within (list_value places) q none some = once_in places q none some
  once_within (range_value from to) q none twice = absurd twice
  once_within (word_value word) q none twice = absurd twice

  once_behind : (before : List (List ℕ)) (fields : Fields) (q : List ℕ) → NoneIs (namings_behind before fields) → SomeFieldHasTwice fields q → ⊥
  once_behind before no_fields q none some = absurd some
  once_behind before (field text value others) q none (inl here) =
      once_within value q (none_front (namings value) (namings_behind (before ++ text ∷ []) others)
      (none_rest (record { name = text; before = before }) (namings value ++ namings_behind (before ++ text ∷ []) others) none)) here
  once_behind before (field text value others) q none (inr there) =
      once_behind (before ++ text ∷ []) others q (none_behind (namings value) (namings_behind (before ++ text ∷ []) others)
      (none_rest (record { name = text; before = before }) (namings value ++ namings_behind (before ++ text ∷ []) others) none)) there

  once_in : (places : Places) (q : List ℕ) → NoneIs (namings_in places) → SomePlaceHasTwice places q → ⊥
  once_in no_places q none some = absurd some
  once_in (place value others) q none (inl here) = once_within value q (none_front (namings value) (namings_in others) none) here
  once_in (place value others) q none (inr there) = once_in others q (none_behind (namings value) (namings_in others) none) there
  once_in (empty_place others) q none some = once_in others q none some
