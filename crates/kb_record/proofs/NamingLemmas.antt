-- The first name that is repeated among names of fields in the order of the text.
use Rattle.std.proofs.Common.{◌≡◌, ℕ, zero, suc, ◌<◌, ◌⊎◌, inl, inr, List, [], ◌∷◌, ◌++◌, length, slice_get, Some, append_assoc, refl, sym, ap, subst, ◌∙◌, arith}
use Rattle.std.specs.List.{Contains}
use Rattle.std.proofs.lemmas.Option.{none-some, same_Some, slice_get_read}
use Rattle.kb_record.specs.Tree.{Value, number_value, string_value, record_value, list_value, range_value, word_value, Fields, no_fields, field, Places, no_places, place, empty_place}
use Rattle.kb_record.specs.Repeats.{field_names, StandsTwice, HasFieldTwice, SomeFieldHasTwice, SomePlaceHasTwice, Naming, namings, namings_behind, namings_in, IsRepeatedAt, IsFirst, NoneIs}

same_naming : {m n : List ℕ} {b c : List (List ℕ)} → ◌≡◌ {A = Naming} (record { name = m; before = b }) (record { name = n; before = c }) → (m ≡ n) × (b ≡ c)
same_naming e = (ap (λ (x : Naming). x.name) e, ap (λ (x : Naming). x.before) e)

-- at a place one name is repeated
pub one_repeated : (names : List Naming) (k : ℕ) (m n : List ℕ) → IsRepeatedAt names k m → IsRepeatedAt names k n → m ≡ n
one_repeated names k m n a b =
    (same_naming (same_Some (record { name = m; before = a.before }) (record { name = n; before = b.before }) (sym a.stands ∙ b.stands))).0

-- the first of the list is repeated
at_front : (x : Naming) (xs : List Naming) → Contains x.before x.name → IsRepeatedAt (x ∷ xs) 0 x.name
at_front x xs again = record { before = x.before; stands = refl; again = again }

pub front_is : (x : Naming) (xs : List Naming) (n : List ℕ) → IsRepeatedAt (x ∷ xs) 0 n → Contains x.before x.name
front_is x xs n r =
    let same = same_Some x (record { name = n; before = r.before }) r.stands in
    let P : Naming → Type 0 = λ y. Contains y.before y.name in
    subst P (sym same) r.again

pub later : (x : Naming) (xs : List Naming) (k : ℕ) (n : List ℕ) → IsRepeatedAt xs k n → IsRepeatedAt (x ∷ xs) (suc k) n
later x xs k n r = record { before = r.before; stands = r.stands; again = r.again }

pub sooner : (x : Naming) (xs : List Naming) (k : ℕ) (n : List ℕ) → IsRepeatedAt (x ∷ xs) (suc k) n → IsRepeatedAt xs k n
sooner x xs k n r = record { before = r.before; stands = r.stands; again = r.again }

pub first_here : (x : Naming) (xs : List Naming) → Contains x.before x.name → IsFirst (x ∷ xs) x.name
first_here x xs again = record { check = 0; found = at_front x xs again; first = λ k m h r. omega (arith, h) }

pub first_later : (x : Naming) (xs : List Naming) (n : List ℕ) → (Contains x.before x.name → ⊥) → IsFirst xs n → IsFirst (x ∷ xs) n
first_later x xs n new f = record { check = suc f.check; found = later x xs f.check n f.found; first = λ k m h r. before k m h r }
  where
    before : (k : ℕ) (m : List ℕ) → k < suc f.check → IsRepeatedAt (x ∷ xs) k m → ⊥
    before zero m h r = new (front_is x xs m r)
    before (suc k) m h r = f.first k m (omega (arith, h)) (sooner x xs k m r)

-- the first behind names of which none is repeated
pub first_behind : (xs ys : List Naming) (n : List ℕ) → NoneIs xs → IsFirst ys n → IsFirst (xs ++ ys) n
first_behind [] ys n none f = f
first_behind (x ∷ xs) ys n none f =
    first_later x (xs ++ ys) n (λ again. none 0 x.name (at_front x xs again))
    (first_behind xs ys n (λ k m r. none (suc k) m (later x xs k m r)) f)

-- the first, whatever stands behind the list
pub first_front : (xs ys : List Naming) (n : List ℕ) → IsFirst xs n → IsFirst (xs ++ ys) n
first_front [] ys n f = absurd (none-some (record { name = n; before = f.found.before }) f.found.stands)
first_front (x ∷ xs) ys n f = go f.check f.found f.first (λ rest. first_front xs ys n rest)
  where
    go : (k : ℕ) → IsRepeatedAt (x ∷ xs) k n → ((j : ℕ) (m : List ℕ) → j < k → IsRepeatedAt (x ∷ xs) j m → ⊥) → (IsFirst xs n → IsFirst (xs ++ ys) n) → IsFirst (x ∷ (xs ++ ys)) n
    go zero found first behind =
        let same = same_naming (same_Some x (record { name = n; before = found.before }) found.stands) in
        let P : List ℕ → Type 0 = λ m. IsFirst (x ∷ (xs ++ ys)) m in
        subst P same.0 (first_here x (xs ++ ys) (front_is x xs n found))
    go (suc k) found first behind =
        first_later x (xs ++ ys) n (λ again. first 0 x.name (omega arith) (at_front x xs again))
        (behind (record {
          check = k;
          found = sooner x xs k n found;
          first = λ j m h r. first (suc j) m (omega (arith, h)) (later x xs j m r);
        }))

-- what is repeated in one of two lists
split : (xs ys : List Naming) (k : ℕ) (n : List ℕ) → IsRepeatedAt (xs ++ ys) k n → ((j : ℕ) × IsRepeatedAt xs j n) ⊎ ((j : ℕ) × IsRepeatedAt ys j n)
split [] ys k n r = inr (k, r)
split (x ∷ xs) ys zero n r = inl (0, record { before = r.before; stands = r.stands; again = r.again })
split (x ∷ xs) ys (suc k) n r = elim (split xs ys k n (sooner x (xs ++ ys) k n r)) [
  | inl here ↦ inl (suc here.0, later x xs here.0 n here.1)
  | inr there ↦ inr there
]

front_place : (before behind : List (List ℕ)) (k : ℕ) (n : List ℕ) → slice_get before k ≡ Some n → slice_get (before ++ behind) k ≡ Some n
front_place [] behind k n at = absurd (none-some n at)
front_place (b ∷ before) behind zero n at = at
front_place (b ∷ before) behind (suc k) n at = front_place before behind k n at

middle_place : (before behind : List (List ℕ)) (n : List ℕ) → slice_get (before ++ n ∷ behind) (length before) ≡ Some n
middle_place [] behind n = refl
middle_place (b ∷ before) behind n = middle_place before behind n

-- a name that stands among those before it
twice_among : (before behind : List (List ℕ)) (n : List ℕ) → Contains before n → StandsTwice (before ++ n ∷ behind) n
twice_among before behind n has = record {
  first = has.0;
  again = length before;
  later = has.1;
  at_first = front_place before (n ∷ behind) has.0 n (slice_get_read before (length before) has.0 n refl has.1 (sym has.2));
  at_again = middle_place before behind n;
}

-- a name that is repeated stands twice in a record
mutual
  pub twice_within : (v : Value) (k : ℕ) (n : List ℕ) → IsRepeatedAt (namings v) k n → HasFieldTwice v n
  twice_within (number_value z) k n r = absurd (none-some (record { name = n; before = r.before }) r.stands)
  twice_within (string_value text) k n r = absurd (none-some (record { name = n; before = r.before }) r.stands)
  twice_within (record_value fields) k n r = twice_behind [] fields k n r
  twice_within (list_value places) k n r = twice_in places k n r
  twice_within (range_value from to) k n r = absurd (none-some (record { name = n; before = r.before }) r.stands)
  twice_within (word_value word) k n r = absurd (none-some (record { name = n; before = r.before }) r.stands)

  pub twice_behind : (before : List (List ℕ)) (fields : Fields) (k : ℕ) (n : List ℕ) → IsRepeatedAt (namings_behind before fields) k n
      → StandsTwice (before ++ field_names fields) n ⊎ SomeFieldHasTwice fields n
  twice_behind before no_fields k n r = absurd (none-some (record { name = n; before = r.before }) r.stands)
  twice_behind before (field text value others) zero n r =
      let same = same_naming (same_Some (record { name = text; before = before }) (record { name = n; before = r.before }) r.stands) in
      let P : List ℕ → Type 0 = λ m. StandsTwice (before ++ text ∷ field_names others) m in
      inl (subst P same.0 (twice_among before (field_names others) text (front_is (record { name = text; before = before }) _ n r)))
  twice_behind before (field text value others) (suc k) n r =
      elim (split (namings value) (namings_behind (before ++ text ∷ []) others) k n (sooner _ _ k n r)) [
        | inl here ↦ inr (inl (twice_within value here.0 n here.1))
        | inr there ↦ elim (twice_behind (before ++ text ∷ []) others there.0 n there.1) [
          | inl twice ↦ let P : List (List ℕ) → Type 0 = λ names. StandsTwice names n in inl (subst P (append_assoc before (text ∷ []) (field_names others)) twice)
          | inr some ↦ inr (inr some)
        ]
      ]

  pub twice_in : (places : Places) (k : ℕ) (n : List ℕ) → IsRepeatedAt (namings_in places) k n → SomePlaceHasTwice places n
  twice_in no_places k n r = absurd (none-some (record { name = n; before = r.before }) r.stands)
  twice_in (place value others) k n r = elim (split (namings value) (namings_in others) k n r) [
    | inl here ↦ inl (twice_within value here.0 n here.1)
    | inr there ↦ inr (twice_in others there.0 n there.1)
  ]
  twice_in (empty_place others) k n r = twice_in others k n r

-- where nothing stands twice no name is repeated
pub none_within : (v : Value) → ((q : List ℕ) → HasFieldTwice v q → ⊥) → NoneIs (namings v)
none_within v once k n r = once n (twice_within v k n r)
