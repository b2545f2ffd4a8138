-- Names that a generator can't have.
use Rattle.std.proofs.Common.{◌≡◌, ◌⊎◌, ℕ, zero, suc, ◌+◌, ◌<◌, ◌≤◌, List, [], ◌∷◌, ◌++◌, map, take, length, get_or, slice_get, Some, inl, inr, refl, sym, ap, subst, ◌∙◌, length-append, arith}
use Rattle.std.specs.Borrow.{Bor}
use Rattle.std.specs.Option.{option_map}
use Rattle.std.specs.List.{Contains}
use Rattle.std.proofs.lemmas.List.{length-map, length-take-le, map-append, take-map, take_more}
use Rattle.std.proofs.lemmas.Option.{none-some, same_Some, slice_get-map, slice_get-get_or, slice_get_within}
use Rattle.kb_fields.specs.Fields.{StandsTwice}
use Rattle.kb_fields.specs.Generators.{most_generators, IsReserved, IsTaken, IsTakenAt, IsFirstTaken, AreGeneratorNames}
use Rattle.kb_record.proofs.BeforeLemmas.{has_place, place_of, stands_before, among_first}

-- a name that is taken is so among the names, and among the first of them where it is one of these
pub taken_among : (names : List (List ℕ)) (k j : ℕ) (name : List ℕ) → j < k → IsTakenAt names j name → IsTaken (take k names) name
taken_among names k j name h taken = of taken.taken
  where
    at : slice_get (take k names) j ≡ Some name
    at = among_first names k j name taken.stands h

    of : IsReserved name ⊎ Contains (take j names) name → IsTaken (take k names) name
    of (inl reserved) = inr (has_place (take k names) j name at, reserved)
    of (inr has) =
        let stands = stands_before names j has.0 name (place_of (take j names) name has) in
        let within : has.0 < k = omega (arith, stands.before, h) in
        inl (record { first = has.0; again = j; later = stands.before; at_first = among_first names k has.0 name stands.at within; at_again = at })

pub is_taken : (names : List (List ℕ)) (j : ℕ) (name : List ℕ) → IsTakenAt names j name → IsTaken names name
is_taken names j name taken = of taken.taken
  where
    of : IsReserved name ⊎ Contains (take j names) name → IsTaken names name
    of (inl reserved) = inr (has_place names j name taken.stands, reserved)
    of (inr has) =
        let stands = stands_before names j has.0 name (place_of (take j names) name has) in
        inl (record { first = has.0; again = j; later = stands.before; at_first = stands.at; at_again = taken.stands })

pub one_taken : (names : List (List ℕ)) (j : ℕ) (m n : List ℕ) → IsTakenAt names j m → IsTakenAt names j n → m ≡ n
one_taken names j m n a b = same_Some m n (sym a.stands ∙ b.stands)

abbrev texts : List (Bor (List ℕ)) → List (List ℕ)
texts names = map (λ (name : Bor (List ℕ)). name.now) names

module _ (xs : List (Bor (List ℕ))) (k : ℕ) (d : Bor (List ℕ)) (within : k < length xs) where
  text_at : slice_get (texts xs) k ≡ Some (get_or xs k d).now
  text_at = slice_get-map (λ (name : Bor (List ℕ)). name.now) xs k ∙ ap (option_map (λ (name : Bor (List ℕ)). name.now)) (slice_get-get_or xs k d within)

  -- the name at place k is reserved, or stands among those before it, of which none is taken
  pub first_taken : (names : List (List ℕ)) → names ≡ texts (take k xs) → AreGeneratorNames names
      → IsReserved (get_or xs k d).now ⊎ Contains names (get_or xs k d).now → IsFirstTaken (texts xs) (get_or xs k d).now
  first_taken names same are why =
      let among : names ≡ take k (texts xs) = same ∙ sym (take-map (λ (name : Bor (List ℕ)). name.now) k xs) in
      let Has : List (List ℕ) → Type 0 = λ ns. IsReserved (get_or xs k d).now ⊎ Contains ns (get_or xs k d).now in
      let Are : List (List ℕ) → Type 0 = λ ns. AreGeneratorNames ns in
      record {
        check = k;
        found = record { stands = text_at; taken = subst Has among why };
        first = λ j n h taken. (subst Are among are).free n (taken_among (texts xs) k j n h taken);
      }

-- a name that stands among these, or is the one behind them
place_cases : (names : List (List ℕ)) (last : List ℕ) (place : ℕ) (name : List ℕ) → slice_get (names ++ last ∷ []) place ≡ Some name
    → (slice_get names place ≡ Some name) ⊎ ((place ≡ length names) × (last ≡ name))
place_cases [] last zero name at = inr (refl, same_Some last name at)
place_cases [] last (suc place) name at = absurd (none-some name at)
place_cases (n ∷ names) last zero name at = inl at
place_cases (n ∷ names) last (suc place) name at =
    elim (place_cases names last place name at) [
      | inl among ↦ inl among
      | inr behind ↦ inr (ap suc behind.0, behind.1)
    ]

pub no_names : AreGeneratorNames []
no_names = record { few = omega arith; free = λ name. none name }
  where
    none : (name : List ℕ) → IsTaken [] name → ⊥
    none name (inl twice) = none-some name twice.at_first
    none name (inr reserved) = omega (arith, reserved.0.1)

-- one name more that isn't reserved and isn't there
module _ (names : List (List ℕ)) (last : List ℕ) (are : AreGeneratorNames names) (room : length names < most_generators)
    (free : ¬ IsReserved last) (new : ¬ Contains names last) where
  not_twice : (name : List ℕ) → StandsTwice (names ++ last ∷ []) name → ⊥
  not_twice name twice =
      elim (place_cases names last twice.again name twice.at_again) [
        | inl again ↦
            elim (place_cases names last twice.first name twice.at_first) [
              | inl first ↦ are.free name (inl (record { first = twice.first; again = twice.again; later = twice.later; at_first = first; at_again = again }))
              | inr first ↦ omega (arith, first.0, twice.later, slice_get_within names twice.again name again)
            ]
        | inr again ↦
            elim (place_cases names last twice.first name twice.at_first) [
              | inl first ↦ new (has_place names twice.first last (first ∙ ap Some (sym again.1)))
              | inr first ↦ omega (arith, first.0, again.0, twice.later)
            ]
      ]

  not_reserved : (name : List ℕ) → Contains (names ++ last ∷ []) name → IsReserved name → ⊥
  not_reserved name has reserved =
      elim (place_cases names last has.0 name (place_of (names ++ last ∷ []) name has)) [
        | inl among ↦ are.free name (inr (has_place names has.0 name among, reserved))
        | inr behind ↦ free (let P : List ℕ → Type 0 = λ text. IsReserved text in subst P (sym behind.1) reserved)
      ]

  pub one_name_more : AreGeneratorNames (names ++ last ∷ [])
  one_name_more =
      let count = length-append names (last ∷ []) in
      record { few = omega (arith, count, room); free = λ name. not_taken name }
    where
      not_taken : (name : List ℕ) → IsTaken (names ++ last ∷ []) name → ⊥
      not_taken name (inl twice) = not_twice name twice
      not_taken name (inr reserved) = not_reserved name reserved.0 reserved.1

-- the first of these names, and the next
pub texts_more : (xs : List (Bor (List ℕ))) (k : ℕ) (d : Bor (List ℕ)) (names more : List (List ℕ)) → k < length xs
    → names ≡ texts (take k xs) → more ≡ names ++ (get_or xs k d).now ∷ [] → more ≡ texts (take (k + 1) xs)
texts_more xs k d names more within are is =
    is ∙ ap (λ ns. ns ++ (get_or xs k d).now ∷ []) are ∙ sym (map-append (λ (name : Bor (List ℕ)). name.now) (take k xs) (get_or xs k d ∷ []))
    ∙ sym (ap texts (take_more xs k d within))

-- there is room for the next
pub room_for_one : (xs : List (Bor (List ℕ))) (k : ℕ) (names : List (List ℕ)) → k < length xs → names ≡ texts (take k xs)
    → length xs ≤ most_generators → length names < most_generators
room_for_one xs k names within same few =
    let count = ap length same ∙ length-map (take k xs) (λ (name : Bor (List ℕ)). name.now) ∙ length-take-le k xs (omega arith) in
    omega arith
