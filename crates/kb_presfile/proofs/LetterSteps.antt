-- Letters of names, place by place.
use Rattle.std.proofs.Common.{◌≡◌, ℕ, zero, suc, ◌+◌, ◌⊎◌, inl, inr, ◌<◌, List, [], ◌∷◌, ◌++◌, length, slice_get, get_or, Option, Some, None, IsSome, IsNone, refl, sym, ap, subst, ◌∙◌, arith}
use Rattle.std.proofs.lemmas.Bool.{false≢true}
use Rattle.std.proofs.lemmas.List.{length-append}
use Rattle.std.proofs.lemmas.Option.{slice_get-get_or}
use Rattle.kb_record.specs.Meaning.{letter_from}
use Rattle.kb_fields.specs.FirstFaults.{IsFirstFault}
use Rattle.kb_presfile.specs.Holds.{place_at, StandFor}
use Rattle.kb_presfile.specs.Faults.{PlaceIsUnknown}
use Rattle.kb_presfile.specs.declared.error.PresError.{PresError}

-- the letter is that of the name at the place
pub record IsLetterOf (names : List (List ℕ)) (place : Option (List ℕ)) (letter : Option ℕ) : Type 0 where
  pub empty : place ≡ None → IsNone letter
  pub some : (name : List ℕ) → place ≡ Some name → IsSome letter × (letter_from 1 names name ≡ letter)

-- the letters of the first places
pub record StandForFirst (names : List (List ℕ)) (places : List (Option (List ℕ))) (letters : List (Option ℕ)) (n : ℕ) : Type 0 where
  pub count : length letters ≡ n
  pub each : (k : ℕ) (letter : Option ℕ) → slice_get letters k ≡ Some letter → IsLetterOf names (place_at places k) letter

at_end : {A : Type 0} (xs : List A) (x : A) (k : ℕ) (y : A) → slice_get (xs ++ x ∷ []) k ≡ Some y → (slice_get xs k ≡ Some y) ⊎ ((k ≡ length xs) × (x ≡ y))
at_end [] x zero y e = inr (refl, cc)
at_end [] x (suc k) y e = cc
at_end (z ∷ xs) x zero y e = inl e
at_end {A} (z ∷ xs) x (suc k) y e = shift (at_end xs x k y e)
  where
    shift : (slice_get xs k ≡ Some y) ⊎ ((k ≡ length xs) × (x ≡ y)) → (slice_get (z ∷ xs) (suc k) ≡ Some y) ⊎ ((suc k ≡ length (z ∷ xs)) × (x ≡ y))
    shift (inl at) = inl at
    shift (inr end) = inr (ap suc end.0, end.1)

pub none_yet : (names : List (List ℕ)) (places : List (Option (List ℕ))) → StandForFirst names places [] 0
none_yet names places = record { count = refl; each = λ k letter at. cc }

pub one_more : (names : List (List ℕ)) (places : List (Option (List ℕ))) (letters : List (Option ℕ)) (n : ℕ) (letter : Option ℕ)
    → StandForFirst names places letters n → IsLetterOf names (place_at places n) letter → StandForFirst names places (letters ++ letter ∷ []) (n + 1)
one_more names places letters n letter first is = record {
  count = omega (arith, length-append letters (letter ∷ []), first.count);
  each = λ k other at. more k other (at_end letters letter k other at);
}
  where
    more : (k : ℕ) (other : Option ℕ) → (slice_get letters k ≡ Some other) ⊎ ((k ≡ length letters) × (letter ≡ other)) → IsLetterOf names (place_at places k) other
    more k other (inl at) = first.each k other at
    more k other (inr end) =
        let here : n ≡ k = sym first.count ∙ sym end.0 in
        let P : ℕ → Type 0 = λ j. IsLetterOf names (place_at places j) letter in
        let Q : Option ℕ → Type 0 = λ o. IsLetterOf names (place_at places k) o in
        subst Q end.1 (subst P here is)

pub all_stand : (names : List (List ℕ)) (places : List (Option (List ℕ))) (letters : List (Option ℕ)) (n : ℕ) → length names ≡ n
    → StandForFirst names places letters n → StandFor names places letters
all_stand names places letters n whole first = record {
  one_each = first.count ∙ sym whole;
  some = λ k name at within. some k name _ at (here k within) ((first.each k _ (here k within)).some name at);
  empty = λ k within at. empty k _ (here k within) ((first.each k _ (here k within)).empty at);
}
  where
    here : (k : ℕ) → k < length names → slice_get letters k ≡ Some (get_or letters k None)
    here k within = let inside : k < length letters = omega (arith, first.count) in slice_get-get_or letters k None inside

    some : (k : ℕ) (name : List ℕ) (letter : Option ℕ) → place_at places k ≡ Some name → slice_get letters k ≡ Some letter
        → IsSome letter × (letter_from 1 names name ≡ letter) → (x : ℕ) × (letter_from 1 names name ≡ Some x) × (slice_get letters k ≡ Some (Some x))
    some k name None at is given = cc
    some k name (Some x) at is given = (x, given.1, is)

    empty : (k : ℕ) (letter : Option ℕ) → slice_get letters k ≡ Some letter → IsNone letter → slice_get letters k ≡ Some None
    empty k None is none = is
    empty k (Some x) is none = cc

-- none of the first places has an unknown name
pub none_unknown_yet : (names : List (List ℕ)) (places : List (Option (List ℕ))) (letters : List (Option ℕ)) (n k : ℕ) (error : PresError)
    → StandForFirst names places letters n → k < n → PlaceIsUnknown names places k error → ⊥
none_unknown_yet names places letters n k error first before fault =
    is_none (get_or letters k None) ((first.each k (get_or letters k None) here).some fault.name fault.stands)
  where
    here : slice_get letters k ≡ Some (get_or letters k None)
    here = let inside : k < length letters = omega (arith, first.count, before) in slice_get-get_or letters k None inside

    is_none : (letter : Option ℕ) → IsSome letter × (letter_from 1 names fault.name ≡ letter) → ⊥
    is_none None given = false≢true given.0
    is_none (Some x) given = let never = sym given.1 ∙ fault.unknown in cc

-- the first place with an unknown name
pub first_unknown : (names : List (List ℕ)) (places : List (Option (List ℕ))) (letters : List (Option ℕ)) (n : ℕ) (error : PresError)
    → StandForFirst names places letters n → PlaceIsUnknown names places n error → IsFirstFault ◌<◌ (PlaceIsUnknown names places) error
first_unknown names places letters n error first fault = record {
  check = n;
  found = fault;
  first = λ k other before found. none_unknown_yet names places letters n k other first before found;
}
