-- The letters of names at places, and whether they are mutual.
use Rattle.std.proofs.Common.{◌≡◌, ◌≢◌, ℕ, zero, suc, ◌+◌, ◌<◌, ◌≤◌, Bool, true, false, nat_eq, if◌then◌else◌, List, [], ◌∷◌, length, slice_get, Option, Some, None, option_and_then, refl, sym, ap, ◌∙◌, arith}
use Rattle.std.specs.Cmp.Lexicographic.{pointwise}
use Rattle.std.proofs.lemmas.Option.{slice_get_within}
use Rattle.kb_word.specs.Relations.{inverse_letter}
use Rattle.kb_fields.specs.FirstFaults.{IsFirstFault}
use Rattle.kb_record.specs.Meaning.{letter_from}
use Rattle.kb_presfile.specs.Holds.{place_at, StandFor}
use Rattle.kb_presfile.specs.Faults.{IsNotMutual, IsOneSided}
use Rattle.kb_presfile.specs.declared.error.PresError.{PresError}
use Rattle.kb_presfile.specs.declared.error.PresError.TheVariants as errors

pub same_text : {a b : List ℕ} → Some a ≡ Some b → a ≡ b
same_text e = cc

some_same : {a b : ℕ} → Some a ≡ Some b → a ≡ b
some_same e = cc

twice_some : {a b : ℕ} → Some (Some a) ≡ Some (Some b) → a ≡ b
twice_some e = cc

twice_none : {b : ℕ} → Some None ≡ Some (Some b) → ⊥
twice_none e = cc

-- a name's letter is one of the generators
pub letter_within : (b : ℕ) (names : List (List ℕ)) (name : List ℕ) (x : ℕ) → letter_from b names name ≡ Some x → (b ≤ x) × (x < b + length names)
letter_within b [] name x e = cc
letter_within b (n ∷ names) name x e = go (pointwise nat_eq n name) e (letter_within (suc b) names name x)
  where
    go : (t : Bool) → (if t then Some b else letter_from (suc b) names name) ≡ Some x
        → (letter_from (suc b) names name ≡ Some x → (suc b ≤ x) × (x < suc b + length names)) → (b ≤ x) × (x < b + length (n ∷ names))
    go true here later = let is : b ≡ x = some_same here in (omega (arith, is), omega (arith, is))
    go false here later = let rest = later here in (omega (arith, rest.0), omega (arith, rest.1))

pub inverse_read : (inverses : List (Option ℕ)) (k y : ℕ) → inverse_letter inverses (suc k) ≡ Some y → slice_get inverses k ≡ Some (Some y)
inverse_read inverses k y e = go (slice_get inverses k) refl e
  where
    go : (o : Option (Option ℕ)) → slice_get inverses k ≡ o → option_and_then (λ inverse. inverse) o ≡ Some y → slice_get inverses k ≡ Some (Some y)
    go None is e = cc
    go (Some o) is e = is ∙ ap Some e

pub inverse_is : (inverses : List (Option ℕ)) (k y : ℕ) → slice_get inverses k ≡ Some (Some y) → inverse_letter inverses (suc k) ≡ Some y
inverse_is inverses k y e = ap (option_and_then (λ inverse. inverse)) e

-- a generator whose inverse doesn't have it as its inverse, as the places say
pub not_mutual : (names : List (List ℕ)) (places : List (Option (List ℕ))) (inverses : List (Option ℕ)) (k : ℕ) (name : List ℕ)
    → StandFor names places inverses → IsOneSided names inverses k name → IsNotMutual names places k (errors.InverseNotMutual name)
not_mutual names places inverses k name stand sided = at_place (place_at places k) refl
  where
    within : k < length names
    within = slice_get_within names k name sided.is_name

    stands : slice_get inverses k ≡ Some (Some sided.y)
    stands = inverse_read inverses k sided.y sided.inverse

    at_letter : (inverse : List ℕ) (x y : ℕ) → place_at places k ≡ Some inverse → letter_from 1 names inverse ≡ Some x → x ≡ y → inverse_letter inverses y ≢ Some (suc k)
        → IsNotMutual names places k (errors.InverseNotMutual name)
    at_letter inverse x zero at letter same not_back = absurd (omega (arith, same, (letter_within 1 names inverse x letter).0))
    at_letter inverse x (suc y) at letter same not_back = record {
      name = name;
      refused = refl;
      is_name = sided.is_name;
      inverse = inverse;
      y = y;
      at_k = at;
      is_y = letter ∙ ap Some same;
      not_back = λ back at_y is_k.
          let inside : y < length names = omega (arith, same, (letter_within 1 names inverse x letter).1) in
          let found = stand.some y back at_y inside in
          not_back (inverse_is inverses y (suc k) (found.2 ∙ ap Some (sym found.1 ∙ is_k)));
    }

    at_name : (inverse : List ℕ) → place_at places k ≡ Some inverse
        → (x : ℕ) × (letter_from 1 names inverse ≡ Some x) × (slice_get inverses k ≡ Some (Some x)) → IsNotMutual names places k (errors.InverseNotMutual name)
    at_name inverse at found = at_letter inverse found.0 sided.y at found.1 (twice_some (sym found.2 ∙ stands)) sided.not_back

    at_place : (o : Option (List ℕ)) → place_at places k ≡ o → IsNotMutual names places k (errors.InverseNotMutual name)
    at_place None at = absurd (twice_none (sym (stand.empty k within at) ∙ stands))
    at_place (Some inverse) at = at_name inverse at (stand.some k inverse at within)

-- the same the other way round, as the letters say
pub one_sided : (names : List (List ℕ)) (places : List (Option (List ℕ))) (inverses : List (Option ℕ)) (k : ℕ) (error : PresError)
    → StandFor names places inverses → (fault : IsNotMutual names places k error) → IsOneSided names inverses k fault.name
one_sided names places inverses k error stand fault = record {
  y = suc fault.y;
  is_name = fault.is_name;
  inverse = at_letter (stand.some k fault.inverse fault.at_k within);
  not_back = λ back. at_place (place_at places fault.y) refl (inverse_read inverses fault.y (suc k) back);
}
  where
    within : k < length names
    within = slice_get_within names k fault.name fault.is_name

    inside : fault.y < length names
    inside = let bounds = letter_within 1 names fault.inverse (suc fault.y) fault.is_y in omega (arith, bounds.1)

    at_letter : (x : ℕ) × (letter_from 1 names fault.inverse ≡ Some x) × (slice_get inverses k ≡ Some (Some x)) → inverse_letter inverses (suc k) ≡ Some (suc fault.y)
    at_letter x = inverse_is inverses k (suc fault.y) (x.2 ∙ ap Some (sym x.1 ∙ fault.is_y))

    at_place : (o : Option (List ℕ)) → place_at places fault.y ≡ o → slice_get inverses fault.y ≡ Some (Some (suc k)) → ⊥
    at_place None at is = let never = sym (stand.empty fault.y inside at) ∙ is in cc
    at_place (Some back) at is =
        let x = stand.some fault.y back at inside in
        let same : x.0 ≡ suc k = twice_some (sym x.2 ∙ is) in
        fault.not_back back at (x.1 ∙ ap Some same)

-- the first such generator
pub first_not_mutual : (names : List (List ℕ)) (places : List (Option (List ℕ))) (inverses : List (Option ℕ)) (name : List ℕ)
    → StandFor names places inverses → IsFirstFault ◌<◌ (IsOneSided names inverses) name
    → IsFirstFault ◌<◌ (IsNotMutual names places) (errors.InverseNotMutual name)
first_not_mutual names places inverses name stand fault = record {
  check = fault.check;
  found = not_mutual names places inverses fault.check name stand fault.found;
  first = λ k other before found. fault.first k found.name before (one_sided names places inverses k other stand found);
}
