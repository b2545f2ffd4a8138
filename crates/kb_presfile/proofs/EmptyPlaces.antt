-- Empty places behind a list of names and empty places change nothing of what it says.
use Rattle.std.proofs.Common.{◌≡◌, ℕ, zero, suc, ◌≤◌, ◌<◌, inl, inr, List, [], ◌∷◌, ◌++◌, length, replicate, Option, None, option_and_then, refl, sym, ap, ◌∙◌, arith}
use Rattle.std.proofs.lemmas.Option.{slice_get_past}
use Rattle.kb_fields.specs.FirstFaults.{IsFirstFault}
use Rattle.kb_presfile.specs.Holds.{place_at, GivesInverses}
use Rattle.kb_presfile.specs.Faults.{PlaceIsUnknown, IsNotMutual, PlacesHaveFault}
use Rattle.kb_presfile.specs.declared.error.PresError.{PresError}

empty_place_at : (more k : ℕ) → place_at (replicate more None) k ≡ None
empty_place_at zero k = refl
empty_place_at (suc more) zero = refl
empty_place_at (suc more) (suc k) = empty_place_at more k

pub place_at-behind : (places : List (Option (List ℕ))) (more k : ℕ) → place_at (places ++ replicate more None) k ≡ place_at places k
place_at-behind [] more k = empty_place_at more k
place_at-behind (place ∷ places) more zero = refl
place_at-behind (place ∷ places) more (suc k) = place_at-behind places more k

-- no name stands past the end
pub place_at-past : (places : List (Option (List ℕ))) (n k : ℕ) → length places ≤ n → n ≤ k → place_at places k ≡ None
place_at-past places n k few past = ap (option_and_then (λ found. found)) (slice_get_past places k (omega (arith, few, past)))

-- what a first fault is rests on what each check finds alone
first_same : (Has Other : ℕ → PresError → Type 0) → ((k : ℕ) (e : PresError) → Has k e → Other k e) → ((k : ℕ) (e : PresError) → Other k e → Has k e)
    → (e : PresError) → IsFirstFault ◌<◌ Has e → IsFirstFault ◌<◌ Other e
first_same Has Other to back e fault = record {
  check = fault.check;
  found = to fault.check e fault.found;
  first = λ k other before found. fault.first k other before (back k other found);
}

-- lists with the same at each place
module _ (names : List (List ℕ)) (xs ys : List (Option (List ℕ))) (same : (k : ℕ) → place_at xs k ≡ place_at ys k) where
  unknown_same : (k : ℕ) (e : PresError) → PlaceIsUnknown names xs k e → PlaceIsUnknown names ys k e
  unknown_same k e fault =
      record { name = fault.name; refused = fault.refused; stands = sym (same k) ∙ fault.stands; unknown = fault.unknown }

  not_mutual_same : (k : ℕ) (e : PresError) → IsNotMutual names xs k e → IsNotMutual names ys k e
  not_mutual_same k e fault = record {
    name = fault.name;
    refused = fault.refused;
    is_name = fault.is_name;
    inverse = fault.inverse;
    y = fault.y;
    at_k = sym (same k) ∙ fault.at_k;
    is_y = fault.is_y;
    not_back = λ back at. fault.not_back back (same fault.y ∙ at);
  }

  pub gives_same : (inverses : List (Option ℕ)) → GivesInverses names xs inverses → GivesInverses names ys inverses
  gives_same inverses gives = record {
    letters = record {
      one_each = gives.letters.one_each;
      some = λ k name at. gives.letters.some k name (same k ∙ at);
      empty = λ k within at. gives.letters.empty k within (same k ∙ at);
    };
    none_past = λ k past. sym (same k) ∙ gives.none_past k past;
    both_ways = gives.both_ways;
  }

pub fault_same : (names : List (List ℕ)) (xs ys : List (Option (List ℕ))) → ((k : ℕ) → place_at xs k ≡ place_at ys k) → (e : PresError)
    → PlacesHaveFault names xs e → PlacesHaveFault names ys e
fault_same names xs ys same e fault = of fault
  where
    unknown_back : (k : ℕ) (other : PresError) → PlaceIsUnknown names ys k other → PlaceIsUnknown names xs k other
    unknown_back = unknown_same names ys xs (λ k. sym (same k))

    of : PlacesHaveFault names xs e → PlacesHaveFault names ys e
    of (inl unknown) =
        inl (first_same (PlaceIsUnknown names xs) (PlaceIsUnknown names ys) (unknown_same names xs ys same) unknown_back e unknown)
    of (inr sided) = inr (
      λ k other found. sided.0 k other (unknown_back k other found),
      first_same (IsNotMutual names xs) (IsNotMutual names ys) (not_mutual_same names xs ys same) (not_mutual_same names ys xs (λ k. sym (same k))) e sided.1,
    )
