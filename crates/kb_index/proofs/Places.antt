-- The least of some numbers, and the first of the places that have them.
use Rattle.std.proofs.Common.{◌≡◌, ℕ, ◌+◌, ◌<◌, ◌≤◌, List, [], length, get_or, Option, Some, None, nat_cmp, sym, ap, ◌∙◌, subst, inl, inr, arith}
use Rattle.std.proofs.lemmas.Bool.{cases_lt}
use Rattle.std.proofs.lemmas.Option.{get_or_from_slice_get, slice_get-get_or, slice_get_within}
use Rattle.std.proofs.lemmas.List.Sorted.{searched}
use Rattle.std.specs.List.Sorted.{IsBinarySearchResult}
use Rattle.std.specs.Prelude.{Result, Ok, Err}
use Rattle.std.specs.Result.{result_ok}
use Rattle.kb_trie.specs.States.{word}
use Rattle.kb_trie.specs.LeftSides.{AreLefts, HasAt, HasEnding, IsLeast, IsLeastOf}
use Rattle.kb_trie.specs.LeftSides.{IsLongestLeft as IsLongestNumbered}
use Rattle.kb_index.specs.Automata.{AreNumbers, Rise, listed}
use Rattle.kb_index.specs.Lefts.{AreStates, EndsAt, IsLongestLeft, StandsAt}
use Rattle.kb_index.proofs.Listing.{left_there, listed_at, listed_length, same_place}

-- the number of a left side at a place
pub number_at : (lefts : List (Option (List ℕ))) (numbers : List ℕ) → AreNumbers lefts numbers → (left : List ℕ) (place : ℕ)
    → StandsAt (listed lefts numbers) left place → (place < length numbers) × HasAt lefts left (get_or numbers place 0)
number_at lefts numbers are left place stands =
    let within : place < length numbers =
    omega (arith, slice_get_within (listed lefts numbers) place left stands, listed_length lefts numbers) in
    let has = are.has place within in
    let same : has.0 ≡ left =
    sym (left_there lefts has.0 (get_or numbers place 0) has.1) ∙ sym (listed_at lefts numbers place within)
    ∙ get_or_from_slice_get (listed lefts numbers) place left [] stands in
    (within, has.1 ∙ ap (λ (l : List ℕ). Some l) same)

-- the left side at the place of a number
pub stands_at : (lefts : List (Option (List ℕ))) (numbers : List ℕ) (left : List ℕ) (place : ℕ) → place < length numbers
    → HasAt lefts left (get_or numbers place 0) → StandsAt (listed lefts numbers) left place
stands_at lefts numbers left place within has =
    slice_get-get_or (listed lefts numbers) place [] (omega (arith, within, listed_length lefts numbers))
    ∙ ap (λ (l : List ℕ). Some l) (listed_at lefts numbers place within ∙ left_there lefts left (get_or numbers place 0) has)

pub has_place : (lefts : List (Option (List ℕ))) (numbers : List ℕ) → AreNumbers lefts numbers → (left : List ℕ) (number : ℕ)
    → HasAt lefts left number → (place : ℕ) × (place < length numbers) × (get_or numbers place 0 ≡ number) × StandsAt (listed lefts numbers) left place
has_place lefts numbers are left number has =
    let at = are.all number left has in
    (at.0, at.1, at.2, stands_at lefts numbers left at.0 at.1 (subst (HasAt lefts left) (sym at.2) has))

pub are_states : (words : List (List ℕ)) (lefts : List (Option (List ℕ))) (numbers : List ℕ) → AreNumbers lefts numbers
    → AreLefts words lefts → AreStates words (listed lefts numbers)
are_states words lefts numbers numbered are =
    record {
      states = λ place left stands. are.states (get_or numbers place 0) left (number_at lefts numbers numbered left place stands).1;
      some = λ place stands. are.some (get_or numbers place 0) (number_at lefts numbers numbered [] place stands).1;
    }

pub longest_listed : (words : List (List ℕ)) (lefts : List (Option (List ℕ))) (numbers : List ℕ) → AreNumbers lefts numbers → (state end : ℕ)
    → IsLongestNumbered words lefts state end → IsLongestLeft words (listed lefts numbers) state end
longest_listed words lefts numbers numbered state end is =
    record {
      within = is.within;
      ends = is.ends;
      left = λ some.
          let has = is.left some in
          let at = has_place lefts numbers numbered (word words end) has.0 has.1 in
          (at.0, at.3);
      longest = λ place left stands ends. is.longest (get_or numbers place 0) left (number_at lefts numbers numbered left place stands).1 ends;
    }

-- numbers from `first` on that are these, and places from `from` on that are those
pub record Places (numbers : List ℕ) (these those : ℕ → Type 0) (first from : ℕ) : Type 0 where
  pub rise : Rise numbers
  pub there : (place : ℕ) → those place → (place < length numbers) × these (get_or numbers place 0)
  pub back : (place : ℕ) → place < length numbers → these (get_or numbers place 0) → those place
  pub all : (number : ℕ) → these number → (place : ℕ) × (place < length numbers) × (get_or numbers place 0 ≡ number)
  pub behind : (place : ℕ) → place < length numbers → from ≤ place → first ≤ get_or numbers place 0
  pub before : (place : ℕ) → place < length numbers → first ≤ get_or numbers place 0 → from ≤ place

pub none_there : (numbers : List ℕ) (these those : ℕ → Type 0) (first from : ℕ) → Places numbers these those first from
    → IsLeastOf these first None → IsLeastOf those from None
none_there numbers these those first from places none = λ place later is.
    let there = places.there place is in
    none (get_or numbers place 0) (places.behind place there.0 later) there.1

pub least_there : (numbers : List ℕ) (these those : ℕ → Type 0) (first from number : ℕ) (answer : Option ℕ)
    → Places numbers these those first from → IsLeastOf these first (Some number)
    → ((place : ℕ) → place < length numbers → get_or numbers place 0 ≡ number → answer ≡ Some place) → IsLeastOf those from answer
least_there numbers these those first from number answer places least told =
    let at = places.all number least.is in
    let is_first : IsLeast those from at.0 =
    record {
      behind = places.before at.0 at.1 (omega (arith, least.behind, at.2));
      is = places.back at.0 at.1 (subst these (sym at.2) least.is);
      least = λ other later is.
          let there = places.there other is in
          elim (cases_lt other at.0) [
            | inl less ↦
                omega (
                  arith,
                  at.2,
                  places.rise other at.0 less at.1,
                  least.least (get_or numbers other 0) (places.behind other there.0 later) there.1,
                )
            | inr more ↦ more
          ];
    } in
    subst (IsLeastOf those from) (sym (told at.0 at.1 at.2)) is_first

pub places_ending : (lefts : List (Option (List ℕ))) (numbers : List ℕ) → AreNumbers lefts numbers → (w : List ℕ)
    → Places numbers (HasEnding lefts w) (EndsAt (listed lefts numbers) w) 0 0
places_ending lefts numbers are w =
    record {
      rise = are.rise;
      there = λ place is.
          let at = number_at lefts numbers are is.left place is.stands in
          (at.0, record { left = is.left; has = at.1; ends = is.ends });
      back = λ place within is.
          record { left = is.left; stands = stands_at lefts numbers is.left place within is.has; ends = is.ends };
      all = λ number is. are.all number is.left is.has;
      behind = λ place within later. omega arith;
      before = λ place within later. omega arith;
    }

pub places_standing : (lefts : List (Option (List ℕ))) (numbers : List ℕ) → AreNumbers lefts numbers → (left : List ℕ)
    → Places numbers (HasAt lefts left) (StandsAt (listed lefts numbers) left) 0 0
places_standing lefts numbers are left =
    record {
      rise = are.rise;
      there = λ place is. number_at lefts numbers are left place is;
      back = λ place within is. stands_at lefts numbers left place within is;
      all = λ number is. are.all number left is;
      behind = λ place within later. omega arith;
      before = λ place within later. omega arith;
    }

pub places_behind : (lefts : List (Option (List ℕ))) (numbers : List ℕ) → AreNumbers lefts numbers → (left : List ℕ) (place : ℕ)
    → place < length numbers → Places numbers (HasAt lefts left) (StandsAt (listed lefts numbers) left) (get_or numbers place 0 + 1) (place + 1)
places_behind lefts numbers are left place here =
    record {
      rise = are.rise;
      there = λ other is. number_at lefts numbers are left other is;
      back = λ other within is. stands_at lefts numbers left other within is;
      all = λ number is. are.all number left is;
      behind = λ other within later. omega (arith, are.rise place other (omega (arith, later)) within);
      before = λ other within later.
          elim (cases_lt place other) [
            | inl less ↦ omega (arith, less)
            | inr more ↦ elim (cases_lt other place) [
              | inl less ↦ omega (arith, later, are.rise other place less here)
              | inr equal ↦
                  let same : other ≡ place = omega (arith, more, equal) in
                  omega (arith, later, ap (λ (n : ℕ). get_or numbers n 0) same)
            ]
          ];
    }

rise_equal : (numbers : List ℕ) → Rise numbers → (i j : ℕ) → i ≤ j → j < length numbers → get_or numbers i 0 ≤ get_or numbers j 0
rise_equal numbers rise i j upto within =
    elim (cases_lt i j) [
      | inl less ↦ omega (arith, rise i j less within)
      | inr more ↦ let same : i ≡ j = omega (arith, upto, more) in omega (arith, ap (λ (n : ℕ). get_or numbers n 0) same)
    ]

-- a number that has a place is found there
pub found_place : (numbers : List ℕ) (number : ℕ) (found : Result ℕ ℕ) → Rise numbers
    → IsBinarySearchResult (λ y. nat_cmp y number) numbers found → (place : ℕ) → place < length numbers → get_or numbers place 0 ≡ number
    → result_ok found ≡ Some place
found_place numbers number (Ok other) rise is place within at =
    let there = searched numbers number (Ok other) is (rise_equal numbers rise) in
    ap (λ (n : ℕ). Some n) (same_place numbers rise other place there.0 within (there.1 ∙ sym at))
found_place numbers number (Err other) rise is place within at =
    let there = searched numbers number (Err other) is (rise_equal numbers rise) in
    elim (cases_lt place other) [
      | inl less ↦ absurd (omega (arith, there.1 place less, at))
      | inr more ↦ absurd (omega (arith, there.2 place more within, at))
    ]
