-- Where a name stands in a list of names, and lists that no name stands twice in.
use Rattle.std.proofs.Common.{◌≡◌, ◌≢◌, ℕ, zero, suc, ◌+◌, ◌<◌, ◌≤◌, List, [], ◌∷◌, ◌++◌, length, map, slice_get, get_or, Option, None, Some, Bool, true, false, cond, not, ◌||◌, nat_eq, nat_lt, refl, sym, ap, ◌∙◌, subst, inl, inr, true≢false, position, if◌then◌else◌, length-append, arith}
use Rattle.std.specs.Option.{option_map}
use Rattle.std.specs.List.{AllZip, Contains, IsDistinct, list_any, position_or_len}
use Rattle.std.specs.Cmp.Lexicographic.{pointwise, nat_list_eq_equiv}
use Rattle.std.proofs.lemmas.Bool.{cases_order, ltb-true}
use Rattle.std.proofs.lemmas.List.{length-map, map-append}
use Rattle.std.proofs.lemmas.List.Sums.{passes_at_first}
use Rattle.std.proofs.lemmas.Map.Keys.{apart_from_distinct}
use Rattle.std.proofs.lemmas.Map.Views.{list_any-from_Contains, Contains-from_any}
use Rattle.std.proofs.lemmas.Option.{cond_some, get_or_from_slice_get, none-some, same_Some, slice_get-get_or, slice_get-map, slice_get_within}
use Rattle.std.proofs.lemmas.Slice.Eq.{bytes_eq-Decides}
use Rattle.indexmap.specs.IndexSet.{insert_key}
use Rattle.kb_word.specs.Names.{name_of, AreApart}

abbrev same_text : List ℕ → List ℕ → Bool
same_text = pointwise nat_eq

name_at : (names : List (List ℕ)) (place x : ℕ) (name : List ℕ) → x ≡ place + 1 → slice_get names place ≡ Some name → name_of names x ≡ Some name
name_at names place x name e is =
    let next : suc place ≡ x = omega arith in
    let P : ℕ → Type 0 = λ y. name_of names y ≡ Some name in
    subst P next is

-- no letter before this one has the name
none_before : (names : List (List ℕ)) (place x : ℕ) (name : List ℕ) → AreApart names → x ≡ place + 1 → slice_get names place ≡ Some name
    → (earlier : ℕ) → earlier < x → name_of names earlier ≢ Some name
none_before names place x name apart e is zero h at = cc
none_before names place x name apart e is (suc earlier) h at =
    let same = apart earlier place name at is in omega (arith, same)

-- the name at the first place where a look-up finds it
place_found : (names : List (List ℕ)) (name : List ℕ) (place : ℕ) → position (same_text name) names ≡ Some place → slice_get names place ≡ Some name
place_found names name place e =
    let first = position_or_len (same_text name) names in
    let found = cond_some (nat_lt first (length names)) first place e in
    let within = ltb-true first (length names) found.0 in
    let is = (bytes_eq-Decides name (get_or names first [])).0 (passes_at_first (same_text name) names [] within) in
    ap (slice_get names) (sym found.1) ∙ slice_get-get_or names first [] within ∙ ap Some (sym is)

-- copies have the same names
pub names_copied : {X : Type 0} (f : X → List ℕ) (xs ys : List X) → AllZip (λ x y. f y ≡ f x) xs ys → map f ys ≡ map f xs
names_copied f [] [] same = refl
names_copied f [] (y ∷ ys) same = absurd same
names_copied f (x ∷ xs) [] same = absurd same
names_copied f (x ∷ xs) (y ∷ ys) same =
    let first = same.0 in
    let rest = names_copied f xs ys same.1 in
    cc

-- what a test of names says of the elements that have them
module _ {X : Type 0} (f : X → List ℕ) (test : List ℕ → Bool) where
  any_named : (xs : List X) → list_any (λ x. test (f x)) xs ≡ list_any test (map f xs)
  any_named [] = refl
  any_named (x ∷ xs) = ap (λ b. test (f x) || b) (any_named xs)

  first_named : (xs : List X) → position_or_len (λ x. test (f x)) xs ≡ position_or_len test (map f xs)
  first_named [] = refl
  first_named (x ∷ xs) = ap (λ k. cond (not (test (f x))) (1 + k) 0) (first_named xs)

  place_named : (xs : List X) → position (λ x. test (f x)) xs ≡ position test (map f xs)
  place_named xs =
      let first = first_named xs in
      let count = length-map xs f in
      (λ j. cond (nat_lt (first j) (sym count j)) (Some (first j)) None)

-- elements of an index set, each with a name
module _ {X : Type 0} (f : X → List ℕ) (xs : List X) where
  -- the letter after the place at which the set has the name
  module _ (name : List ℕ) (place x : ℕ) (found : position (λ y. same_text name (f y)) xs ≡ Some place) (next : x ≡ place + 1) where
    stands : slice_get (map f xs) place ≡ Some name
    stands = place_found (map f xs) name place (sym (place_named f (same_text name) xs) ∙ found)

    pub letter_named : name_of (map f xs) x ≡ Some name
    letter_named = name_at (map f xs) place x name next stands

    pub none_named_before : AreApart (map f xs) → (earlier : ℕ) → earlier < x → name_of (map f xs) earlier ≢ Some name
    none_named_before apart = none_before (map f xs) place x name apart next stands

  pub none_named : (name : List ℕ) → list_any (λ y. same_text name (f y)) xs ≡ false → ¬ Contains (map f xs) name
  none_named name missed has =
      true≢false (sym (list_any-from_Contains nat_list_eq_equiv name (map f xs) has) ∙ sym (any_named f (same_text name) xs) ∙ missed)

  pub one_named : (name : List ℕ) → list_any (λ y. same_text name (f y)) xs ≡ true → Contains (map f xs) name
  one_named name found =
      Contains-from_any (λ x y e. (bytes_eq-Decides x y).0 e) name (map f xs) (sym (any_named f (same_text name) xs) ∙ found)

  read_named : (place : ℕ) (name : List ℕ) → slice_get (map f xs) place ≡ Some name → (x : X) × (slice_get xs place ≡ Some x) × (f x ≡ name)
  read_named place name at = go (slice_get xs place) refl (sym (slice_get-map f xs place) ∙ at)
    where
      go : (o : Option X) → slice_get xs place ≡ o → option_map f o ≡ Some name → (x : X) × (slice_get xs place ≡ Some x) × (f x ≡ name)
      go None is e = absurd (none-some name e)
      go (Some x) is e = (x, is, same_Some (f x) name e)

  later_named : IsDistinct (λ x y. same_text (f x) (f y)) xs → (place other : ℕ) (name : List ℕ) → place < other
      → slice_get (map f xs) place ≡ Some name → slice_get (map f xs) other ≡ Some name → ⊥
  later_named distinct place other name less one two =
      let a = read_named place name one in
      let b = read_named other name two in
      let apart = apart_from_distinct _ xs place other a.0 distinct less (slice_get_within xs other b.0 b.1) in
      let P : X → Type 0 = λ x. same_text (f x) (f (get_or xs other a.0)) ≡ false in
      let Q : X → Type 0 = λ y. same_text (f a.0) (f y) ≡ false in
      let differ = subst Q (get_or_from_slice_get xs other b.0 a.0 b.1) (subst P (get_or_from_slice_get xs place a.0 a.0 a.1) apart) in
      true≢false (sym ((bytes_eq-Decides (f a.0) (f b.0)).1 (a.2 ∙ sym b.2)) ∙ differ)

  -- the elements of a set have different names
  pub apart_named : IsDistinct (λ x y. same_text (f x) (f y)) xs → AreApart (map f xs)
  apart_named distinct place other name one two =
      elim (cases_order place other) [
        | inl same ↦ same
        | inr differ ↦ elim differ [
          | inl less ↦ absurd (later_named distinct place other name less one two)
          | inr more ↦ absurd (later_named distinct other place name more two one)
        ]
      ]

-- a name is inserted into the set
module _ {X : Type 0} (f : X → List ℕ) (xs ys : List X) (x : X) (new : Bool)
    (is : new ≡ not (list_any (λ y. same_text (f x) (f y)) xs)) (keys : ys ≡ insert_key (λ y z. same_text (f y) (f z)) xs x) where
  has : new ≡ false → list_any (λ y. same_text (f x) (f y)) xs ≡ true
  has e = by (list_any (λ y. same_text (f x) (f y)) xs) refl
    where
      by : (b : Bool) → list_any (λ y. same_text (f x) (f y)) xs ≡ b → b ≡ true
      by true found = refl
      by false found = absurd (true≢false (sym (is ∙ ap not found) ∙ e))

  lacks : new ≡ true → list_any (λ y. same_text (f x) (f y)) xs ≡ false
  lacks e = by (list_any (λ y. same_text (f x) (f y)) xs) refl
    where
      by : (b : Bool) → list_any (λ y. same_text (f x) (f y)) xs ≡ b → b ≡ false
      by true found = absurd (true≢false (sym e ∙ is ∙ ap not found))
      by false found = refl

  added : new ≡ true → ys ≡ xs ++ x ∷ []
  added e = keys ∙ ap (λ b. if b then xs else xs ++ x ∷ []) (lacks e)

  kept : new ≡ false → ys ≡ xs
  kept e = keys ∙ ap (λ b. if b then xs else xs ++ x ∷ []) (has e)

  pub name_added : new ≡ true → (¬ Contains (map f xs) (f x)) × (map f ys ≡ map f xs ++ f x ∷ [])
  name_added e = (none_named f xs (f x) (lacks e), ap (map f) (added e) ∙ map-append f xs (x ∷ []))

  pub name_known : new ≡ false → Contains (map f xs) (f x) × (map f ys ≡ map f xs)
  name_known e = (one_named f xs (f x) (has e), ap (map f) (kept e))

  pub count_after : length ys ≤ length xs + 1
  count_after = by new refl
    where
      by : (b : Bool) → new ≡ b → length ys ≤ length xs + 1
      by true e = let longer : length ys ≡ length xs + 1 = ap length (added e) ∙ length-append xs (x ∷ []) in omega arith
      by false e = let same = ap length (kept e) in omega arith
