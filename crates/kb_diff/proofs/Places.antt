-- The differences of two words at all places.
use Rattle.std.proofs.Common.{◌≡◌, ℕ, zero, suc, ◌+◌, ◌<◌, ◌≤◌, List, [], ◌∷◌, ◌++◌, length, take, get_or, slice_get, Some, All, refl, sym, ap, ◌∙◌, subst, inl, inr, ◌⊎◌, length-append, arith}
use Rattle.std.specs.List.{Contains}
use Rattle.std.proofs.lemmas.Option.{none-some, same_Some, slice_get-get_or}
use Rattle.std.proofs.lemmas.List.Elements.{All-contains, Contains-get_or}
use Rattle.std.proofs.lemmas.Bool.{cases_lt}
use Rattle.std.proofs.lemmas.List.{take_all}
use Rattle.kb_word.specs.Words.{OneOf}
use Rattle.kb_word.specs.Relations.{inverse_word}
use Rattle.kb_word.specs.Rewriting.{IsIrreducible, NormalForm}
use Rattle.kb_rules.proofs.Unique.{normal_form_unique, normal_form_of_irreducible}
use Rattle.kb_diff.specs.Groups.{Group}
use Rattle.kb_diff.specs.Differences.{IsDifference, AreFirstDifferences, HaveDifferences, last_place}

abbrev Words : Type 0
Words = List (List ℕ)

-- two words have one difference at a place
pub one_difference : (group : Group) (u v : List ℕ) (place : ℕ) (d e : List ℕ) → IsDifference group u v place d → IsDifference group u v place e → d ≡ e
one_difference group u v place d e one other =
    let same : one.inverse ≡ other.inverse = same_Some one.inverse other.inverse (sym one.inverts ∙ other.inverts) in
    let P : List ℕ → Type 0 = λ w. NormalForm group.rules (w ++ take place v) d in
    normal_form_unique (subst P same one.normal) other.normal

-- past the last place the difference is the same
pub difference_past : (group : Group) (u v : List ℕ) (place later : ℕ) (d : List ℕ) → length u ≤ place → length v ≤ place → place ≤ later
    → IsDifference group u v later d → IsDifference group u v place d
difference_past group u v place later d first second past is =
    let front = take_all later u (omega arith) ∙ sym (take_all place u first) in
    let other = take_all later v (omega arith) ∙ sym (take_all place v second) in
    let P : List ℕ → Type 0 = λ w. NormalForm group.rules (is.inverse ++ w) d in record {
      inverse = is.inverse;
      inverts = ap (inverse_word group.inverses) (sym front) ∙ is.inverts;
      normal = subst P other is.normal;
    }

-- two empty words have the empty difference alone
pub difference_empty : (group : Group) (place : ℕ) (d : List ℕ) → IsIrreducible (OneOf group.rules) [] → IsDifference group [] [] place d → d ≡ []
difference_empty group place d empty is =
    let front : take place [] ≡ [] = take_all place [] (omega arith) in
    let none : inverse_word group.inverses (take place []) ≡ Some [] = ap (inverse_word group.inverses) front in
    let inverse : is.inverse ≡ [] = same_Some is.inverse [] (sym is.inverts ∙ none) in
    let whole : is.inverse ++ take place [] ≡ [] = ap (λ (w : List ℕ). w ++ take place []) inverse ∙ front in
    let P : List ℕ → Type 0 = λ w. NormalForm group.rules w d in
    normal_form_of_irreducible empty (subst P whole is.normal)

pub nothing_left : (w : List ℕ) → length w ≡ 0 → w ≡ []
nothing_left [] e = refl
nothing_left (x ∷ w) e = absurd (omega arith)

-- ---- the list of the differences

pub no_differences : (group : Group) (u v : List ℕ) → AreFirstDifferences group u v 0 []
no_differences group u v = record { one_each = refl; each = λ index d at. absurd (none-some d at) }

pub push_at : {X : Type 0} (xs : List X) (y : X) (index : ℕ) (x : X) → slice_get (xs ++ y ∷ []) index ≡ Some x
    → (slice_get xs index ≡ Some x) ⊎ ((index ≡ length xs) × (x ≡ y))
push_at [] y zero x at = inr (refl, sym (same_Some y x at))
push_at [] y (suc index) x at = absurd (none-some x at)
push_at (z ∷ xs) y zero x at = inl at
push_at (z ∷ xs) y (suc index) x at =
    elim (push_at xs y index x at) [
      | inl old ↦ inl old
      | inr new ↦ inr (ap suc new.0, new.1)
    ]

pub differences_more : (group : Group) (u v : List ℕ) (count next : ℕ) (differences : Words) (d : List ℕ) → next ≡ count + 1
    → AreFirstDifferences group u v count differences → IsDifference group u v next d
    → AreFirstDifferences group u v next (differences ++ d ∷ [])
differences_more group u v count next differences d is so_far last = record {
  one_each = let long = length-append differences (d ∷ []) in let each = so_far.one_each in omega arith;
  each = λ index e at. elim (push_at differences d index e at) [
    | inl old ↦ so_far.each index e old
    | inr new ↦
        let each = so_far.one_each in
        let number : next ≡ suc index = omega (arith, new.0) in
        let P : ℕ → Type 0 = λ k. IsDifference group u v k d in
        let Q : List ℕ → Type 0 = λ w. IsDifference group u v (suc index) w in
        subst Q (sym new.1) (subst P number last)
  ];
}

item_kept : {X : Type 0} (xs : List X) (y : X) (index : ℕ) (x : X) → slice_get xs index ≡ Some x → slice_get (xs ++ y ∷ []) index ≡ Some x
item_kept [] y index x at = absurd (none-some x at)
item_kept (z ∷ xs) y zero x at = at
item_kept (z ∷ xs) y (suc index) x at = item_kept xs y index x at

pub last_item : {X : Type 0} (xs : List X) (y : X) → slice_get (xs ++ y ∷ []) (length xs) ≡ Some y
last_item [] y = refl
last_item (x ∷ xs) y = last_item xs y

-- those before the last one
pub differences_before : (group : Group) (u v : List ℕ) (count : ℕ) (before : Words) (word : List ℕ) → AreFirstDifferences group u v count (before ++ word ∷ [])
    → AreFirstDifferences group u v (length before) before
differences_before group u v count before word are =
    record { one_each = refl; each = λ index d at. are.each index d (item_kept before word index d at) }

module _ (group : Group) (u v : List ℕ) (count : ℕ) (differences : Words) (are : AreFirstDifferences group u v count differences) where
  -- the difference at a place is in the list
  pub at_place : (index : ℕ) (d : List ℕ) → index < count → IsDifference group u v (suc index) d → Contains differences d
  at_place index d within is =
      let each = are.one_each in
      let inside : index < length differences = omega arith in
      let here = are.each index (get_or differences index d) (slice_get-get_or differences index d inside) in
      let P : List ℕ → Type 0 = λ w. Contains differences w in
      subst P (one_difference group u v (suc index) (get_or differences index d) d here is) (Contains-get_or differences index d inside)

  pub all_from_have : (words : Words) → HaveDifferences group words u v → All (Contains words) differences
  all_from_have words have k d within =
      have (suc k) (get_or differences k d) (omega arith) (are.each k (get_or differences k d) (slice_get-get_or differences k d within))

  -- where the list goes up to the last place and its words are there, the difference at each place is
  module _ (up_to : count ≡ last_place u v) where
    past_last : (words : Words) (last index : ℕ) (d : List ℕ) → Contains words [] → IsIrreducible (OneOf group.rules) [] → All (Contains words) differences
        → last ≡ last_place u v → last ≤ index → IsDifference group u v (suc index) d → Contains words d
    past_last words zero index d has_empty empty all e past is =
        let first : u ≡ [] = nothing_left u (omega (arith, e)) in
        let second : v ≡ [] = nothing_left v (omega (arith, e)) in
        let P : List ℕ → Type 0 = λ w. IsDifference group w v (suc index) d in
        let Q : List ℕ → Type 0 = λ w. IsDifference group [] w (suc index) d in
        let R : List ℕ → Type 0 = λ w. Contains words w in
        subst R (sym (difference_empty group (suc index) d empty (subst Q second (subst P first is)))) has_empty
    past_last words (suc last) index d has_empty empty all e past is =
        let back = difference_past group u v (suc last) (suc index) d (omega (arith, e)) (omega (arith, e)) (omega arith) is in
        All-contains (Contains words) differences d all (at_place last d (omega (arith, e, up_to)) back)

    pub have_from_all : (words : Words) → Contains words [] → IsIrreducible (OneOf group.rules) [] → All (Contains words) differences
        → HaveDifferences group words u v
    have_from_all words has_empty empty all zero d positive is = absurd (omega arith)
    have_from_all words has_empty empty all (suc index) d positive is = elim (cases_lt index count) [
      | inl within ↦ All-contains (Contains words) differences d all (at_place index d within is)
      | inr past ↦ past_last words count index d has_empty empty all up_to past is
    ]
