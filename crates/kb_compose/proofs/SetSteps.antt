-- A set more among those of places.
use Rattle.std.proofs.Common.{◌≡◌, ◌⊎◌, ℕ, ◌+◌, ◌<◌, ◌≤◌, Bool, true, false, nat_eq, List, [], ◌∷◌, ◌++◌, length, get_or, slice_get, take, drop, map, Contains, Some, refl, sym, ap, subst, ◌∙◌, inl, inr, arith, if◌then◌else◌, take-append-drop, true≢false}
use Rattle.std.specs.Cmp.Lexicographic.{pointwise, nat_list_eq_equiv}
use Rattle.std.specs.List.{All, IsDistinct, list_any}
use Rattle.std.proofs.lemmas.Bool.{cases_order}
use Rattle.std.proofs.lemmas.List.{take_more, take_all, length-map}
use Rattle.std.proofs.lemmas.Map.Keys.{apart_from_distinct}
use Rattle.std.proofs.lemmas.List.Elements.{All-nil, All-cons, All-push, All-weaker, Contains-push, Contains-append_left}
use Rattle.std.proofs.lemmas.Option.{get_or_from_slice_get, slice_get_within}
use Rattle.indexmap.specs.IndexSet.{insert_key}
use Rattle.kb_word.specs.Comparison.{same_from_pointwise}
use Rattle.kb_fsadet.proofs.Sets.{Contains-here, Contains-there}
use Rattle.kb_explore.specs.Progress.{AreDistinct}
use Rattle.kb_compose.specs.declared.place.Place.{Place}
use Rattle.kb_compose.specs.Progress.{AreSetsOf, HaveFewSets, HaveMoreSets}

-- the set is that of one of the places
abbrev IsSetOfOne : List Place → List ℕ → Type 0
IsSetOfOne places set = (place : Place) × (Contains places place × (place.pairs ≡ set))

apart_at : (sets : List (List ℕ)) → IsDistinct (pointwise nat_eq) sets → (place other : ℕ) (set : List ℕ) → place < other
    → slice_get sets place ≡ Some set → slice_get sets other ≡ Some set → ⊥
apart_at sets unique place other set less one two =
    let apart = apart_from_distinct (pointwise nat_eq) sets place other set unique less (slice_get_within sets other set two) in
    let P : List ℕ → Type 0 = λ x. pointwise nat_eq x (get_or sets other set) ≡ false in
    let Q : List ℕ → Type 0 = λ x. pointwise nat_eq set x ≡ false in
    true≢false (sym (nat_list_eq_equiv.refl set)
    ∙ subst Q (get_or_from_slice_get sets other set set two) (subst P (get_or_from_slice_get sets place set set one) apart))

-- keys of a set are apart
distinct_sets : (sets : List (List ℕ)) → IsDistinct (pointwise nat_eq) sets → AreDistinct sets
distinct_sets sets unique place other set one two =
    elim (cases_order place other) [
      | inl same ↦ same
      | inr differ ↦ elim differ [
        | inl less ↦ absurd (apart_at sets unique place other set less one two)
        | inr more ↦ absurd (apart_at sets unique other place set more two one)
      ]
    ]

pub no_sets : (sets : List (List ℕ)) → sets ≡ [] → AreSetsOf [] sets
no_sets sets none =
    let P : List (List ℕ) → Type 0 = λ l. AreSetsOf [] l in
    subst P (sym none) (record {
      distinct = λ place other state one two. absurd (omega (arith, slice_get_within [] place state one));
      all = All-nil (λ (place : Place). Contains [] place.pairs);
      sound = All-nil (IsSetOfOne []);
    })

module _ (places : List Place) (index : ℕ) (d : Place) (within : index < length places) (sets sets' : List (List ℕ)) (set : List ℕ)
    (are : AreSetsOf (take index places) sets) (same : set ≡ (get_or places index d).pairs)
    (keys : sets' ≡ insert_key (pointwise nat_eq) sets set) (unique : IsDistinct (pointwise nat_eq) sets')
    (place : ℕ) (stored : (k : List ℕ) × (slice_get sets' place ≡ Some k) × (pointwise nat_eq set k ≡ true)) where
  inserted : (sets' ≡ sets) ⊎ (sets' ≡ sets ++ set ∷ [])
  inserted = by (list_any (pointwise nat_eq set) sets) refl
    where
      by : (b : Bool) → list_any (pointwise nat_eq set) sets ≡ b → (sets' ≡ sets) ⊎ (sets' ≡ sets ++ set ∷ [])
      by true e = inl (keys ∙ ap (λ b. if b then sets else sets ++ set ∷ []) e)
      by false e = inr (keys ∙ ap (λ b. if b then sets else sets ++ set ∷ []) e)

  kept : (x : List ℕ) → Contains sets x → Contains sets' x
  kept x at =
      let P : List (List ℕ) → Type 0 = λ l. Contains l x in
      elim inserted [
        | inl old ↦ subst P (sym old) at
        | inr longer ↦ subst P (sym longer) (Contains-append_left sets (set ∷ []) x at)
      ]

  there : Contains sets' (get_or places index d).pairs
  there =
      let is : stored.0 ≡ (get_or places index d).pairs = sym (same_from_pointwise set stored.0 stored.2) ∙ same in
      let P : List ℕ → Type 0 = λ x. Contains sets' x in
      subst P is (place, slice_get_within sets' place stored.0 stored.1, get_or_from_slice_get sets' place stored.0 stored.0 stored.1)

  more_places : take (index + 1) places ≡ take index places ++ get_or places index d ∷ []
  more_places = take_more places index d within

  pub sets_more : AreSetsOf (take (index + 1) places) sets'
  sets_more =
      let before = take index places in
      let last = get_or places index d in
      let P : List Place → Type 0 = λ l. AreSetsOf l sets' in
      let old : All (IsSetOfOne (before ++ last ∷ [])) sets =
      All-weaker (IsSetOfOne before) (IsSetOfOne (before ++ last ∷ []))
      (λ x is. (is.0, (Contains-append_left before (last ∷ []) is.0 is.1.0, is.1.1))) sets are.sound in
      subst P (sym more_places) (record {
        distinct = distinct_sets sets' unique;
        all = All-push (λ (p : Place). Contains sets' p.pairs) before last
            (All-weaker (λ (p : Place). Contains sets p.pairs) (λ (p : Place). Contains sets' p.pairs) (λ p at. kept p.pairs at) before are.all)
            there;
        sound = elim inserted [
          | inl same_sets ↦ subst (All (IsSetOfOne (before ++ last ∷ []))) (sym same_sets) old
          | inr longer ↦
              subst (All (IsSetOfOne (before ++ last ∷ []))) (sym longer)
              (All-push (IsSetOfOne (before ++ last ∷ [])) sets set old (last, (Contains-push before last, sym same)))
        ];
      })

  pub too_many_sets : (limit : ℕ) → limit < length sets' → HaveMoreSets places limit
  too_many_sets limit more =
      let are' = sets_more in
      record {
        sets = sets';
        distinct = are'.distinct;
        sound = All-weaker (IsSetOfOne (take (index + 1) places)) (IsSetOfOne places) (λ x is.
            let P : List Place → Type 0 = λ l. Contains l is.0 in (
              is.0,
              (
                subst P (take-append-drop (index + 1) places)
                    (Contains-append_left (take (index + 1) places) (drop (index + 1) places) is.0 is.1.0),
                is.1.1,
              ),
            )) sets' are'.sound;
        more = more;
      }

-- ---- few sets

sets_of_places : (places : List Place) → All (λ place. Contains (map (λ (p : Place). p.pairs) places) place.pairs) places
sets_of_places [] = All-nil (λ (place : Place). Contains (map (λ (p : Place). p.pairs) []) place.pairs)
sets_of_places (place ∷ places) =
    let sets = map (λ (p : Place). p.pairs) places in
    let P = λ (other : Place). Contains (place.pairs ∷ sets) other.pairs in
    All-cons P place places (Contains-here place.pairs sets)
    (All-weaker (λ (other : Place). Contains sets other.pairs) P (λ other at. Contains-there place.pairs sets other.pairs at) places
    (sets_of_places places))

-- there are no more sets than places
pub few_places : (places : List Place) (limit : ℕ) → length places ≤ limit → HaveFewSets places limit
few_places places limit le = record {
  sets = map (λ (p : Place). p.pairs) places;
  all = sets_of_places places;
  few = omega (arith, length-map places (λ (p : Place). p.pairs));
}

pub few_counted : (places : List Place) (index : ℕ) (sets : List (List ℕ)) (limit : ℕ) → length places ≤ index
    → AreSetsOf (take index places) sets → length sets ≤ limit → HaveFewSets places limit
few_counted places index sets limit past are le =
    let P : List Place → Type 0 = λ l. All (λ place. Contains sets place.pairs) l in
    record { sets = sets; all = subst P (take_all index places past) are.all; few = le }
