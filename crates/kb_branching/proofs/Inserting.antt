-- What inserting into a set says of a state's number.
use Rattle.std.proofs.Common.{◌≡◌, ◌⊎◌, ℕ, ◌+◌, ◌<◌, ◌≤◌, Bool, true, false, List, [], ◌∷◌, ◌++◌, length, get_or, slice_get, add-one, Some, refl, sym, ap, subst, ◌∙◌, inl, inr, arith, true≢false, if◌then◌else◌}
use Rattle.std.specs.Cmp.{IsEquivalence}
use Rattle.std.specs.List.{IsDistinct, list_any}
use Rattle.std.proofs.lemmas.Bool.{cases_order}
use Rattle.std.proofs.lemmas.Map.Keys.{apart_from_distinct}
use Rattle.std.proofs.lemmas.Option.{get_or_from_slice_get, slice_get_within}
use Rattle.indexmap.specs.IndexSet.{insert_key}
use Rattle.kb_explore.specs.Exploration.{numbered}
use Rattle.kb_explore.specs.Progress.{AreDistinct, IsOneTooMany}
use Rattle.kb_explore.proofs.Lists.{number_kept, number_cases}
use Rattle.kb_branching.specs.Progress.{HasNumber}

module _ {S : Type 0} (eq : S → S → Bool) (laws : IsEquivalence eq) where
  apart_at : (states : List S) → IsDistinct eq states → (place other : ℕ) (state : S) → place < other → slice_get states place ≡ Some state
      → slice_get states other ≡ Some state → ⊥
  apart_at states distinct place other state less one two =
      let apart = apart_from_distinct eq states place other state distinct less (slice_get_within states other state two) in
      let P : S → Type 0 = λ x. eq x (get_or states other state) ≡ false in
      let Q : S → Type 0 = λ x. eq state x ≡ false in
      true≢false (sym (laws.refl state)
      ∙ subst Q (get_or_from_slice_get states other state state two) (subst P (get_or_from_slice_get states place state state one) apart))

  -- keys of a set are apart
  pub AreDistinct-from_keys : (states : List S) → IsDistinct eq states → AreDistinct states
  AreDistinct-from_keys states distinct place other state one two =
      elim (cases_order place other) [
        | inl same ↦ same
        | inr differ ↦ elim differ [
          | inl less ↦ absurd (apart_at states distinct place other state less one two)
          | inr more ↦ absurd (apart_at states distinct other place state more two one)
        ]
      ]

  module _ (states states' : List S) (state : S) (keys : states' ≡ insert_key eq states state) where
    -- the state is added at the end, or nothing is
    inserted : (states' ≡ states) ⊎ (states' ≡ states ++ state ∷ [])
    inserted = by (list_any (eq state) states) refl
      where
        by : (b : Bool) → list_any (eq state) states ≡ b → (states' ≡ states) ⊎ (states' ≡ states ++ state ∷ [])
        by true e = inl (keys ∙ ap (λ b. if b then states else states ++ state ∷ []) e)
        by false e = inr (keys ∙ ap (λ b. if b then states else states ++ state ∷ []) e)

    pub one_too_many : (limit : ℕ) → IsDistinct eq states' → length states ≤ limit → limit < length states' → IsOneTooMany limit states state
    one_too_many limit distinct room more =
        elim inserted [
          | inl kept ↦ (let count = ap length kept in absurd (let no : ⊥ = omega arith in no))
          | inr longer ↦ (
              let P : List S → Type 0 = λ xs. AreDistinct xs in
              let Q : List S → Type 0 = λ xs. limit < length xs in record {
                distinct = subst P longer (AreDistinct-from_keys states' distinct);
                more = subst Q longer more;
              }
              )
        ]

    pub has_number : ((x y : S) → eq x y ≡ true → x ≡ y) → (index : ℕ) → (k : S) × (slice_get states' index ≡ Some k) × (eq state k ≡ true)
        → HasNumber states state states' (index + 1)
    has_number same index stored = record {
      kept = λ number item at. elim inserted [
        | inl kept ↦ ap (λ xs. numbered xs number) kept ∙ at
        | inr longer ↦ ap (λ xs. numbered xs number) longer ∙ number_kept states state number item at
      ];
      is_state = rw add-one (stored.1 ∙ ap (λ x. Some x) (sym (same state stored.0 stored.2)));
      others = λ number item at. elim inserted [
        | inl kept ↦ inl (sym (ap (λ xs. numbered xs number) kept) ∙ at)
        | inr longer ↦ elim (number_cases states state number item (sym (ap (λ xs. numbered xs number) longer) ∙ at)) [
          | inl old ↦ inl old
          | inr new ↦ inr new.1
        ]
      ];
    }
