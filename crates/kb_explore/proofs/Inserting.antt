-- What inserting into a set says of a state's number.
use Rattle.std.proofs.Common.{◌≡◌, ℕ, suc, ◌+◌, ◌<◌, Bool, true, false, not, List, [], ◌∷◌, ◌++◌, length, get_or, slice_get, add-one, Some, refl, sym, ap, subst, ◌∙◌, inl, inr, true≢false, if◌then◌else◌}
use Rattle.std.specs.Cmp.{IsEquivalence}
use Rattle.std.specs.List.{IsDistinct, list_any}
use Rattle.std.proofs.lemmas.Bool.{cases_order}
use Rattle.std.proofs.lemmas.Map.Keys.{apart_from_distinct}
use Rattle.std.proofs.lemmas.Option.{get_or_from_slice_get, slice_get_within}
use Rattle.indexmap.specs.IndexSet.{insert_key}
use Rattle.kb_explore.specs.Progress.{AreDistinct, IsOneTooMany, Numbers, known, added}
use Rattle.kb_explore.proofs.Lists.{last_item}

module _ {S : Type 0} (eq : S → S → Bool) (laws : IsEquivalence eq) where
  apart_at : (states : List S) → IsDistinct eq states → (place other : ℕ) (state : S) → place < other → slice_get states place ≡ Some state
      → slice_get states other ≡ Some state → ⊥
  apart_at states distinct place other state less one two =
      let apart = apart_from_distinct eq states place other state distinct less (slice_get_within states other state two) in
      let P : S → Type 0 = λ x. eq x (get_or states other state) ≡ false in
      let Q : S → Type 0 = λ x. eq state x ≡ false in
      true≢false (sym (laws.refl state)
      ∙ subst Q (get_or_from_slice_get states other state state two) (subst P (get_or_from_slice_get states place state state one) apart))

  -- keys of a set are apart
  pub AreDistinct-from_keys : (states : List S) → IsDistinct eq states → AreDistinct states
  AreDistinct-from_keys states distinct place other state one two =
      elim (cases_order place other) [
        | inl same ↦ same
        | inr differ ↦ elim differ [
          | inl less ↦ absurd (apart_at states distinct place other state less one two)
          | inr more ↦ absurd (apart_at states distinct other place state more two one)
        ]
      ]

  module _ (states states' : List S) (state : S) (is_new : Bool) (is : is_new ≡ not (list_any (eq state) states))
      (keys : states' ≡ insert_key eq states state) where
    keys_kept : is_new ≡ false → states' ≡ states
    keys_kept old = by (list_any (eq state) states) refl
      where
        by : (b : Bool) → list_any (eq state) states ≡ b → states' ≡ states
        by true e = keys ∙ ap (λ b. if b then states else states ++ state ∷ []) e
        by false e = absurd (true≢false (sym (is ∙ ap not e) ∙ old))

    keys_added : is_new ≡ true → states' ≡ states ++ state ∷ []
    keys_added new = by (list_any (eq state) states) refl
      where
        by : (b : Bool) → list_any (eq state) states ≡ b → states' ≡ states ++ state ∷ []
        by true e = absurd (true≢false (sym new ∙ is ∙ ap not e))
        by false e = keys ∙ ap (λ b. if b then states else states ++ state ∷ []) e

    pub one_too_many : (limit : ℕ) → is_new ≡ true → IsDistinct eq states' → limit < length states' → IsOneTooMany limit states state
    one_too_many limit new distinct more =
        let P : List S → Type 0 = λ xs. AreDistinct xs in
        let Q : List S → Type 0 = λ xs. limit < length xs in record {
          distinct = subst P (keys_added new) (AreDistinct-from_keys states' distinct);
          more = subst Q (keys_added new) more;
        }

    module _ (same : (x y : S) → eq x y ≡ true → x ≡ y) (origins origins' : List (ℕ × ℕ)) (origin : ℕ × ℕ) (index : ℕ)
        (stored : (k : S) × (slice_get states' index ≡ Some k) × (eq state k ≡ true)) where
      at_index : slice_get states' index ≡ Some state
      at_index = stored.1 ∙ ap (λ x. Some x) (sym (same state stored.0 stored.2))

      pub numbers_known : is_new ≡ false → origins' ≡ origins → Numbers states origins state origin states' origins' (index + 1)
      numbers_known old kept =
          known (keys_kept old) kept (rw add-one (ap (λ xs. slice_get xs index) (sym (keys_kept old)) ∙ at_index))

      pub numbers_added : is_new ≡ true → IsDistinct eq states' → origins' ≡ origins ++ origin ∷ []
          → Numbers states origins state origin states' origins' (index + 1)
      numbers_added new distinct longer =
          let last : slice_get states' (length states) ≡ Some state =
          ap (λ xs. slice_get xs (length states)) (keys_added new) ∙ last_item states state in
          added (keys_added new) longer
          (rw add-one (ap suc (AreDistinct-from_keys states' distinct index (length states) state at_index last)))
