-- How many states texts lead to.
use Rattle.std.proofs.Common.{◌≡◌, ◌⊎◌, ℕ, ◌<◌, ◌≤◌, List, length, slice_get, Some, sym, ap, ◌∙◌, inl, inr, arith}
use Rattle.std.proofs.lemmas.Bool.{cases_lt}
use Rattle.std.proofs.lemmas.Option.{same_Some, slice_get_within}
use Rattle.indexmap.proofs.IndexTableLemmas.Probe.{pigeonhole}
use Rattle.kb_explore.specs.Progress.{AreDistinct}
use Rattle.kb_explore.proofs.Lists.{item_within}

-- distinct items of a list are no more than its items
module _ {X : Type 0} (xs ys : List X) (distinct : AreDistinct xs)
    (among : (place : ℕ) (x : X) → slice_get xs place ≡ Some x → (other : ℕ) × (slice_get ys other ≡ Some x)) where
  place_of : (i : ℕ) → (i < length xs) ⊎ (length xs ≤ i) → ℕ
  place_of i (inl within) = let x = item_within xs i within in (among i x.0 x.1).0
  place_of i (inr past) = 0

  item_at : (i : ℕ) (c : (i < length xs) ⊎ (length xs ≤ i)) → i < length xs
      → (x : X) × ((slice_get xs i ≡ Some x) × (slice_get ys (place_of i c) ≡ Some x))
  unfolding place_of
  item_at i (inl within) here = let x = item_within xs i within in (x.0, (x.1, (among i x.0 x.1).1))
  item_at i (inr past) here = absurd (let no : ⊥ = omega arith in no)

  pub no_more_items : length xs ≤ length ys
  no_more_items =
      pigeonhole (length xs) (length ys) (λ i. place_of i (cases_lt i (length xs)))
      (λ i here. let at = item_at i (cases_lt i (length xs)) here in slice_get_within ys (place_of i (cases_lt i (length xs))) at.0 at.1.1)
      (λ i j one two same.
      let first = item_at i (cases_lt i (length xs)) one in
      let second = item_at j (cases_lt j (length xs)) two in
      let alike : second.0 ≡ first.0 = same_Some second.0 first.0 (sym second.1.1 ∙ sym (ap (slice_get ys) same) ∙ first.1.1) in
      distinct i j first.0 first.1.0 (second.1.0 ∙ ap (λ x. Some x) alike))
