-- Beginnings of lists, and their last ones.
use Rattle.std.proofs.Common.{◌≡◌, ◌≢◌, List, [], ◌∷◌, ◌++◌, Option, Some, None, refl, ap, sym, ◌∙◌, append_assoc, append-nil}
use Rattle.std.specs.List.{last_or}
use mathlib.Core.List.{IsPrefix}
use Rattle.kb_publish.specs.Versions.{last}

module _ {S : Type 0} where
  pub begins_self : (xs : List S) → IsPrefix xs xs
  begins_self xs = ([], append-nil xs)

  pub begins_longer : (xs ys zs : List S) → IsPrefix xs ys → IsPrefix xs (ys ++ zs)
  begins_longer xs ys zs p = (p.0 ++ zs, sym (append_assoc xs p.0 zs) ∙ ap (λ w. w ++ zs) p.1)

  pub begins_nothing : (xs : List S) → IsPrefix xs [] → xs ≡ []
  begins_nothing [] p = refl
  begins_nothing (x ∷ xs) p = absurd (cc p.1)

  last_or-one_more : (o : Option S) (xs : List S) (x : S) → last_or o (xs ++ x ∷ []) ≡ Some x
  last_or-one_more o [] x = refl
  last_or-one_more o (y ∷ ys) x = last_or-one_more (Some y) ys x

  pub last-one_more : (xs : List S) (x : S) → last (xs ++ x ∷ []) ≡ Some x
  last-one_more xs x = last_or-one_more None xs x

  last_or-some : (x : S) (xs : List S) → last_or (Some x) xs ≢ None
  last_or-some x [] none = absurd (cc none)
  last_or-some x (y ∷ ys) none = last_or-some y ys none

  -- a list that has no last one is empty
  pub empty_without_last : (xs : List S) → last xs ≡ None → xs ≡ []
  empty_without_last [] none = refl
  empty_without_last (x ∷ xs) none = absurd (last_or-some x xs none)

  pub not_empty_with_last : (xs : List S) (x : S) → last xs ≡ Some x → xs ≢ []
  not_empty_with_last [] x some empty = absurd (cc some)
  not_empty_with_last (y ∷ ys) x some empty = absurd (cc empty)

  pub not_empty_with_one_more : (xs : List S) (x : S) → xs ++ x ∷ [] ≢ []
  not_empty_with_one_more [] x empty = absurd (cc empty)
  not_empty_with_one_more (y ∷ ys) x empty = absurd (cc empty)
