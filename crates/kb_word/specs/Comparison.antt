-- What comparing words answers, and that it is a total order.
use Rattle.std.specs.Prelude.{◌≡◌, ℕ, List, length, Some, true, nat_eq}
use Rattle.std.proofs.Common.{sym, ap, ◌∙◌, subst}
use Rattle.std.proofs.lemmas.Bool.{true≢false}
use Rattle.std.specs.declared.cmp.Ordering.{Ordering}
use Rattle.std.specs.declared.cmp.Ordering.TheVariants.{Less, Equal, Greater}
use Rattle.std.specs.Ordering.{nat_cmp, on, then_cmp, ordering_then, is_eq}
use Rattle.std.specs.Cmp.{IsTotalOrder, IsPartialOrder, Equal-is, tied_itself, both_ways, po, then_total, on_total, nat_cmp_total}
use Rattle.std.specs.Cmp.Lexicographic.{slice_cmp, pointwise, texts_ties, nat_list_cmp_total, nat_list_eq_equiv}
use Rattle.std.specs.FinMap.{slice_cmp-IsAntisymmetric, nat_cmp-IsAntisymmetric}

-- the lengths first, and then the letters from left to right
abbrev pub shortlex_cmp : List ℕ → List ℕ → Ordering
shortlex_cmp = then_cmp (on length nat_cmp) (slice_cmp nat_cmp)

pub shortlex_cmp_total : IsTotalOrder shortlex_cmp
shortlex_cmp_total = then_total (on_total length nat_cmp_total) nat_list_cmp_total

second_equal : (o s : Ordering) → is_eq (ordering_then o s) ≡ true → is_eq s ≡ true
second_equal Less s e = absurd (true≢false (sym e))
second_equal Equal s e = e
second_equal Greater s e = absurd (true≢false (sym e))

-- equal letters are equal lists
pub same_from_pointwise : (u v : List ℕ) → pointwise nat_eq u v ≡ true → u ≡ v
same_from_pointwise u v e =
    slice_cmp-IsAntisymmetric nat_cmp-IsAntisymmetric u v
    ((Equal-is (slice_cmp nat_cmp u v)).0 (sym (texts_ties u v) ∙ e))

equal_from_same : (u v : List ℕ) → u ≡ v → is_eq (shortlex_cmp u v) ≡ true
equal_from_same u v e =
    let P : List ℕ → Type 0 = λ w. is_eq (shortlex_cmp u w) ≡ true in
    subst P e (ap is_eq (tied_itself shortlex_cmp_total u))

pub pointwise_from_same : (u v : List ℕ) → u ≡ v → pointwise nat_eq u v ≡ true
pointwise_from_same u v e = let P : List ℕ → Type 0 =
    λ w. pointwise nat_eq u w ≡ true in subst P e (nat_list_eq_equiv.refl u)

-- `==` answers true exactly where comparing answers `Equal`
pub shortlex_ties : (u v : List ℕ) → pointwise nat_eq u v ≡ is_eq (shortlex_cmp u v)
shortlex_ties u v = both_ways (pointwise nat_eq u v) (is_eq (shortlex_cmp u v))
    (λ e. equal_from_same u v (same_from_pointwise u v e))
    (λ e. texts_ties u v ∙ second_equal (nat_cmp (length u) (length v)) (slice_cmp nat_cmp u v) e)

pub shortlex_partial_order : IsPartialOrder (pointwise nat_eq) (λ u v. Some (shortlex_cmp u v))
shortlex_partial_order = po shortlex_cmp_total shortlex_ties
