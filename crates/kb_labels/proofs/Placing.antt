-- The place of a state in a list, as it is looked up.
use Rattle.std.proofs.Common.{◌≡◌, ℕ, false, nat_eq, List, get_or, slice_get, Option, Some, None, IfSome, IfNone, is_some, sym, ap, ◌∙◌, true≢false}
use Rattle.std.specs.List.{list_any, position}
use Rattle.std.proofs.lemmas.Bool.{eqb-true, eq-eqb}
use Rattle.std.proofs.lemmas.List.Folds.{list_any_at}
use Rattle.std.proofs.lemmas.List.Quantifiers.{position-Some}
use Rattle.std.proofs.lemmas.Option.{slice_get_within, slice_get-get_or, get_or_from_slice_get}

pub found_place : (states : List ℕ) (state : ℕ) (found : Option ℕ) → found ≡ position (nat_eq state) states
    → IfSome found (λ place. slice_get states place ≡ Some state)
found_place states state None is = tt
found_place states state (Some place) is =
    let at = position-Some (nat_eq state) states place 0 (sym is) in
    let same : state ≡ get_or states place 0 = eqb-true state (get_or states place 0) at.1 in
    slice_get-get_or states place 0 at.0 ∙ ap (λ s. Some s) (sym same)

no_place : (states : List ℕ) (state : ℕ) → list_any (nat_eq state) states ≡ false → (place : ℕ)
    → slice_get states place ≡ Some state → ⊥
no_place states state none place at =
    let here = get_or_from_slice_get states place state 0 at in
    true≢false (sym (list_any_at (nat_eq state) states place 0 (slice_get_within states place state at)
    (eq-eqb state (get_or states place 0) (sym here))) ∙ none)

pub none_found : (states : List ℕ) (state : ℕ) (found : Option ℕ) → is_some found ≡ list_any (nat_eq state) states
    → IfNone found ((place : ℕ) → slice_get states place ≡ Some state → ⊥)
none_found states state None is = no_place states state (sym is)
none_found states state (Some place) is = tt
