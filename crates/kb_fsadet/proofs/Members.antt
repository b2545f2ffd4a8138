-- Which numbers are members of a set.
use Rattle.std.proofs.Common.{◌≡◌, ◌↔◌, ℕ, ◌<◌, ◌≤◌, nat_eq, nat_cmp, IsTrue, List, [], ◌∷◌, length, get_or, Result, Ok, Err, refl, sym, ap, ◌∙◌, subst, inl, inr, arith}
use Rattle.std.specs.List.{Contains}
use Rattle.std.specs.List.Sorted.{IsBinarySearchResult}
use Rattle.std.specs.Result.{MatchResult, is_ok}
use Rattle.std.proofs.lemmas.Bool.{cases_lt, false_from_ne_true}
use Rattle.std.proofs.lemmas.Bool.Decides.{Decides-eqb}
use Rattle.std.proofs.lemmas.List.{get_or_default}
use Rattle.std.proofs.lemmas.List.Folds.{Any-from_list_any, list_any-from_Any}
use Rattle.std.proofs.lemmas.List.Sorted.{searched}
use Rattle.kb_fsadet.specs.SubsetConstruction.{IsAscending, is_member}
use Rattle.kb_fsadet.proofs.Sets.{Contains-here}

pub contains_from_member : (members : List ℕ) (state : ℕ) → IsTrue (is_member members state) → Contains members state
contains_from_member members state has =
    let found = Any-from_list_any (λ member. nat_eq member state) members has in
    let P : ℕ → Type 0 = λ member. Contains members member in
    subst P ((Decides-eqb found.1 state).0 found.4) (found.0, found.2, found.3)

pub member_from_contains : (members : List ℕ) (state : ℕ) → Contains members state → IsTrue (is_member members state)
member_from_contains members state has =
    list_any-from_Any (λ member. nat_eq member state) members (has.0, state, has.1, has.2, (Decides-eqb state state).1 refl)

-- whether a search through them finds it
pub search_answers : (members : List ℕ) (state : ℕ) (r : Result ℕ ℕ) → IsAscending members
    → IsBinarySearchResult (λ member. nat_cmp member state) members r → is_ok r ≡ is_member members state
search_answers members state r ascends searches = by r (searched members state r searches rises)
  where
    rises : (i j : ℕ) → i ≤ j → j < length members → get_or members i 0 ≤ get_or members j 0
    rises i j low within =
        elim (cases_lt i j) [
          | inl less ↦ let up = ascends i j 0 less within in omega arith
          | inr same ↦
              let at : i ≡ j = omega arith in
              let alike = ap (λ k. get_or members k 0) at in omega arith
        ]

    by : (r : Result ℕ ℕ) → MatchResult r (λ i. (i < length members) × (get_or members i 0 ≡ state))
        (λ i. (i ≤ length members) × ((k : ℕ) → k < i → get_or members k 0 < state) × ((k : ℕ) → i ≤ k → k < length members → state < get_or members k 0))
        → is_ok r ≡ is_member members state
    by (Ok i) found = sym (member_from_contains members state (i, found.0, get_or_default members i state 0 found.0 ∙ found.1))
    by (Err i) none =
        sym (false_from_ne_true (is_member members state) (λ member.
        let has = contains_from_member members state member in
        let here : get_or members has.0 0 ≡ state = get_or_default members has.0 0 state has.1 ∙ has.2 in
        elim (cases_lt has.0 i) [
          | inl low ↦ let below = none.1 has.0 low in let no : ⊥ = omega arith in no
          | inr high ↦ let above = none.2 has.0 high has.1 in let no : ⊥ = omega arith in no
        ]))

-- there is none just where there are no members
pub empty_members : (members : List ℕ) → IsTrue (nat_eq (length members) 0) ↔ ((state : ℕ) → ¬ IsTrue (is_member members state))
empty_members [] = (λ none state member. let no : ⊥ = cc in no, λ none. refl)
empty_members (first ∷ members) = (
  λ none. let count = (Decides-eqb (length (first ∷ members)) 0).0 none in absurd (omega arith),
  λ none. absurd (none first (member_from_contains (first ∷ members) first (Contains-here first members))),
)
