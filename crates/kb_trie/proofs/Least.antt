-- The least of some numbers, as numbers come and go.
use Rattle.std.proofs.Common.{◌≡◌, ℕ, zero, suc, ◌+◌, ◌-◌, ◌<◌, ◌≤◌, List, [], ◌∷◌, ◌++◌, length, set, Option, Some, None, SomeIff, refl, sym, ap, ◌∙◌, subst, inl, inr, arith}
use Rattle.kb_trie.specs.LeftSides.{HasAt, IsLeast, IsLeastOf}
use Rattle.kb_trie.specs.Lookups.{kept}
use Rattle.kb_trie.proofs.HasAt.{has_before, has_cases, has_left, has_new, has_old, has_within}

-- what is kept, less one, where it is not 0
pub kept_is : (n : ℕ) (read : Option ℕ) → SomeIff read (1 ≤ n) (n - 1) → read ≡ kept n
kept_is zero None none = refl
kept_is zero (Some x) some = absurd (omega (arith, some.0))
kept_is (suc n) None none = absurd (none (omega arith))
kept_is (suc n) (Some x) some = let same : x ≡ n = omega (arith, some.1) in ap (λ (k : ℕ). Some k) same

-- a number is kept as one more
pub kept_number : (number : ℕ) → kept (number + 1) ≡ Some number
kept_number number = let same : number + 1 ≡ suc number = omega arith in ap kept same

pub kept_some : (n number : ℕ) → kept n ≡ Some number → n ≡ number + 1
kept_some zero number same = cc
kept_some (suc n) number same = let is : n ≡ number = cc in omega arith

pub kept_none : (n : ℕ) → kept n ≡ None → n ≡ 0
kept_none zero same = refl
kept_none (suc n) same = cc

-- the least of the same numbers
pub least_same : (these those : ℕ → Type 0) (from : ℕ) (read : Option ℕ) → ((number : ℕ) → these number → those number)
    → ((number : ℕ) → those number → these number) → IsLeastOf these from read → IsLeastOf those from read
least_same these those from None there back none = λ number behind is. none number behind (back number is)
least_same these those from (Some number) there back least =
    record {
      behind = least.behind;
      is = there number least.is;
      least = λ other behind is. least.least other behind (back other is);
    }

-- where one of the numbers is there, the least is there, and is not greater
pub least_there : (these : ℕ → Type 0) (from : ℕ) (n number : ℕ) → IsLeastOf these from (kept n) → from ≤ number → these number
    → 0 < n
least_there these from zero number none behind is = absurd (none number behind is)
least_there these from (suc n) number least behind is = omega arith

pub least_kept : (these : ℕ → Type 0) (from : ℕ) (n : ℕ) → IsLeastOf these from (kept n) → 0 < n → IsLeast these from (n - 1)
least_kept these from zero none some = absurd (omega arith)
least_kept these from (suc n) least some =
    let same : n ≡ suc n - 1 = omega arith in
    subst (IsLeast these from) same least

pub least_none : (these : ℕ → Type 0) (from : ℕ) (n : ℕ) → IsLeastOf these from (kept n) → n ≡ 0
    → (number : ℕ) → from ≤ number → these number → ⊥
least_none these from zero none same number behind is = none number behind is
least_none these from (suc n) least same number behind is = absurd (omega arith)

pub least_at : (these : ℕ → Type 0) (from n number : ℕ) → IsLeastOf these from (kept n) → n ≡ number + 1 → IsLeast these from number
least_at these from n number least same = subst (IsLeastOf these from) (ap kept same ∙ kept_number number) least

pub least_of_number : (these : ℕ → Type 0) (from number : ℕ) → IsLeast these from number → IsLeastOf these from (kept (number + 1))
least_of_number these from number least = subst (IsLeastOf these from) (sym (kept_number number)) least

-- one more number at the end, of another thing, or of the same where there is a lesser one
pub least_more : {A : Type 0} (list : List (Option A)) (x y : A) (from n : ℕ) → (x ≡ y → 0 < n)
    → IsLeastOf (HasAt list x) from (kept n) → IsLeastOf (HasAt (list ++ Some y ∷ []) x) from (kept n)
least_more list x y from zero some none = λ number behind has.
    elim (has_cases list y x number has) [
      | inl old ↦ none number behind old
      | inr new ↦ let less : 0 < 0 = some new.1 in omega (arith, less)
    ]
least_more list x y from (suc n) some least =
    record {
      behind = least.behind;
      is = has_old list (Some y) x n least.is;
      least = λ number behind has.
          elim (has_cases list y x number has) [
            | inl old ↦ least.least number behind old
            | inr new ↦ omega (arith, new.0, has_within list x n least.is)
          ];
    }

-- one more number at the end, of a thing of which there was none
pub least_first : {A : Type 0} (list : List (Option A)) (y : A) (from : ℕ) → from ≤ length list
    → ((number : ℕ) → from ≤ number → HasAt list y number → ⊥) → IsLeast (HasAt (list ++ Some y ∷ []) y) from (length list)
least_first list y from behind none =
    record {
      behind = behind;
      is = has_new list y;
      least = λ number later has.
          elim (has_cases list y y number has) [
            | inl old ↦ absurd (none number later old)
            | inr new ↦ omega (arith, new.0)
          ];
    }

-- no number is behind the last one
pub least_behind : {A : Type 0} (list : List (Option A)) (x : A) (from : ℕ) → length list ≤ from → IsLeastOf (HasAt list x) from (kept 0)
least_behind list x from past = λ number behind has. omega (arith, has_within list x number has)

-- one number less, which was not the least
pub least_less : {A : Type 0} (list : List (Option A)) (x : A) (from n gone : ℕ) → (n ≡ gone + 1 → ⊥)
    → IsLeastOf (HasAt list x) from (kept n) → IsLeastOf (HasAt (set list gone None) x) from (kept n)
least_less list x from zero gone apart none = λ number behind has. none number behind (has_before list gone x number has).0
least_less list x from (suc n) gone apart least =
    record {
      behind = least.behind;
      is = has_left list gone x n (λ same. apart (omega (arith, same))) least.is;
      least = λ number behind has. least.least number behind (has_before list gone x number has).0;
    }

-- one number less, which was the least: the next is
pub least_passed : {A : Type 0} (list : List (Option A)) (x : A) (from n gone : ℕ) → IsLeast (HasAt list x) from gone
    → IsLeastOf (HasAt list x) (gone + 1) (kept n) → IsLeastOf (HasAt (set list gone None) x) from (kept n)
least_passed list x from zero gone first none = λ number behind has.
    let there = has_before list gone x number has in
    none number (omega (arith, there.1, first.least number behind there.0)) there.0
least_passed list x from (suc n) gone first least =
    record {
      behind = omega (arith, least.behind, first.behind);
      is = has_left list gone x n (λ same. omega (arith, same, least.behind)) least.is;
      least = λ number behind has.
          let there = has_before list gone x number has in
          least.least number (omega (arith, there.1, first.least number behind there.0)) there.0;
    }
