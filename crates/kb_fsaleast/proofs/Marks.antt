-- Which states have a mark, one after another.
use Rattle.std.proofs.Common.{◌≡◌, ◌⊎◌, ℕ, zero, suc, ◌-◌, ◌<◌, ◌≤◌, Bool, true, false, not, cond, IsTrue, List, [], ◌∷◌, ◌++◌, length, get_or, set, replicate, refl, sym, ap, ◌∙◌, subst, inl, inr, arith, length-set}
use Rattle.std.specs.List.{Contains}
use Rattle.std.proofs.lemmas.Bool.{cases_eq, cases_lt, true≢false}
use Rattle.std.proofs.lemmas.List.{length_push, get_or_past, get_or-replicate, length-replicate}
use Rattle.std.proofs.lemmas.List.Elements.{Contains-append_left, Contains-push, Contains-push_cases}
use Rattle.std.proofs.lemmas.List.Sums.{sum_by-set}
use Rattle.kb_fsadet.proofs.Sets.{Contains-none}
use Rattle.kb_fsa.proofs.Reaching.{marked_set, marked_kept, marked_before}
use Rattle.kb_fsaleast.specs.Marks.{is_marked, AreUnseen}

-- a state that is marked is
mark_set : (marks : List Bool) (state : ℕ) → 0 < state → state ≤ length marks → IsTrue (is_marked (set marks (state - 1) true) state)
mark_set marks zero positive within = absurd (let no : ⊥ = omega arith in no)
mark_set marks (suc place) positive within =
    let same : suc place - 1 ≡ place = omega arith in
    let P : ℕ → Type 0 = λ x. IsTrue (get_or (set marks x true) place false) in
    subst P (sym same) (marked_set marks place (omega arith))

-- the others stay as they are
mark_kept : (marks : List Bool) (place state : ℕ) → IsTrue (is_marked marks state) → IsTrue (is_marked (set marks place true) state)
mark_kept marks place zero is = is
mark_kept marks place (suc other) is = marked_kept marks place other is

mark_cases : (marks : List Bool) (state other : ℕ) → 0 < state → IsTrue (is_marked (set marks (state - 1) true) other)
    → IsTrue (is_marked marks other) ⊎ (other ≡ state)
mark_cases marks state zero positive is = inl is
mark_cases marks state (suc place) positive is =
    elim (cases_eq place (state - 1)) [
      | inl same ↦ inr (omega arith)
      | inr apart ↦ inl (marked_before marks (state - 1) place apart is)
    ]

-- whether a state has a mark, as it is read
pub mark_read : (marks : List Bool) (state : ℕ) → 0 < state → is_marked marks state ≡ get_or marks (state - 1) false
mark_read marks zero positive = absurd (let no : ⊥ = omega arith in no)
mark_read marks (suc place) positive =
    let same : suc place - 1 ≡ place = omega arith in ap (λ x. get_or marks x false) (sym same)

-- where no mark is made yet, nothing has one
pub none_marked : (n state : ℕ) → ¬ IsTrue (is_marked (replicate n false) state)
none_marked n zero is = true≢false (sym is)
none_marked n (suc place) is =
    elim (cases_lt place n) [
      | inl within ↦ true≢false (sym is ∙ get_or-replicate n place false false within)
      | inr past ↦
          let count = length-replicate n false in
          true≢false (sym is ∙ get_or_past (replicate n false) place false (omega arith))
    ]

-- ---- one state after another

pub unseen_start : (marks : List Bool) → AreUnseen marks [] [] marks
unseen_start marks = record {
  one_each = refl;
  fewer = omega arith;
  among = λ state at. at;
  each = λ state at. absurd (Contains-none state at);
  marked = λ state is. inl is;
}

module _ {marks : List Bool} {states fresh : List ℕ} {marks' : List Bool} (unseen : AreUnseen marks states fresh marks') (state : ℕ) where
  -- a state with a mark is passed
  pub unseen_pass : IsTrue (is_marked marks' state) → AreUnseen marks (states ++ state ∷ []) fresh marks'
  unseen_pass is = record {
    one_each = unseen.one_each;
    fewer = unseen.fewer;
    among = λ other at. Contains-append_left states (state ∷ []) other (unseen.among other at);
    each = λ other at. elim (Contains-push_cases states state other at) [
      | inl old ↦ unseen.each other old
      | inr same ↦ let P : ℕ → Type 0 = λ x. IsTrue (is_marked marks' x) in subst P same is
    ];
    marked = unseen.marked;
  }

  -- one without is taken, and marked
  pub unseen_take : 0 < state → state ≤ length marks → get_or marks' (state - 1) false ≡ false
      → AreUnseen marks (states ++ state ∷ []) (fresh ++ state ∷ []) (set marks' (state - 1) true)
  unseen_take positive within unmarked =
      let count = unseen.one_each in
      let f : Bool → ℕ = λ x. cond (not x) 1 0 in
      let sums = sum_by-set f marks' (state - 1) true false (omega arith) in
      let one : f (get_or marks' (state - 1) false) ≡ 1 = ap f unmarked in
      let marked' : IsTrue (is_marked (set marks' (state - 1) true) state) = mark_set marks' state positive (omega arith) in record {
        one_each = length-set marks' (state - 1) true ∙ unseen.one_each;
        fewer = omega (arith, length_push fresh state, unseen.fewer);
        among = λ other at. elim (Contains-push_cases fresh state other at) [
          | inl old ↦ Contains-append_left states (state ∷ []) other (unseen.among other old)
          | inr same ↦ let P : ℕ → Type 0 = λ x. Contains (states ++ state ∷ []) x in subst P same (Contains-push states state)
        ];
        each = λ other at. elim (Contains-push_cases states state other at) [
          | inl old ↦ mark_kept marks' (state - 1) other (unseen.each other old)
          | inr same ↦ let P : ℕ → Type 0 = λ x. IsTrue (is_marked (set marks' (state - 1) true) x) in subst P same marked'
        ];
        marked = λ other is. elim (mark_cases marks' state other positive is) [
          | inl before ↦ elim (unseen.marked other before) [
            | inl old ↦ inl old
            | inr found ↦ inr (Contains-append_left fresh (state ∷ []) other found)
          ]
          | inr same ↦ let P : ℕ → Type 0 = λ x. Contains (fresh ++ state ∷ []) x in inr (subst P (sym same) (Contains-push fresh state))
        ];
      }
