-- The table of a difference machine is filled entry by entry.
use Rattle.std.proofs.Common.{◌≡◌, inl, inr, ℕ, zero, suc, ◌+◌, ◌*◌, ◌<◌, ◌≤◌, List, [], ◌∷◌, ◌++◌, length, get_or, slice_get, Some, refl, sym, ap, ◌∙◌, subst, append_assoc, length-append, arith}
use Rattle.std.proofs.Math.Nat.{suc-mul, zero-mul, mul-le-mul_right}
use Rattle.std.proofs.lemmas.Bool.{cases_lt}
use Rattle.std.proofs.lemmas.List.{append-nil, get_or_append_left, get_or-append-add, get_or_push}
use Rattle.kb_diff.specs.Groups.{Group}
use Rattle.kb_diff.specs.Steps.{DifferenceStep, to_kept, to_none, LeadsBy}
use Rattle.kb_diff.specs.Tables.{AddsRows, AddsTargets, AreStepsOf, FrontLeads, IsFront, IsNumberOf, kept, not_kept, LeadsToNumber}
use Rattle.kb_diff.proofs.Reading.{pair_leads}

abbrev Words : Type 0
Words = List (List ℕ)

-- ---- blocks of one size, one after another

pub in_blocks : (size count index place : ℕ) → index < count → place < size → index * size + place < count * size
in_blocks size count index place before within =
    let most : suc index * size ≤ count * size = mul-le-mul_right size before in
    let next : suc index * size ≡ index * size + size = suc-mul index size in
    let one = index * size in
    let all = count * size in
    omega arith

pub blocks_more : (size count length more : ℕ) → length ≡ count * size → more ≡ size → length + more ≡ (count + 1) * size
blocks_more size count length more each last =
    let next : suc count * size ≡ count * size + size = suc-mul count size in
    let same : (count + 1) * size ≡ suc count * size = ap (λ (k : ℕ). k * size) (omega arith) in
    let all = count * size in
    omega arith

pub earlier_block : (xs ys : List ℕ) (size count index place : ℕ) → length xs ≡ count * size → index < count → place < size
    → get_or (xs ++ ys) (index * size + place) 0 ≡ get_or xs (index * size + place) 0
earlier_block xs ys size count index place long before within =
    let inside = in_blocks size count index place before within in
    get_or_append_left xs ys 0 (index * size + place) (omega arith)

pub last_block : (xs ys : List ℕ) (size count place : ℕ) → length xs ≡ count * size
    → get_or (xs ++ ys) (count * size + place) 0 ≡ get_or ys place 0
last_block xs ys size count place long =
    let P : ℕ → Type 0 = λ k. get_or (xs ++ ys) (k + place) 0 ≡ get_or ys place 0 in
    subst P long (get_or-append-add xs ys place 0)

-- ---- where second letters lead from a front

module _ (group : Group) (words : Words) (front : List ℕ) where
  pub targets_none : (old : List ℕ) → AddsTargets group words front 0 old old
  targets_none old = record {
    row = [];
    longer = sym (append-nil old);
    one_each = refl;
    each = λ second within. absurd (omega arith);
  }

  pub targets_more : (count target : ℕ) (old between new : List ℕ) → AddsTargets group words front count old between
      → FrontLeads group words front (count + 1) target → new ≡ between ++ target ∷ [] → AddsTargets group words front (count + 1) old new
  targets_more count target old between new adds leads longer = record {
    row = adds.row ++ target ∷ [];
    longer = longer ∙ (ap (λ (l : List ℕ). l ++ target ∷ []) adds.longer ∙ append_assoc old adds.row (target ∷ []));
    one_each = let long = length-append adds.row (target ∷ []) in let each = adds.one_each in omega arith;
    each = λ second within.
        let long = adds.one_each in
        let P : ℕ → Type 0 = λ k. FrontLeads group words front (suc second) k in
        elim (cases_lt second count) [
          | inl before ↦ subst P (sym (get_or_append_left adds.row (target ∷ []) 0 second (omega arith))) (adds.each second before)
          | inr last ↦
              let same : second ≡ count = omega arith in
              let at : length adds.row ≡ second = omega arith in
              let Q : ℕ → Type 0 = λ b. FrontLeads group words front b target in
              subst P (sym (get_or_push adds.row target 0 second at)) (subst Q (omega (arith, same)) leads)
        ];
  }

-- ---- where pairs lead from a difference

module _ (group : Group) (words : Words) (d : List ℕ) where
  pub rows_none : (old : List ℕ) → AddsRows group words d 0 old old
  rows_none old = record {
    rows = [];
    longer = sym (append-nil old);
    one_each = sym (zero-mul (group.n + 1));
    each = λ first second before within. absurd (omega arith);
  }

  pub rows_more : (count : ℕ) (front old between new : List ℕ) → AddsRows group words d count old between → IsFront group d (count + 1) front
      → AddsTargets group words front (group.n + 1) between new → AddsRows group words d (count + 1) old new
  rows_more count front old between new adds is targets =
      let size = group.n + 1 in record {
        rows = adds.rows ++ targets.row;
        longer = targets.longer ∙ (ap (λ (l : List ℕ). l ++ targets.row) adds.longer ∙ append_assoc old adds.rows targets.row);
        one_each = length-append adds.rows targets.row ∙ blocks_more size count (length adds.rows) (length targets.row) adds.one_each targets.one_each;
        each = λ first second before within.
            let P : ℕ → Type 0 = λ k. LeadsToNumber group words d (suc first) (suc second) k in
            elim (cases_lt first count) [
              | inl earlier ↦
                  subst P (sym (earlier_block adds.rows targets.row size count first second adds.one_each earlier within)) (adds.each first second earlier within)
              | inr last ↦
                  let same : count ≡ first = omega arith in
                  let Q : ℕ → Type 0 = λ k. get_or (adds.rows ++ targets.row) (k * size + second) 0 ≡ get_or targets.row second 0 in
                  let F : ℕ → Type 0 = λ k. IsFront group d k front in
                  let at = subst Q same (last_block adds.rows targets.row size count second adds.one_each) in
                  subst P (sym at)
                  (pair_leads group words d (suc first) (suc second) front (get_or targets.row second 0) (subst F (omega (arith, same)) is) (targets.each second within))
            ];
      }

-- ---- the steps from all differences

step_to : (group : Group) (words : Words) (index : ℕ) (d e : List ℕ) (a b target : ℕ) → slice_get words index ≡ Some d → LeadsBy group d a b e
    → IsNumberOf words e target → DifferenceStep group words (suc index) a b target
step_to group words index d e a b target at leads (kept number) = to_kept (record { index = index; is = refl; at = at }) leads number
step_to group words index d e a b zero at leads (not_kept missing) = to_none (record { index = index; is = refl; at = at }) leads missing

module _ (group : Group) (words : Words) where
  pub steps_none : AreStepsOf group words 0 []
  steps_none = record { one_each = sym (zero-mul ((group.n + 1) * (group.n + 1))); each = λ index first second before one two. absurd (omega arith) }

  pub steps_more : (count : ℕ) (d table new : List ℕ) → AreStepsOf group words count table → slice_get words count ≡ Some d
      → AddsRows group words d (group.n + 1) table new → AreStepsOf group words (count + 1) new
  steps_more count d table new are at adds =
      let side = group.n + 1 in
      let size = side * side in
      let whole = length-append table adds.rows ∙ blocks_more size count (length table) (length adds.rows) are.one_each adds.one_each in record {
        one_each = ap length adds.longer ∙ whole;
        each = λ index first second before one two.
            let place = first * side + second in
            let inside : place < size = in_blocks side side first second one two in
            let P : List ℕ → Type 0 = λ l. DifferenceStep group words (suc index) (suc first) (suc second) (get_or l (index * size + place) 0) in
            let S : ℕ → Type 0 = λ k. DifferenceStep group words (suc index) (suc first) (suc second) k in
            subst P (sym adds.longer) (elim (cases_lt index count) [
              | inl earlier ↦
                  subst S (sym (earlier_block table adds.rows size count index place are.one_each earlier inside)) (are.each index first second earlier one two)
              | inr last ↦
                  let same : count ≡ index = omega arith in
                  let Q : ℕ → Type 0 = λ k. get_or (table ++ adds.rows) (k * size + place) 0 ≡ get_or adds.rows place 0 in
                  let D : ℕ → Type 0 = λ k. slice_get words k ≡ Some d in
                  subst S (sym (subst Q same (last_block table adds.rows size count place are.one_each)))
                  (let to = adds.each first second one two in
                  step_to group words index d to.word (suc first) (suc second) (get_or adds.rows place 0) (subst D same at) to.leads to.number)
            ]);
      }
