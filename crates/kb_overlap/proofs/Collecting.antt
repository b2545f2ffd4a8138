-- The overlaps of a word with all left sides, place by place.
use Rattle.std.proofs.Common.{◌≡◌, ◌≢◌, ℕ, zero, suc, ◌+◌, ◌<◌, ◌≤◌, inl, inr, List, [], ◌∷◌, ◌++◌, length, get_or, drop, map, refl, sym, ap, ◌∙◌, subst, arith}
use Rattle.std.specs.List.{All, AllPairs, Contains}
use Rattle.std.proofs.lemmas.Bool.{cases_lt}
use Rattle.std.proofs.lemmas.List.Elements.{All-append, All-map, All-weaker, All-contains_itself, Contains-append_left, Contains-append_right}
use Rattle.kb_rules.specs.Agreement.{AgreeAsFar}
use Rattle.kb_overlap.specs.Sides.{Adds, AreApart, Collects, OverlapsSide, at_place}
use Rattle.kb_overlap.specs.declared.left_sides.Overlap.{Overlap}
use Rattle.kb_overlap.specs.declared.walk.Side.{Side}
use Rattle.kb_overlap.proofs.Lists.{pairs_append, pairs_map}

-- these are the overlaps at the places below this one, each of them once
pub record CollectsBelow (place : ℕ) (sides : List Side) (letters : List ℕ) (found : List Overlap) : Type 0 where
  pub each : All (λ one. (one.place < place) × OverlapsSide sides letters one) found
  pub all : (one : Overlap) → one.place < place → OverlapsSide sides letters one → Contains found one
  pub apart : AreApart sides → AllPairs (λ one other. one ≢ other) found

pub collects_none : (sides : List Side) (letters : List ℕ) → CollectsBelow 0 sides letters []
collects_none sides letters = record {
  each = λ k d within. absurd (let no : ⊥ = omega arith in no);
  all = λ one low overlap. absurd (let no : ⊥ = omega arith in no);
  apart = λ apart i j d less within. absurd (let no : ⊥ = omega arith in no);
}

contains_map : {X Y : Type 0} (f : X → Y) (xs : List X) (x : X) → Contains xs x → Contains (map f xs) (f x)
contains_map f [] x (k, low, e) = absurd (let no : ⊥ = omega arith in no)
contains_map f (y ∷ xs) x (zero, low, e) = (zero, omega arith, ap f e)
contains_map f (y ∷ xs) x (suc k, low, e) =
    let deeper = contains_map f xs x (k, omega arith, e) in
    (suc deeper.0, omega (arith, deeper.1), deeper.2)

pub same_overlap : (one : Overlap) (rule place : ℕ) → rule ≡ one.rule → place ≡ one.place → record { rule = rule; place = place } ≡ one
same_overlap one rule place e f = rw (e, f) refl

pub collects_more : (place : ℕ) (sides : List Side) (letters rest : List ℕ) (found after : List Overlap) → place < length letters
    → rest ≡ drop place letters → CollectsBelow place sides letters found → Adds sides rest place found after
    → CollectsBelow (place + 1) sides letters after
collects_more place sides letters rest found after within is_rest below adds =
    let P : Overlap → Type 0 = λ one. (one.place < place + 1) × OverlapsSide sides letters one in
    let here : List Overlap = map (at_place place) adds.added in
    let agrees : (side : Side) → Contains adds.added side → AgreeAsFar (drop place letters) side.letters.now =
    λ side holds. let Q : List ℕ → Type 0 = λ l. AgreeAsFar l side.letters.now in subst Q is_rest ((adds.exact side).0 holds).1 in
    let each_here : All P here = All-map P (at_place place) adds.added (λ k d low.
    let side = get_or adds.added k d in
    let holds = All-contains_itself adds.added k d low in
    let sums : place < place + 1 = omega arith in (
      sums,
      record {
        side = side;
        is_side = ((adds.exact side).0 holds).0;
        rule = refl;
        within = within;
        agree = agrees side holds;
      },
    )) in
    let each_before : All P found = All-weaker (λ one. (one.place < place) × OverlapsSide sides letters one) P
    (λ one both. let low : one.place < place + 1 = omega (arith, both.0) in (low, both.1)) found below.each in
    let all_of : (one : Overlap) → one.place < place + 1 → OverlapsSide sides letters one → Contains (found ++ here) one =
    λ one low overlap. elim (cases_lt one.place place) [
      | inl earlier ↦ Contains-append_left found here one (below.all one earlier overlap)
      | inr from ↦
          let same : one.place ≡ place = omega arith in
          let side = overlap.side in
          let agree : AgreeAsFar rest side.letters.now =
          let Q : List ℕ → Type 0 = λ l. AgreeAsFar l side.letters.now in
          subst Q (ap (λ p. drop p letters) same ∙ sym is_rest) overlap.agree in
          let holds : Contains adds.added side = (adds.exact side).1 (overlap.is_side, agree) in
          let is_one : at_place place side ≡ one = same_overlap one side.rule place overlap.rule (sym same) in
          subst (Contains (found ++ here)) is_one
          (Contains-append_right found here (at_place place side) (contains_map (at_place place) adds.added side holds))
    ] in
    let differ : Overlap → Overlap → Type 0 = λ one other. one ≢ other in
    let apart_of : AreApart sides → AllPairs differ (found ++ here) = λ apart.
    pairs_append differ found here (below.apart apart)
    (pairs_map differ (at_place place) adds.added (λ i j d less high e. adds.apart apart i j d less high (ap (λ (one : Overlap). one.rule) e)))
    (λ i d low. All-map (differ (get_or found i d)) (at_place place) adds.added (λ k side high e.
    let earlier = (below.each i d low).0 in
    let at : (get_or found i d).place ≡ place = ap (λ (one : Overlap). one.place) e in
    absurd (let no : ⊥ = omega arith in no))) in
    let R : List Overlap → Type 0 = λ list. CollectsBelow (place + 1) sides letters list in
    subst R (sym adds.is) (record {
      each = All-append P found here each_before each_here;
      all = all_of;
      apart = apart_of;
    })

pub collects_all : (place : ℕ) (sides : List Side) (letters : List ℕ) (found : List Overlap) → length letters ≤ place
    → CollectsBelow place sides letters found → Collects sides letters found
collects_all place sides letters found past below = record {
  each = All-weaker (λ one. (one.place < place) × OverlapsSide sides letters one) (OverlapsSide sides letters) (λ one both. both.1) found below.each;
  all = λ one overlap. let within = overlap.within in below.all one (omega arith) overlap;
  apart = below.apart;
}
