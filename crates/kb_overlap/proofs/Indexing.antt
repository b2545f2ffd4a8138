-- The sorted left sides of rules, and the sorted overlaps with them.
use Rattle.std.proofs.Common.{◌≡◌, ◌≢◌, ℕ, zero, suc, ◌+◌, ◌<◌, ◌≤◌, ◌⊎◌, inl, inr, Bool, false, List, [], ◌∷◌, ◌++◌, length, get_or, drop, Some, Ordering, refl, sym, ap, ◌∙◌, subst, arith, length-drop}
use Rattle.std.specs.Prelude.{slice_get}
use Rattle.std.specs.List.Sorted.{IsPermutation, IsSortedBy}
use Rattle.std.specs.declared.cmp.Ordering.TheVariants.{Less, Equal, Greater}
use Rattle.std.specs.Ordering.{MatchOrdering, is_lt, nat_cmp, ordering_then}
use Rattle.std.specs.Cmp.{IsStrictWeakOrder, then_total, on_total, nat_cmp_total}
use Rattle.std.specs.Cmp.Lexicographic.{slice_cmp, nat_list_cmp_total}
use Rattle.std.proofs.lemmas.Bool.{cases_lt, cases_eq, true≢false}
use Rattle.std.proofs.lemmas.Cmp.{ranked}
use Rattle.std.proofs.lemmas.List.{get_or_append_left, get_or_push, length_push}
use Rattle.std.proofs.lemmas.List.Elements.{All-nil, All-push, All-contains, All-weaker}
use Rattle.std.proofs.lemmas.List.Sorted.{All-permutation, Contains-permutation, ranks_by, sorted_far}
use Rattle.std.proofs.lemmas.Option.{slice_get_within}
use Rattle.kb_word.specs.Words.{Pair}
use Rattle.kb_word.specs.Overlap.{Overlaps}
use Rattle.kb_rules.specs.Agreement.{AgreeAsFar}
use Rattle.kb_overlap.specs.Overlapping.{AreOverlaps, IsBefore, OverlapsRule}
use Rattle.kb_overlap.specs.Sides.{AreApart, AreSortedSides, Collects, IsListed, IsSideOf, OverlapsSide}
use Rattle.kb_overlap.specs.declared.left_sides.Overlap.{Overlap}
use Rattle.kb_overlap.specs.declared.walk.Side.{Side}
use Rattle.kb_overlap.proofs.Collecting.{same_overlap}
use Rattle.kb_overlap.proofs.Lists.{apart_permuted}
use Rattle.kb_rules.proofs.Superposed.{slice_get-drop, overlap-agrees}

pub listed_none : (rules : List Pair) → IsListed rules 0 []
listed_none rules = record {
  length_is = refl;
  index = λ k side within. absurd (let no : ⊥ = omega arith in no);
  each = All-nil (IsSideOf rules);
}

pub listed_more : (rules : List Pair) (count : ℕ) (sides after : List Side) (side : Side) (rule : Pair) → slice_get rules count ≡ Some rule
    → side.rule ≡ count → side.letters.now ≡ rule.0 → after ≡ sides ++ side ∷ [] → IsListed rules count sides → IsListed rules (count + 1) after
listed_more rules count sides after side rule is_rule at_count is_left is_after listed =
    let is_side : IsSideOf rules side = record {
      rule = rule;
      is_rule = ap (slice_get rules) at_count ∙ is_rule;
      left = is_left;
    } in
    let long : length (sides ++ side ∷ []) ≡ length sides + 1 = length_push sides side in
    let counted : length sides ≡ count = listed.length_is in
    let P : List Side → Type 0 = λ list. IsListed rules (count + 1) list in
    subst P (sym is_after) (record {
      length_is = omega arith;
      index = λ k d within. elim (cases_lt k (length sides)) [
        | inl earlier ↦ ap (λ (one : Side). one.rule) (get_or_append_left sides (side ∷ []) d k earlier) ∙ listed.index k d earlier
        | inr from ↦
            let last : length sides ≡ k = omega arith in
            ap (λ (one : Side). one.rule) (get_or_push sides side d k last) ∙ at_count ∙ sym counted ∙ last
      ];
      each = All-push (IsSideOf rules) sides side listed.each is_side;
    })

pub listed_all : (rules : List Pair) (count : ℕ) (sides : List Side) → count ≡ length rules → IsListed rules count sides
    → IsListed rules (length rules) sides
listed_all rules count sides e listed = rw (← e) listed

element : {X : Type 0} (xs : List X) (k : ℕ) → k < length xs → (x : X) × ((d : X) → get_or xs k d ≡ x)
element [] k low = absurd (let no : ⊥ = omega arith in no)
element (x ∷ xs) zero low = (x, λ d. refl)
element (x ∷ xs) (suc k) low = element xs k (omega arith)

-- one left side has fewer letters at the first difference, or is a prefix of the other
abbrev pub lower : Side → Side → Bool
lower one other = is_lt (slice_cmp nat_cmp one.letters.now other.letters.now)

pub lower_order : IsStrictWeakOrder lower
lower_order = ranks_by nat_list_cmp_total (λ (side : Side). side.letters.now)

-- the left sides of all rules, sorted
pub sorted_sides : (rules : List Pair) (listed sides : List Side) → IsListed rules (length rules) listed → IsPermutation listed sides
    → IsSortedBy lower sides → AreSortedSides rules sides
sorted_sides rules listed sides is_listed moved sorted =
    let index : Side → ℕ = λ side. side.rule in
    let listed_apart : AreApart listed = λ i j d less within e.
    let first : index (get_or listed i d) ≡ i = is_listed.index i d (omega arith) in
    let second : index (get_or listed j d) ≡ j = is_listed.index j d within in
    absurd (let no : ⊥ = omega arith in no) in
    let counted : length listed ≡ length rules = is_listed.length_is in
    record {
      each = All-permutation (IsSideOf rules) listed sides moved is_listed.each;
      every = λ k low.
          let within : k < length listed = omega arith in
          let one = element listed k within in (
            one.0,
            Contains-permutation listed sides one.0 moved (k, within, one.1 one.0),
            sym (ap index (one.1 one.0)) ∙ is_listed.index k one.0 within,
          );
      apart = apart_permuted index listed sides moved listed_apart;
      in_order = λ i j d less within. sorted_far lower lower_order sides sorted i j d (omega arith) within;
    }

-- an overlap with a left side is one with a rule
rule_of_side : (rules : List Pair) (sides : List Side) (l : List ℕ) (one : Overlap) → AreSortedSides rules sides → OverlapsSide sides l one
    → OverlapsRule rules l one.rule one.place
rule_of_side rules sides l one sorted overlap =
    let side = overlap.side in
    let is_side : IsSideOf rules side = All-contains (IsSideOf rules) sides side sorted.each overlap.is_side in
    let meets : Overlaps l side.letters.now one.place = record {
      within = overlap.within;
      agree = λ k low high. sym (slice_get-drop one.place l k) ∙ overlap.agree k (omega (arith, length-drop one.place l)) high;
    } in
    let P : List ℕ → Type 0 = λ m. Overlaps l m one.place in
    record {
      rule = is_side.rule;
      is_rule = ap (slice_get rules) (sym overlap.rule) ∙ is_side.is_rule;
      overlaps = subst P is_side.left meets;
    }

some-injective : {x y : Pair} → Some x ≡ Some y → x ≡ y
some-injective e = cc

-- and the other way round
side_of_rule : (rules : List Pair) (sides : List Side) (l : List ℕ) (one : Overlap) → AreSortedSides rules sides
    → OverlapsRule rules l one.rule one.place → OverlapsSide sides l one
side_of_rule rules sides l one sorted overlap =
    let found = sorted.every one.rule (slice_get_within rules one.rule overlap.rule overlap.is_rule) in
    let is_side : IsSideOf rules found.0 = All-contains (IsSideOf rules) sides found.0 sorted.each found.1 in
    let same : is_side.rule ≡ overlap.rule =
    some-injective (sym is_side.is_rule ∙ ap (slice_get rules) found.2 ∙ overlap.is_rule) in
    let left : overlap.rule.0 ≡ found.0.letters.now = sym (is_side.left ∙ ap (λ (pair : Pair). pair.0) same) in
    let P : List ℕ → Type 0 = λ m. AgreeAsFar (drop one.place l) m in
    record {
      side = found.0;
      is_side = found.1;
      rule = found.2;
      within = overlap.overlaps.within;
      agree = subst P left (overlap-agrees l overlap.rule.0 one.place overlap.overlaps);
    }

-- what the comparison of rules and then of places says
first_up : (a b : ℕ) (o s : Ordering) → MatchOrdering o (b < a) (b ≡ a) (a < b) → is_lt (ordering_then o s) ≡ false
    → (a < b) ⊎ ((a ≡ b) × (is_lt s ≡ false))
first_up a b Less s m e = absurd (true≢false e)
first_up a b Equal s m e = inr (sym m, e)
first_up a b Greater s m e = inl m

second_up : (p q : ℕ) (s : Ordering) → MatchOrdering s (q < p) (q ≡ p) (p < q) → is_lt s ≡ false → p ≤ q
second_up p q Less m e = absurd (true≢false e)
second_up p q Equal m e = omega arith
second_up p q Greater m e = omega arith

abbrev pub comes_first : Overlap → Overlap → Bool
comes_first one other = is_lt (ordering_then (nat_cmp one.rule other.rule) (nat_cmp one.place other.place))

comes_first_order : IsStrictWeakOrder comes_first
comes_first_order =
    ranks_by (then_total (on_total (λ (one : Overlap). one.rule) nat_cmp_total) (on_total (λ (one : Overlap). one.place) nat_cmp_total)) (λ one. one)

before : (one other : Overlap) → comes_first other one ≡ false → one ≢ other → IsBefore one other
before one other e apart =
    elim (first_up one.rule other.rule _ _ (ranked other.rule one.rule (nat_cmp other.rule one.rule) refl) e) [
      | inl less ↦ inl less
      | inr (same, f) ↦
          let up : one.place ≤ other.place = second_up one.place other.place _ (ranked other.place one.place (nat_cmp other.place one.place) refl) f in
          elim (cases_eq one.place other.place) [
            | inl at ↦ absurd (apart (same_overlap other one.rule one.place same at))
            | inr differ ↦ let less : one.place < other.place = omega arith in inr (same, less)
          ]
    ]

-- the sorted overlaps with the left sides are those with the rules
pub sorted_overlaps : (rules : List Pair) (sides : List Side) (l : List ℕ) (found sorted : List Overlap) → AreSortedSides rules sides
    → Collects sides l found → IsPermutation found sorted → IsSortedBy comes_first sorted → AreOverlaps rules l sorted
sorted_overlaps rules sides l found sorted sides_sorted collected moved up = record {
  each = All-weaker (OverlapsSide sides l) (λ one. OverlapsRule rules l one.rule one.place)
      (λ one overlap. rule_of_side rules sides l one sides_sorted overlap) sorted
      (All-permutation (OverlapsSide sides l) found sorted moved collected.each);
  all = λ one overlap. Contains-permutation found sorted one moved (collected.all one (side_of_rule rules sides l one sides_sorted overlap));
  ascending = λ i j d less within.
      before _ _ (sorted_far comes_first comes_first_order sorted up i j d (omega arith) within)
      (apart_permuted (λ (one : Overlap). one) found sorted moved (collected.apart sides_sorted.apart) i j d less within);
}
