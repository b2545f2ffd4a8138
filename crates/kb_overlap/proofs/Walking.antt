-- What a walk over the left sides along the letters of a word finds.
use Rattle.std.proofs.Common.{◌≡◌, ◌≢◌, ℕ, zero, suc, ◌<◌, ◌≤◌, inl, inr, Bool, false, eqb, List, [], ◌∷◌, ◌++◌, length, drop, map, get_or, None, Some, Ordering, refl, sym, ap, ◌∙◌, arith, drop-cons, suc-le-suc, zero-le}
use Rattle.std.specs.List.{Contains}
use Rattle.std.specs.List.Sorted.{IsNonDecreasingBy}
use Rattle.std.specs.declared.cmp.Ordering.TheVariants.{Less, Equal, Greater}
use Rattle.std.specs.Ordering.{MatchOrdering, is_lt, nat_cmp, ordering_then}
use Rattle.std.specs.Cmp.{tied_itself, nat_cmp_total}
use Rattle.std.specs.Cmp.Lexicographic.{slice_cmp}
use Rattle.std.proofs.lemmas.Bool.{cases_eq, true≢false, eqb-true, eq-eqb}
use Rattle.std.proofs.lemmas.Cmp.{ranked}
use Rattle.std.proofs.lemmas.List.Elements.{filter_passes, All-contains_itself, Contains-append_left, Contains-append_right, Contains-append_cases}
use Rattle.std.proofs.lemmas.List.{append-nil, append_assoc, map-append, drop_all, nil_from_length}
use Rattle.std.proofs.lemmas.List.Kept.{AllPairs-filter}
use Rattle.kb_rules.specs.Agreement.{AgreeAsFar}
use Rattle.kb_overlap.specs.Sides.{Adds, AreApart, InOrder, NotAfter, at_place, with_letter}
use Rattle.kb_overlap.specs.declared.left_sides.Overlap.{Overlap}
use Rattle.kb_overlap.specs.declared.walk.Side.{Side}
use Rattle.kb_overlap.proofs.Keys.{key_at, with_key, with_letter_by_key}
use Rattle.kb_overlap.proofs.Lists.{of_filter, in_filter, pairs_append, one_element}

-- a word at a depth: it has ended, or a letter stands there
data AtDepth (depth : ℕ) (letters : List ℕ) : Type 0 where
  at_end : key_at depth letters ≡ 0 → drop depth letters ≡ [] → AtDepth depth letters
  at_letter : (x : ℕ) → key_at depth letters ≡ suc x → drop depth letters ≡ x ∷ drop (suc depth) letters → AtDepth depth letters

at_depth : (depth : ℕ) (letters : List ℕ) → AtDepth depth letters
at_depth zero [] = at_end refl refl
at_depth zero (x ∷ letters) = at_letter x refl refl
at_depth (suc depth) [] = at_end refl refl
at_depth (suc depth) (x ∷ letters) = elim (at_depth depth letters) [ at_end a b ↦ at_end a b | at_letter y a b ↦ at_letter y a b ]

-- the comparison of lists that begin with letters
first_not_after : (x y : ℕ) (o s : Ordering) → MatchOrdering o (y < x) (y ≡ x) (x < y) → is_lt (ordering_then o s) ≡ false → x ≤ y
first_not_after x y Less s m e = absurd (true≢false e)
first_not_after x y Equal s m e = omega arith
first_not_after x y Greater s m e = omega arith

keys_ordered : (depth : ℕ) (u v : List ℕ) → is_lt (slice_cmp nat_cmp (drop depth v) (drop depth u)) ≡ false → key_at depth u ≤ key_at depth v
keys_ordered depth u v e = elim (at_depth depth u) [
  | at_end key _ ↦ rw key zero-le
  | at_letter x key rest ↦ elim (at_depth depth v) [
    | at_end key' rest' ↦ absurd (true≢false (rw (rest, rest') at e))
    | at_letter y key' rest' ↦
        let compared : is_lt (ordering_then (nat_cmp y x) (slice_cmp nat_cmp (drop (suc depth) v) (drop (suc depth) u))) ≡ false =
        rw (rest, rest') at e in
        let up : x ≤ y = first_not_after x y (nat_cmp y x) _ (ranked y x (nat_cmp y x) refl) compared in
        rw (key, key') (suc-le-suc up)
  ]
]

rest_ordered : (depth x : ℕ) (u v : List ℕ) → key_at depth u ≡ suc x → key_at depth v ≡ suc x
    → is_lt (slice_cmp nat_cmp (drop depth v) (drop depth u)) ≡ false
    → is_lt (slice_cmp nat_cmp (drop (suc depth) v) (drop (suc depth) u)) ≡ false
rest_ordered depth x u v is_x is_x' e = elim (at_depth depth u) [
  | at_end key _ ↦ absurd (let no : ⊥ = omega arith in no)
  | at_letter y key rest ↦ elim (at_depth depth v) [
    | at_end key' _ ↦ absurd (let no : ⊥ = omega arith in no)
    | at_letter z key' rest' ↦
        let same : z ≡ y = omega arith in
        let compared : is_lt (ordering_then (nat_cmp z y) (slice_cmp nat_cmp (drop (suc depth) v) (drop (suc depth) u))) ≡ false =
        rw (rest, rest') at e in
        let ties : nat_cmp z y ≡ Equal = ap (λ n. nat_cmp n y) same ∙ tied_itself nat_cmp_total y in
        rw ties at compared
  ]
]

-- the keys of left sides in order don't fall
pub keys_rise : (depth : ℕ) (sides : List Side) → InOrder depth sides → IsNonDecreasingBy (λ side. key_at depth side.letters.now) sides
keys_rise depth sides order i j d le within = elim (cases_eq i j) [
  | inl same ↦ omega (arith, ap (λ k. key_at depth (get_or sides k d).letters.now) same)
  | inr apart ↦ keys_ordered depth _ _ (order i j d (omega arith) within)
]

-- left sides that have one letter at the depth are in order from the next depth on
pub order_more : (depth x : ℕ) (sides : List Side) → InOrder depth sides → InOrder (suc depth) (with_key depth (suc x) sides)
order_more depth x sides order i j d less within =
    let has_key : Side → Bool = λ side. eqb (key_at depth side.letters.now) (suc x) in
    let passes = filter_passes has_key sides in
    rest_ordered depth x _ _ (eqb-true _ _ (passes i d (omega arith))) (eqb-true _ _ (passes j d within))
    (AllPairs-filter (NotAfter depth) has_key sides order i j d less within)

-- the left sides that agree with these letters from a depth on, in the order in which the walk comes to them
abbrev pub walked : ℕ → List ℕ → List Side → List Side
walked depth [] sides = sides
walked depth (x ∷ letters) sides = with_key depth 0 sides ++ walked (suc depth) letters (with_key depth (suc x) sides)

pub walked_none : (depth : ℕ) (letters : List ℕ) → walked depth letters [] ≡ []
walked_none depth [] = refl
walked_none depth (x ∷ letters) = walked_none (suc depth) letters

of_key : (depth sought : ℕ) (sides : List Side) (side : Side) → Contains (with_key depth sought sides) side
    → Contains sides side × (key_at depth side.letters.now ≡ sought)
of_key depth sought sides side holds =
    let both = of_filter (λ (one : Side). eqb (key_at depth one.letters.now) sought) sides side holds in
    (both.0, eqb-true _ _ both.1)

in_key : (depth sought : ℕ) (sides : List Side) (side : Side) → Contains sides side → key_at depth side.letters.now ≡ sought
    → Contains (with_key depth sought sides) side
in_key depth sought sides side holds e =
    in_filter (λ (one : Side). eqb (key_at depth one.letters.now) sought) sides side holds (eq-eqb _ _ e)

agree_nil : (letters : List ℕ) → AgreeAsFar letters []
agree_nil letters k low high = absurd (let no : ⊥ = omega arith in no)

agree_more : (x : ℕ) (u v : List ℕ) → AgreeAsFar u v → AgreeAsFar (x ∷ u) (x ∷ v)
agree_more x u v agree zero low high = refl
agree_more x u v agree (suc k) low high = agree k (omega arith) (omega arith)

agree_rest : (x y : ℕ) (u v : List ℕ) → AgreeAsFar (x ∷ u) (y ∷ v) → AgreeAsFar u v
agree_rest x y u v agree k low high = agree (suc k) (suc-le-suc low) (suc-le-suc high)

same_some : {x y : ℕ} → Some x ≡ Some y → x ≡ y
same_some e = cc

walked_agree : (depth : ℕ) (letters : List ℕ) (sides : List Side) (side : Side) → Contains (walked depth letters sides) side
    → Contains sides side × AgreeAsFar letters (drop depth side.letters.now)
walked_agree depth [] sides side holds = (holds, λ k low high. absurd (let no : ⊥ = omega arith in no))
walked_agree depth (x ∷ letters) sides side holds =
    let m = side.letters.now in
    elim (Contains-append_cases (with_key depth 0 sides) (walked (suc depth) letters (with_key depth (suc x) sides)) side holds) [
      | inl here ↦
          let found = of_key depth 0 sides side here in
          elim (at_depth depth m) [
            | at_end key rest ↦ (found.0, rw rest (agree_nil (x ∷ letters)))
            | at_letter y key rest ↦ absurd (let e : key_at depth m ≡ 0 = found.1 in let no : ⊥ = omega arith in no)
          ]
      | inr later ↦
          let deeper = walked_agree (suc depth) letters (with_key depth (suc x) sides) side later in
          let found = of_key depth (suc x) sides side deeper.0 in
          elim (at_depth depth m) [
            | at_end key rest ↦ absurd (let e : key_at depth m ≡ suc x = found.1 in let no : ⊥ = omega arith in no)
            | at_letter y key rest ↦
                let e : key_at depth m ≡ suc x = found.1 in
                let same : y ≡ x = omega arith in
                let whole : drop depth m ≡ x ∷ drop (suc depth) m = rest ∙ ap (λ z. z ∷ drop (suc depth) m) same in
                (found.0, rw whole (agree_more x letters (drop (suc depth) m) deeper.1))
          ]
    ]

agree_walked : (depth : ℕ) (letters : List ℕ) (sides : List Side) (side : Side) → Contains sides side
    → AgreeAsFar letters (drop depth side.letters.now) → Contains (walked depth letters sides) side
agree_walked depth [] sides side holds agree = holds
agree_walked depth (x ∷ letters) sides side holds agree =
    let m = side.letters.now in
    let here = with_key depth 0 sides in
    let later = walked (suc depth) letters (with_key depth (suc x) sides) in
    elim (at_depth depth m) [
      | at_end key rest ↦ Contains-append_left here later side (in_key depth 0 sides side holds key)
      | at_letter y key rest ↦
          let along : AgreeAsFar (x ∷ letters) (y ∷ drop (suc depth) m) = rw rest at agree in
          let same : x ≡ y = same_some (along zero (suc-le-suc zero-le) (suc-le-suc zero-le)) in
          let is_key : key_at depth m ≡ suc x = omega arith in
          Contains-append_right here later side
          (agree_walked (suc depth) letters (with_key depth (suc x) sides) side (in_key depth (suc x) sides side holds is_key)
          (agree_rest x y letters (drop (suc depth) m) along))
    ]

walked_apart : (depth : ℕ) (letters : List ℕ) (sides : List Side) → AreApart sides → AreApart (walked depth letters sides)
walked_apart depth [] sides apart = apart
walked_apart depth (x ∷ letters) sides apart =
    let differ : Side → Side → Type 0 = λ one other. one.rule ≢ other.rule in
    let ends : Side → Bool = λ side. eqb (key_at depth side.letters.now) 0 in
    let has_letter : Side → Bool = λ side. eqb (key_at depth side.letters.now) (suc x) in
    let here = with_key depth 0 sides in
    let later = walked (suc depth) letters (with_key depth (suc x) sides) in
    pairs_append differ here later (AllPairs-filter differ ends sides apart)
    (walked_apart (suc depth) letters (with_key depth (suc x) sides) (AllPairs-filter differ has_letter sides apart))
    (λ i d low j e high same.
    let one = get_or here i d in let other = get_or later j e in
    let one_of = of_key depth 0 sides one (All-contains_itself here i d low) in
    let deeper = walked_agree (suc depth) letters (with_key depth (suc x) sides) other (All-contains_itself later j e high) in
    let other_of = of_key depth (suc x) sides other deeper.0 in
    let is_one : one ≡ other = one_element (λ (side : Side). side.rule) sides apart one other one_of.0 other_of.0 same in
    let keys : key_at depth one.letters.now ≡ key_at depth other.letters.now = ap (λ (side : Side). key_at depth side.letters.now) is_one in
    let first : key_at depth one.letters.now ≡ 0 = one_of.1 in
    let second : key_at depth other.letters.now ≡ suc x = other_of.1 in
    absurd (let no : ⊥ = omega arith in no))

-- the walk from the first letter on adds what agrees
pub adds_walked : (sides : List Side) (letters : List ℕ) (place : ℕ) {before after : List Overlap}
    → after ≡ before ++ map (at_place place) (walked 0 letters sides) → Adds sides letters place before after
adds_walked sides letters place e = record {
  added = walked 0 letters sides;
  is = e;
  exact = λ side. (walked_agree 0 letters sides side, λ both. agree_walked 0 letters sides side both.0 both.1);
  apart = walked_apart 0 letters sides;
}

-- what was found by this depth, and what the rest of the walk finds among these left sides, make up the whole walk
abbrev pub IsWalkSoFar : List Side → List ℕ → ℕ → List Overlap → ℕ → List Side → List Overlap → Type 0
IsWalkSoFar sides letters place before depth begun found =
    found ++ map (at_place place) (walked depth (drop depth letters) begun) ≡ before ++ map (at_place place) (walked 0 letters sides)

-- a step of the walk: with the letter x at the depth, what ends there is added, and what goes on with x is left
pub walk_more : (depth next x : ℕ) (letters : List ℕ) (sides begun stopped longer : List Side) (place : ℕ) (before found after : List Overlap)
    → depth < length letters → x ≡ get_or letters depth x → next ≡ suc depth
    → stopped ≡ with_letter depth None begun → longer ≡ with_letter depth (Some x) begun → after ≡ found ++ map (at_place place) stopped
    → InOrder depth begun
    → IsWalkSoFar sides letters place before depth begun found
    → InOrder next longer × IsWalkSoFar sides letters place before next longer after
walk_more depth next x letters sides begun stopped longer place before found after within is_x is_next is_ended is_longer is_after order so_far =
    let here : List Overlap = map (at_place place) (with_key depth 0 begun) in
    let deeper = walked (suc depth) (drop (suc depth) letters) (with_key depth (suc x) begun) in
    let rest : drop depth letters ≡ x ∷ drop (suc depth) letters =
    drop-cons letters depth x within ∙ ap (λ y. y ∷ drop (suc depth) letters) (sym is_x) in
    let split : map (at_place place) (walked depth (drop depth letters) begun) ≡ here ++ map (at_place place) deeper =
    ap (λ (l : List ℕ). map (at_place place) (walked depth l begun)) rest ∙ map-append (at_place place) (with_key depth 0 begun) deeper in
    let whole : (found ++ here) ++ map (at_place place) deeper ≡ before ++ map (at_place place) (walked 0 letters sides) =
    append_assoc found here (map (at_place place) deeper) ∙ ap (λ l. found ++ l) (sym split) ∙ so_far in
    let is_here : stopped ≡ with_key depth 0 begun = is_ended ∙ with_letter_by_key depth None begun in
    let is_deeper : longer ≡ with_key depth (suc x) begun = is_longer ∙ with_letter_by_key depth (Some x) begun in
    (rw (is_next, is_deeper) (order_more depth x begun order), rw (is_next, is_deeper, is_after, is_here) whole)

-- the end of the walk: all left sides that are left are added
pub walk_ended : (depth : ℕ) (letters : List ℕ) (sides begun : List Side) (place : ℕ) (before found after : List Overlap)
    → length letters ≤ depth → after ≡ found ++ map (at_place place) begun
    → IsWalkSoFar sides letters place before depth begun found
    → Adds sides letters place before after
walk_ended depth letters sides begun place before found after past is_after so_far =
    let rest : drop depth letters ≡ [] = drop_all depth letters past in
    let last : map (at_place place) (walked depth (drop depth letters) begun) ≡ map (at_place place) begun =
    ap (λ (l : List ℕ). map (at_place place) (walked depth l begun)) rest in
    adds_walked sides letters place (is_after ∙ ap (λ l. found ++ l) (sym last) ∙ so_far)

-- the walk ends early where no left side is left
pub walk_left : (depth : ℕ) (letters : List ℕ) (sides begun : List Side) (place : ℕ) (before found : List Overlap) → length begun ≡ 0
    → IsWalkSoFar sides letters place before depth begun found
    → Adds sides letters place before found
walk_left depth letters sides begun place before found none so_far =
    let is_nil : begun ≡ [] = nil_from_length begun none in
    let last : map (at_place place) (walked depth (drop depth letters) begun) ≡ [] =
    ap (λ (l : List Side). map (at_place place) (walked depth (drop depth letters) l)) is_nil
    ∙ ap (map (at_place place)) (walked_none depth (drop depth letters)) in
    adds_walked sides letters place (sym (append-nil found) ∙ ap (λ l. found ++ l) (sym last) ∙ so_far)
