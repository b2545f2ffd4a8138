-- What is listed before a place, one place and one equality on.
use Rattle.std.proofs.Common.{◌≡◌, ◌⊎◌, inl, inr, ℕ, suc, ◌<◌, ◌≤◌, List, [], ◌∷◌, ◌++◌, length, get_or, slice_get, Some, None, sym, subst, refl, ap, ◌∙◌, arith}
use Rattle.std.specs.List.{Contains, AllPairs}
use Rattle.std.proofs.lemmas.Bool.{cases_lt}
use Rattle.std.proofs.lemmas.List.{map_push, get_or_append_left, get_or_push, length_push}
use Rattle.std.proofs.lemmas.List.Elements.{All-nil, All-push, All-weaker, Contains-append_left, Contains-push}
use Rattle.std.proofs.lemmas.Option.{same_Some, slice_get_within}
use Rattle.kb_diff.specs.Groups.{Group}
use Rattle.kb_diff.specs.Differences.{IsDifference, last_place}
use Rattle.kb_diff.proofs.Places.{one_difference}
use Rattle.kb_kept.specs.declared.equality.Equality.{Equality}
use Rattle.kb_kept.specs.declared.seen.Seen.{Seen}
use Rattle.kb_kept.specs.Listed.{AreListed, IsAt, IsBefore, IsFirstSeen, listed_words}
use Rattle.kb_kept.specs.Finding.{AreListedBefore, mark}

-- ---- the order of equalities and places

before_next : (seen : Seen) (index place : ℕ) → IsBefore seen (mark index place) → IsBefore seen (mark index (suc place))
before_next seen index place (inl equality) = inl equality
before_next seen index place (inr same) = inr (same.0, omega (arith, same.1))

before_or_at : (seen : Seen) (index place : ℕ) → IsBefore seen (mark index (suc place))
    → IsBefore seen (mark index place) ⊎ ((seen.equality ≡ index) × (seen.place ≡ place))
before_or_at seen index place (inl equality) = inl (inl equality)
before_or_at seen index place (inr same) = grind arith

before_equality : (seen : Seen) (index place : ℕ) → IsBefore seen (mark index place) → IsBefore seen (mark (suc index) 1)
before_equality seen index place (inl equality) = inl (omega arith)
before_equality seen index place (inr same) = inl (omega (arith, same.0))

-- ---- nothing is listed

pub listed_none : (group : Group) (equalities : List Equality) → AreListedBefore group equalities [] (mark 0 1)
listed_none group equalities = record {
  each = All-nil (IsFirstSeen group equalities);
  not_empty = All-nil (λ (seen : Seen). seen.word ≡ [] → ⊥);
  ascending = λ i j d less within. absurd (omega arith);
  before = All-nil (λ (seen : Seen). IsBefore seen (mark 0 1));
  all = λ seen at before. elim before [
    | inl equality ↦ absurd (omega (arith, equality))
    | inr same ↦ absurd (omega (arith, same.1, at.positive))
  ];
}

-- ---- one place on

module _ (group : Group) (equalities : List Equality) (kept : List Seen) (index place : ℕ) (word : List ℕ) where
  abbrev here : Seen
  here = record { word = word; equality = index; place = place }

  module _ (at : IsAt group equalities here) (listed : AreListedBefore group equalities kept (mark index place)) where
    -- what is at the place has its difference
    same_at : (seen : Seen) → IsAt group equalities seen → seen.equality ≡ index → seen.place ≡ place → seen.word ≡ word
    same_at seen is same_equality same_place =
        let same : is.equality ≡ at.equality = same_Some is.equality at.equality (sym is.is_equality ∙ (ap (slice_get equalities) same_equality ∙ at.is_equality)) in
        let P : Equality → Type 0 = λ p. IsDifference group p.u p.v seen.place seen.word in
        let Q : ℕ → Type 0 = λ k. IsDifference group at.equality.u at.equality.v k seen.word in
        one_difference group at.equality.u at.equality.v place seen.word word (subst Q same_place (subst P same is.difference)) at.difference

    all_next : (words : List (List ℕ)) → ((other : List ℕ) → Contains (listed_words kept) other → Contains words other) → Contains words word
        → (seen : Seen) → IsAt group equalities seen → IsBefore seen (mark index (suc place)) → Contains words seen.word
    all_next words more has seen is before = elim (before_or_at seen index place before) [
      | inl earlier ↦ more seen.word (listed.all seen is earlier)
      | inr same ↦ let P : List ℕ → Type 0 = λ w. Contains words w in subst P (sym (same_at seen is same.0 same.1)) has
    ]

    pub listed_known : Contains (listed_words kept) word → AreListedBefore group equalities kept (mark index (suc place))
    listed_known has = record {
      each = listed.each;
      not_empty = listed.not_empty;
      ascending = listed.ascending;
      before = All-weaker (λ (seen : Seen). IsBefore seen (mark index place)) (λ (seen : Seen). IsBefore seen (mark index (suc place)))
          (λ seen before. before_next seen index place before) kept listed.before;
      all = all_next (listed_words kept) (λ other among. among) has;
    }

    module _ (lacks : ¬ Contains (listed_words kept) word) where
      pub first_seen : IsFirstSeen group equalities here
      first_seen = record {
        at = at;
        first = λ other is same before.
            let P : List ℕ → Type 0 = λ w. Contains (listed_words kept) w in
            lacks (subst P same (listed.all other is before));
      }

      not_empty_here : word ≡ [] → ⊥
      not_empty_here same = lacks (0, (let l : 0 < length (listed_words kept) = omega arith in l), sym same)

      ascending_push : AllPairs IsBefore (kept ++ here ∷ [])
      ascending_push i j d less within =
          let long = length_push kept here in
          let one : get_or (kept ++ here ∷ []) i d ≡ get_or kept i d = get_or_append_left kept (here ∷ []) d i (omega arith) in
          let P : Seen → Type 0 = λ s. IsBefore s (get_or (kept ++ here ∷ []) j d) in
          let Q : Seen → Type 0 = λ s. IsBefore (get_or kept i d) s in
          elim (cases_lt j (length kept)) [
            | inl inside ↦
                let other : get_or (kept ++ here ∷ []) j d ≡ get_or kept j d = get_or_append_left kept (here ∷ []) d j inside in
                subst P (sym one) (subst Q (sym other) (listed.ascending i j d less inside))
            | inr past ↦
                let other : get_or (kept ++ here ∷ []) j d ≡ here = get_or_push kept here d j (omega arith) in
                subst P (sym one) (subst Q (sym other) (listed.before i d (omega arith)))
          ]

      words_push : listed_words (kept ++ here ∷ []) ≡ listed_words kept ++ word ∷ []
      words_push = ap (λ (l : List (List ℕ)). [] ∷ l) (map_push (λ (seen : Seen). seen.word) kept here)

      pub listed_first : AreListedBefore group equalities (kept ++ here ∷ []) (mark index (suc place))
      listed_first =
          let P : List (List ℕ) → Type 0 = λ words. Contains words word in
          let Q : List ℕ → List (List ℕ) → Type 0 = λ other words. Contains words other in record {
            each = All-push (IsFirstSeen group equalities) kept here listed.each first_seen;
            not_empty = All-push (λ (seen : Seen). seen.word ≡ [] → ⊥) kept here listed.not_empty not_empty_here;
            ascending = ascending_push;
            before = All-push (λ (seen : Seen). IsBefore seen (mark index (suc place))) kept here
                (All-weaker (λ (seen : Seen). IsBefore seen (mark index place)) (λ (seen : Seen). IsBefore seen (mark index (suc place)))
                (λ seen before. before_next seen index place before) kept listed.before)
                (inr (refl, (let less : place < suc place = omega arith in less)));
            all = all_next (listed_words (kept ++ here ∷ []))
                (λ other among. subst (Q other) (sym words_push) (Contains-append_left (listed_words kept) (word ∷ []) other among))
                (subst P (sym words_push) (Contains-push (listed_words kept) word));
          }

      -- the listing ends where there is no room
      pub listed_up_to : AreListed group equalities kept (Some here)
      listed_up_to = record {
        each = listed.each;
        not_empty = listed.not_empty;
        ascending = listed.ascending;
        before = listed.before;
        all = listed.all;
        end = record { first_seen = first_seen; missing = lacks };
      }

-- ---- one equality on

before_last : (group : Group) (equalities : List Equality) (index place : ℕ) (equality : Equality) (seen : Seen) → slice_get equalities index ≡ Some equality
    → last_place equality.u equality.v < place → IsAt group equalities seen → IsBefore seen (mark (suc index) 1) → IsBefore seen (mark index place)
before_last group equalities index place equality seen is past at (inr same) = absurd (omega (arith, same.1, at.positive))
before_last group equalities index place equality seen is past at (inl less) = elim (cases_lt seen.equality index) [
  | inl earlier ↦ inl earlier
  | inr later ↦
      let here : seen.equality ≡ index = omega arith in
      let same : at.equality ≡ equality = same_Some at.equality equality (sym at.is_equality ∙ (ap (slice_get equalities) here ∙ is)) in
      let last : last_place at.equality.u at.equality.v ≡ last_place equality.u equality.v = ap (λ (p : Equality). last_place p.u p.v) same in
      let within = at.within in
      let less : seen.place < place = omega arith in inr (here, less)
]

pub listed_equality : (group : Group) (equalities : List Equality) (kept : List Seen) (index place : ℕ) (equality : Equality) → slice_get equalities index ≡ Some equality
    → last_place equality.u equality.v < place → AreListedBefore group equalities kept (mark index place) → AreListedBefore group equalities kept (mark (suc index) 1)
listed_equality group equalities kept index place equality is past listed = record {
  each = listed.each;
  not_empty = listed.not_empty;
  ascending = listed.ascending;
  before = All-weaker (λ (seen : Seen). IsBefore seen (mark index place)) (λ (seen : Seen). IsBefore seen (mark (suc index) 1))
      (λ seen before. before_equality seen index place before) kept listed.before;
  all = λ seen at before. listed.all seen at (before_last group equalities index place equality seen is past at before);
}

-- after the last equality all is listed
pub listed_whole : (group : Group) (equalities : List Equality) (kept : List Seen) (index place : ℕ) → length equalities ≤ index
    → AreListedBefore group equalities kept (mark index place) → AreListed group equalities kept None
listed_whole group equalities kept index place past listed = record {
  each = listed.each;
  not_empty = listed.not_empty;
  ascending = listed.ascending;
  before = λ k d within. tt;
  all = λ seen at all. listed.all seen at (inl (let within = slice_get_within equalities seen.equality at.equality at.is_equality in omega arith));
  end = tt;
}
