-- Of the marked items of a part the one that comes first in the list stands first.
use Rattle.std.proofs.Common.{◌≡◌, ◌≢◌, ℕ, ◌+◌, ◌<◌, ◌≤◌, List, length, get_or, take, Contains, refl, sym, ap, ◌∙◌, subst, inl, inr, arith, length-take, get_or-take}
use Rattle.std.proofs.lemmas.Bool.{cases_eq, cases_lt}
use Rattle.std.proofs.lemmas.List.{get_or_default}
use Rattle.kb_fsamin.specs.declared.partition.Partition.{Partition}
use Rattle.kb_fsamin.specs.Partitions.{part_of, part_at, range_of, AreDivided, AreLed, AreMarked, HasFirst, IsArranged, IsDivided, IsFirst, IsMarkedIn, IsMarkedMore}
use Rattle.kb_fsamin.proofs.Ranges.{marked_first, middle_is}

-- one of the first items of a list is among them
among : (items : List ℕ) (done place : ℕ) → done ≤ length items → place < done → Contains (take done items) (get_or items place 0)
among items done place all h = (
  place,
  omega (arith, length-take done items),
  get_or-take done items place (get_or items place 0) h ∙ get_or_default items place (get_or items place 0) 0 (omega arith),
)

-- where one of the first items of a list stands in it
listed_at : (items : List ℕ) (done item : ℕ) → done ≤ length items → Contains (take done items) item → (place : ℕ) × (place < done) × (get_or items place 0 ≡ item)
listed_at items done item all found =
    let low : found.0 < done = omega (arith, found.1, length-take done items) in (
      found.0,
      low,
      get_or_default items found.0 0 item (omega arith) ∙ sym (get_or-take done items found.0 item low) ∙ found.2,
    )

-- an item that stands before a marked one of its part is marked
marked_before : (parts : Partition) (item other : ℕ) → part_of parts.of.items item ≡ part_of parts.of.items other
    → get_or parts.places.items item 0 ≤ get_or parts.places.items other 0 → IsMarkedIn parts other → IsMarkedIn parts item
marked_before parts item other same before marked = omega (arith, ap (λ p. (part_at parts.parts.items p).first) same)

module _ (items : List ℕ) (done : ℕ) (old now new : Partition) (h : done < length items)
    (all : (place : ℕ) → place < length items → get_or items place 0 < length now.of.items)
    (marks : AreMarked (take done items) old now) (more : IsMarkedMore (get_or items done 0) now new) where
  in_old : (item : ℕ) → item < length now.of.items → item < length old.of.items
  in_old item low = omega (arith, ap length marks.of_is)

  in_now : (item : ℕ) → item < length new.of.items → item < length now.of.items
  in_now item low = omega (arith, ap length more.of_is)

  one_part : (item other : ℕ) → part_of new.of.items item ≡ part_of new.of.items other → part_of now.of.items item ≡ part_of now.of.items other
  one_part item other same = ap (λ o. part_of o item) (sym more.of_is) ∙ same ∙ ap (λ o. part_of o other) more.of_is

  one_part_still : (item other : ℕ) → part_of now.of.items item ≡ part_of now.of.items other → part_of new.of.items item ≡ part_of new.of.items other
  one_part_still item other same = ap (λ o. part_of o item) more.of_is ∙ same ∙ ap (λ o. part_of o other) (sym more.of_is)

  -- what is not marked stands after what is
  stands_after : (item other : ℕ) → IsMarkedIn new item → other < length now.of.items → ¬ IsMarkedIn now other → other ≢ get_or items done 0
      → part_of new.of.items other ≡ part_of new.of.items item → get_or new.places.items item 0 ≤ get_or new.places.items other 0
  stands_after item other marked low unmarked distinct same =
      elim (cases_lt (get_or new.places.items other 0) (part_at new.parts.items (part_of new.of.items other)).first) [
        | inl is_marked ↦ elim ((more.marked other low).0 is_marked) [ inl was ↦ absurd (unmarked was) | inr is ↦ absurd (distinct is) ]
        | inr after ↦ omega (arith, ap (λ p. (part_at new.parts.items p).first) same)
      ]

  -- a marked item that stands first still does
  first_stays : (item : ℕ) → item < length now.of.items → IsMarkedIn now item → IsFirst now item → IsFirst new item
  first_stays item low marked first other within same =
      let part = one_part other item same in
      let low' = in_now other within in
      let here = more.stays item low (inl marked) in
      elim (cases_lt (get_or now.places.items other 0) (part_at now.parts.items (part_of now.of.items other)).first) [
        | inl is_marked ↦ omega (arith, more.stays other low' (inl is_marked), first other low' part)
        | inr unmarked ↦ elim (cases_eq other (get_or items done 0)) [
          | inl is ↦
              let at = ap (λ x. get_or new.places.items x 0) is in
              let was = ap (λ x. get_or now.places.items x 0) is in
              let bound = ap (λ p. (part_at now.parts.items p).first) (sym part ∙ ap (part_of now.of.items) is) in
              let bound' = ap (λ p. (part_at now.parts.items p).first) part in
              omega (arith, more.goes (λ is_marked. omega arith))
          | inr distinct ↦ stands_after item other ((more.marked item low).1 (inl marked)) low' (λ is_marked. omega arith) distinct same
        ]
      ]

  -- the item that is marked now is led, or stands first
  newest : IsArranged now → HasFirst items done new
  newest arranged =
      let item = get_or items done 0 in
      let part = part_of now.of.items item in
      let low = all done h in
      let placed = arranged.stand.placed item low in
      elim (cases_lt (range_of arranged.ranges part).first (range_of arranged.ranges part).middle) [
        | inl some ↦
            let there = marked_first now arranged part placed.known some in
            let at = listed_at items done there.0 (omega arith) ((marks.marked there.0 (in_old there.0 there.1)).0 there.4) in
            let first : IsFirst now there.0 = λ other within same.
            let is = ap (λ p. (range_of arranged.ranges p).first) (same ∙ there.2) in
            omega (arith, (arranged.stand.placed other within).above, there.3) in
            record {
              earlier = at.0;
              up_to = omega (arith, at.1);
              same = one_part_still (get_or items at.0 0) item (ap (part_of now.of.items) at.2 ∙ there.2);
              first = subst (IsFirst new) (sym at.2) (first_stays there.0 there.1 there.4 first);
            }
        | inr none ↦ record {
          earlier = done;
          up_to = omega arith;
          same = refl;
          first = λ other within same. elim (cases_eq other item) [
            | inl is ↦ omega (arith, ap (λ x. get_or new.places.items x 0) is)
            | inr distinct ↦
                let low' = in_now other within in
                let part' = one_part other item same in
                let first = ap (λ p. (range_of arranged.ranges p).first) part' in
                let middle = ap (λ p. (part_at now.parts.items p).first) part' in
                stands_after item other ((more.marked item low).1 (inr refl)) low'
                (λ is_marked. omega (arith, (arranged.stand.placed other low').above, middle_is now arranged part)) distinct same
          ];
        }
      ]

  pub led_more : IsArranged now → AreLed items done now → AreLed items (done + 1) new
  led_more arranged led place below marked = elim (cases_eq place done) [
    | inl is ↦ subst (λ k. HasFirst items k new) (sym is) (newest arranged)
    | inr apart ↦
        let listed : (k : ℕ) → k < done → IsMarkedIn now (get_or items k 0) =
        λ k low. (marks.marked _ (in_old _ (all k (omega arith)))).1 (among items done k (omega arith) low) in
        let was = led place (omega arith) (listed place (omega arith)) in
        let low : was.earlier < done = omega (arith, was.up_to) in
        record {
          earlier = was.earlier;
          up_to = was.up_to;
          same = one_part_still _ _ was.same;
          first = first_stays _ (all was.earlier (omega arith)) (listed was.earlier low) was.first;
        }
  ]

-- when the parts are divided, an item that is marked still stands first in its part
pub first_now : (items : List ℕ) (place : ℕ) (old now : Partition) → place < length items
    → ((k : ℕ) → k < length items → get_or items k 0 < length old.of.items) → AreDivided items (take place items) old now
    → AreLed items (length items) now → IsMarkedIn now (get_or items place 0) → IsFirst now (get_or items place 0)
first_now items place old now h all divided led marked =
    let was = led place h marked in
    elim (cases_eq was.earlier place) [
      | inl is ↦ subst (λ k. IsFirst now (get_or items k 0)) is was.first
      | inr apart ↦
          let low : was.earlier < place = omega (arith, was.up_to) in
          let within : get_or items place 0 < length now.of.items = omega (arith, all place h, divided.split.one_each) in
          absurd (divided.cleared (get_or items was.earlier 0) (all was.earlier (omega arith)) (among items place was.earlier (omega arith) low)
          (marked_before now _ _ was.same (was.first (get_or items place 0) within (sym was.same)) marked))
    ]

pub led_divided : (items : List ℕ) (part : ℕ) (now new : Partition) → ((k : ℕ) → k < length items → get_or items k 0 < length now.of.items)
    → IsDivided part now new → AreLed items (length items) now → AreLed items (length items) new
led_divided items part now new all divided led place h marked =
    let low = all place h in
    let apart : part_of now.of.items (get_or items place 0) ≢ part = λ is. divided.cleared _ low is marked in
    let was_marked = (divided.kept _ low apart).0 marked in
    let was = led place h was_marked in
    let early : get_or items was.earlier 0 < length now.of.items = all was.earlier (omega (arith, was.up_to)) in
    let too = marked_before now _ _ was.same (was.first (get_or items place 0) low (sym was.same)) was_marked in
    record {
      earlier = was.earlier;
      up_to = was.up_to;
      same = divided.keeps _ _ early low was.same (λ _. was_marked, λ _. too);
      first = λ other within same.
          let low' : other < length now.of.items = omega (arith, divided.one_each) in
          omega (
            arith,
            ap (λ ps. get_or ps other 0) divided.places_are,
            ap (λ ps. get_or ps (get_or items was.earlier 0) 0) divided.places_are,
            was.first other low' (divided.splits other _ low' early same),
          );
    }
