-- Items are marked one after another, and then their parts are divided.
use Rattle.std.proofs.Common.{◌≡◌, ◌≢◌, ◌⊎◌, ◌↔◌, ℕ, ◌+◌, ◌<◌, List, [], ◌∷◌, ◌++◌, length, get_or, take, Contains, refl, sym, ap, ◌∙◌, subst, inl, inr, arith}
use Rattle.std.proofs.lemmas.List.{take_more}
use Rattle.std.proofs.lemmas.List.Elements.{Contains-push, Contains-append_left, Contains-push_cases}
use Rattle.kb_fsamin.specs.declared.partition.Partition.{Partition}
use Rattle.kb_fsamin.specs.Partitions.{part_of, IsArranged, IsMarkedIn, IsMarkedMore, IsPartition, IsSplitBy, IsDivided, AreMarked, AreDivided, first_of, part_at, range_of}
use Rattle.kb_fsamin.proofs.Ranges.{middle_is, range_each, unmarked_first}

-- what is among the items up to the next
pub more_cases : (items : List ℕ) (place item : ℕ) → place < length items → Contains (take (place + 1) items) item
    → Contains (take place items) item ⊎ (get_or items place 0 ≡ item)
more_cases items place item h found =
    Contains-push_cases (take place items) (get_or items place 0) item (subst (λ l. Contains l item) (take_more items place 0 h) found)

pub more_left : (items : List ℕ) (place item : ℕ) → place < length items → Contains (take place items) item → Contains (take (place + 1) items) item
more_left items place item h found =
    subst (λ l. Contains l item) (sym (take_more items place 0 h)) (Contains-append_left (take place items) (get_or items place 0 ∷ []) item found)

pub more_last : (items : List ℕ) (place item : ℕ) → place < length items → get_or items place 0 ≡ item → Contains (take (place + 1) items) item
more_last items place item h is =
    subst (λ l. Contains l item) (sym (take_more items place 0 h))
    (subst (Contains (take place items ++ get_or items place 0 ∷ [])) is (Contains-push (take place items) (get_or items place 0)))

pub marked_none : (parts : Partition) → IsPartition parts → AreMarked [] parts parts
marked_none parts is = record {
  arranged = is.arranged;
  of_is = refl;
  marked = λ item h. (λ marked. absurd (is.unmarked item h marked), λ found. absurd (omega (arith, found.1)));
}

pub marked_step : (items : List ℕ) (place : ℕ) (old now new : Partition) → place < length items → AreMarked (take place items) old now
    → IsArranged new → IsMarkedMore (get_or items place 0) now new → AreMarked (take (place + 1) items) old new
marked_step items place old now new h before arranged more = record {
  arranged = arranged;
  of_is = more.of_is ∙ before.of_is;
  marked = λ item low.
      let was = before.marked item low in
      let is = more.marked item (omega (arith, ap length before.of_is)) in (
        λ marked. elim (is.0 marked) [
          | inl early ↦ more_left items place item h (was.0 early)
          | inr last ↦ more_last items place item h (sym last)
        ],
        λ found. elim (more_cases items place item h found) [
          | inl early ↦ is.1 (inl (was.1 early))
          | inr last ↦ is.1 (inr (sym last))
        ],
      );
}

pub divided_none : (items : List ℕ) (old now : Partition) → AreMarked items old now → AreDivided items [] old now
divided_none items old now marked = record {
  arranged = marked.arranged;
  split = subst (IsSplitBy items old.of.items) (sym marked.of_is) (record {
    one_each = refl;
    keeps = λ one other h i same both. same;
    splits = λ one other h i same. same;
  });
  sound = λ item h. (marked.marked item h).0;
  cleared = λ item h found. absurd (omega (arith, found.1));
  even = λ one other h i same both mark. (marked.marked other i).1 (both.0 ((marked.marked one h).0 mark));
}

module _ (items : List ℕ) (place : ℕ) (old now new : Partition) (part : ℕ) (h : place < length items)
    (part_is : part ≡ part_of now.of.items (get_or items place 0)) (before : AreDivided items (take place items) old now)
    (arranged : IsArranged new) (divided : IsDivided part now new) where
  low : (item : ℕ) → item < length old.of.items → item < length now.of.items
  low item within = omega (arith, before.split.one_each)

  -- what is marked still was marked, and is in another part
  marked_before : (item : ℕ) → item < length old.of.items → IsMarkedIn new item → (part_of now.of.items item ≢ part) × IsMarkedIn now item
  marked_before item within mark =
      let apart : part_of now.of.items item ≢ part = λ is. divided.cleared item (low item within) is mark in
      (apart, (divided.kept item (low item within) apart).0 mark)

  both_marked : (one other : ℕ) → one < length old.of.items → other < length old.of.items
      → part_of now.of.items one ≡ part_of now.of.items other → Contains items one ↔ Contains items other → IsMarkedIn now one ↔ IsMarkedIn now other
  both_marked one other i j same both = (before.even one other i j same both, before.even other one j i (sym same) (both.1, both.0))

  pub divided_step : AreDivided items (take (place + 1) items) old new
  divided_step = record {
    arranged = arranged;
    split = record {
      one_each = divided.one_each ∙ before.split.one_each;
      keeps = λ one other i j same both.
          let still = before.split.keeps one other i j same both in
          divided.keeps one other (low one i) (low other j) still (both_marked one other i j still both);
      splits = λ one other i j same. before.split.splits one other i j (divided.splits one other (low one i) (low other j) same);
    };
    sound = λ item i mark. before.sound item i (marked_before item i mark).1;
    cleared = λ item i found mark.
        let was = marked_before item i mark in
        elim (more_cases items place item h found) [
          | inl early ↦ before.cleared item i early was.1
          | inr last ↦ was.0 (ap (part_of now.of.items) (sym last) ∙ sym part_is)
        ];
    even = λ one other i j same both mark.
        let was = marked_before one i mark in
        let still = divided.splits one other (low one i) (low other j) same in
        (divided.kept other (low other j) (λ is. was.0 (still ∙ is))).1 (before.even one other i j still both was.1);
  }

-- an item that is not marked any more is passed over
pub divided_skip : (items : List ℕ) (place : ℕ) (old now : Partition) → place < length items → AreDivided items (take place items) old now
    → ¬ IsMarkedIn now (get_or items place 0) → AreDivided items (take (place + 1) items) old now
divided_skip items place old now h before unmarked = record {
  arranged = before.arranged;
  split = before.split;
  sound = before.sound;
  cleared = λ item i found. elim (more_cases items place item h found) [
    | inl early ↦ before.cleared item i early
    | inr last ↦ subst (λ x. ¬ IsMarkedIn now x) last unmarked
  ];
  even = before.even;
}

pub divided_all : (items : List ℕ) (old now : Partition) → AreDivided items items old now → IsPartition now
divided_all items old now all = record {
  arranged = all.arranged;
  unmarked = λ item h mark.
      let low : item < length old.of.items = omega (arith, all.split.one_each) in
      all.cleared item low (all.sound item low mark) mark;
}

-- the first item of an item's part is of that part
pub first_there : (parts : Partition) (item : ℕ) → IsPartition parts → item < length parts.of.items
    → (first_of parts (part_of parts.of.items item) < length parts.of.items)
    × (part_of parts.of.items (first_of parts (part_of parts.of.items item)) ≡ part_of parts.of.items item)
first_there parts item is h =
    let stand = is.arranged.stand in
    let was = stand.placed item h in
    let part = part_of parts.of.items item in
    let ranges = is.arranged.ranges in
    let at : (range_of ranges part).first ≡ (part_at parts.parts.items part).first =
    unmarked_first parts is part (omega (arith, was.known, range_each parts is.arranged)) ∙ sym (middle_is parts is.arranged part) in
    let some : (range_of ranges part).first < (range_of ranges part).past = omega (arith, was.above, was.below) in
    let P : ℕ → Type 0 = λ k. (get_or parts.elements.items k 0 < length parts.of.items) × (part_of parts.of.items (get_or parts.elements.items k 0) ≡ part) in
    subst P at (
      stand.within part (range_of ranges part).first was.known (omega arith) some,
      (stand.member part (range_of ranges part).first was.known (omega arith) some).of_part,
    )
