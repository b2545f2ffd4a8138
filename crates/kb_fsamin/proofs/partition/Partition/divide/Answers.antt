use Rattle.std.proofs.Common.{◌≡◌, ◌<◌, ◌≤◌, ℕ, [], ◌∷◌, ◌++◌, length, get_or, map, set, refl, sym, ap, ◌∙◌, subst, arith, length-set}
use Rattle.std.proofs.lemmas.List.{get_or_read, length_push, map-set}
use Rattle.kb_fsamin.specs.Partitions.{Range, kept_of, plain, part_at, part_of, range_of, IsArranged, IsDivided, Stand, AreHalves, AreRelabelled}
use Rattle.kb_fsamin.proofs.Dividing.{sides, kept_divided, stand_divided, stand_remarked, keeps, splits, cleared, kept}
use Rattle.kb_fsamin.proofs.Ranges.{middle_is, middle_kept, range_each, whole_order, whole_range}
use Rattle.kb_fsamin.proofs.partition.Partition.divide.Goals as goal

pub halves-requires : goal.halves-requires
halves-requires c =
    let self = c.args.self.now in
    let of = self.of.items in
    let item = c.args.item in
    let all = c.requires.arranged in
    let part = c.index-part.result.now in
    let first = c.index-first.result.now in
    let whole = c.index-whole.result.now in
    let part_is : part ≡ part_of of item = get_or_read of item part c.requires.item c.index-part.ensures 0 in
    let place_is : first ≡ get_or self.places.items item 0 =
    get_or_read self.places.items item first (omega (arith, all.place_each, c.requires.item)) c.index-first.ensures 0 in
    let known : part < length self.parts.items = omega (arith, (all.stand.placed item c.requires.item).known, range_each self all) in
    let whole_is : whole ≡ part_at self.parts.items part = get_or_read self.parts.items part whole known c.index-whole.ensures (record { first = 0; past = 0 }) in
    whole_order self all item c.requires.item c.requires.marked c.requires.first part first whole part_is place_is whole_is

pub relabel-requires-clause-range : goal.relabel-requires-clause-range
relabel-requires-clause-range c =
    let self = c.args.self.now in
    let of = self.of.items in
    let item = c.args.item in
    let all = c.requires.arranged in
    let part = c.index-part.result.now in
    let first = c.index-first.result.now in
    let whole = c.index-whole.result.now in
    let part_is : part ≡ part_of of item = get_or_read of item part c.requires.item c.index-part.ensures 0 in
    let place_is : first ≡ get_or self.places.items item 0 =
    get_or_read self.places.items item first (omega (arith, all.place_each, c.requires.item)) c.index-first.ensures 0 in
    let known : part < length self.parts.items = omega (arith, (all.stand.placed item c.requires.item).known, range_each self all) in
    let whole_is : whole ≡ part_at self.parts.items part = get_or_read self.parts.items part whole known c.index-whole.ensures (record { first = 0; past = 0 }) in
    let range = whole_range self all item c.requires.item c.requires.marked c.requires.first part first whole part_is place_is whole_is in
    let rest = c.halves.result.0 in
    let new = c.halves.result.1 in
    let halves : AreHalves (range_of all.ranges part) (plain rest) (plain new) =
    subst (λ r. AreHalves r (plain rest) (plain new)) (sym range) c.halves.ensures in
    let known' : part < length all.ranges = omega (arith, range_each self all) in
    let order = all.stand.order part known' in
    let both = sides (range_of all.ranges part) (plain rest) (plain new) order.0 order.1 halves in
    (both.new_order, omega (arith, both.new_high, all.stand.fits part known'))

pub relabel-requires-clause-members : goal.relabel-requires-clause-members
relabel-requires-clause-members c place above below =
    let self = c.args.self.now in
    let of = self.of.items in
    let item = c.args.item in
    let all = c.requires.arranged in
    let part = c.index-part.result.now in
    let first = c.index-first.result.now in
    let whole = c.index-whole.result.now in
    let part_is : part ≡ part_of of item = get_or_read of item part c.requires.item c.index-part.ensures 0 in
    let place_is : first ≡ get_or self.places.items item 0 =
    get_or_read self.places.items item first (omega (arith, all.place_each, c.requires.item)) c.index-first.ensures 0 in
    let known : part < length self.parts.items = omega (arith, (all.stand.placed item c.requires.item).known, range_each self all) in
    let whole_is : whole ≡ part_at self.parts.items part = get_or_read self.parts.items part whole known c.index-whole.ensures (record { first = 0; past = 0 }) in
    let range = whole_range self all item c.requires.item c.requires.marked c.requires.first part first whole part_is place_is whole_is in
    let rest = c.halves.result.0 in
    let new = c.halves.result.1 in
    let halves : AreHalves (range_of all.ranges part) (plain rest) (plain new) =
    subst (λ r. AreHalves r (plain rest) (plain new)) (sym range) c.halves.ensures in
    let known' : part < length all.ranges = omega (arith, range_each self all) in
    let order = all.stand.order part known' in
    let both = sides (range_of all.ranges part) (plain rest) (plain new) order.0 order.1 halves in
    let low : (range_of all.ranges part).first ≤ place = omega (arith, both.new_low) in
    let high : place < (range_of all.ranges part).past = omega (arith, both.new_high) in
    record {
      item = all.stand.within part place known' low high;
      place_is = (all.stand.member part place known' low high).place_is;
    }

pub returns-then-whole-clause-arranged : goal.returns-then-whole-clause-arranged
returns-then-whole-clause-arranged c =
    let self = c.args.self.now in
    let of = self.of.items in
    let item = c.args.item in
    let all = c.requires.arranged in
    let part = c.index-part.result.now in
    let first = c.index-first.result.now in
    let whole = c.index-whole.result.now in
    let part_is : part ≡ part_of of item = get_or_read of item part c.requires.item c.index-part.ensures 0 in
    let place_is : first ≡ get_or self.places.items item 0 =
    get_or_read self.places.items item first (omega (arith, all.place_each, c.requires.item)) c.index-first.ensures 0 in
    let known : part < length self.parts.items = omega (arith, (all.stand.placed item c.requires.item).known, range_each self all) in
    let whole_is : whole ≡ part_at self.parts.items part = get_or_read self.parts.items part whole known c.index-whole.ensures (record { first = 0; past = 0 }) in
    let range = whole_range self all item c.requires.item c.requires.marked c.requires.first part first whole part_is place_is whole_is in
    let order = whole_order self all item c.requires.item c.requires.marked c.requires.first part first whole part_is place_is whole_is in
    let known' : part < length all.ranges = omega (arith, range_each self all) in
    record {
      ranges = set all.ranges part (record { first = first; middle = first; past = whole.past });
      kept_are = map-set kept_of all.ranges part (record { first = first; middle = first; past = whole.past })
          ∙ ap (λ ps. set ps part (record { first = first; past = whole.past })) all.kept_are;
      stand = stand_remarked of self.elements.items self.places.items all.ranges all.stand part (record { first = first; middle = first; past = whole.past })
          known' (ap (λ (r : Range). r.first) (sym range)) (ap (λ (r : Range). r.past) (sym range)) (omega arith) (omega (arith, order.0, order.1));
      element_each = all.element_each;
      place_each = all.place_each;
      few = all.few;
      few_parts = omega (arith, length-set self.parts.items part (record { first = first; past = whole.past }), all.few_parts);
    }

pub returns-clause-arranged : goal.returns-clause-arranged
returns-clause-arranged c =
    let self = c.args.self.now in
    let of = self.of.items in
    let item = c.args.item in
    let all = c.requires.arranged in
    let part = c.index-part.result.now in
    let first = c.index-first.result.now in
    let whole = c.index-whole.result.now in
    let part_is : part ≡ part_of of item = get_or_read of item part c.requires.item c.index-part.ensures 0 in
    let place_is : first ≡ get_or self.places.items item 0 =
    get_or_read self.places.items item first (omega (arith, all.place_each, c.requires.item)) c.index-first.ensures 0 in
    let known : part < length self.parts.items = omega (arith, (all.stand.placed item c.requires.item).known, range_each self all) in
    let whole_is : whole ≡ part_at self.parts.items part = get_or_read self.parts.items part whole known c.index-whole.ensures (record { first = 0; past = 0 }) in
    let range = whole_range self all item c.requires.item c.requires.marked c.requires.first part first whole part_is place_is whole_is in
    let rest = c.halves.result.0 in
    let new = c.halves.result.1 in
    let halves : AreHalves (range_of all.ranges part) (plain rest) (plain new) =
    subst (λ r. AreHalves r (plain rest) (plain new)) (sym range) c.halves.ensures in
    let known' : part < length all.ranges = omega (arith, range_each self all) in
    let of' = c.relabel.new.self.of.items in
    let elements = self.elements.items in
    let places = self.places.items in
    let number : c.len-number.result ≡ length all.ranges = omega (arith, c.len-number.ensures, self.parts.ok, range_each self all) in
    let relabelled : AreRelabelled places new.first (length all.ranges) new.past of of' =
    subst (λ n. AreRelabelled places new.first n new.past of of') number c.relabel.ensures.of in
    let kept_are : map kept_of (set (all.ranges ++ plain new ∷ []) part (plain rest)) ≡ set c.push.new.self.items part rest =
    kept_divided all.ranges self.parts.items all.kept_are part rest new ∙ ap (λ ps. set ps part rest) (sym c.in_ok-push.ensures.items) in
    let stand : Stand of' (length of) elements places (set (all.ranges ++ plain new ∷ []) part (plain rest)) =
    stand_divided of of' elements places all.ranges all.stand part known' (plain rest) (plain new) halves relabelled in
    let size = relabelled.one_each in
    subst IsArranged (sym c.relabel.ensures.others) (record {
      ranges = set (all.ranges ++ plain new ∷ []) part (plain rest);
      kept_are = kept_are;
      stand = subst (λ n. Stand of' n elements places (set (all.ranges ++ plain new ∷ []) part (plain rest))) (sym size) stand;
      element_each = all.element_each ∙ sym size;
      place_each = all.place_each ∙ sym size;
      few = omega (arith, all.few);
      few_parts = omega (
        arith,
        length-set c.push.new.self.items part rest,
        ap length c.in_ok-push.ensures.items,
        length_push self.parts.items new,
        all.few_parts,
        c.if-number.false,
      );
    })

pub returns-clause-divided : goal.returns-clause-divided
returns-clause-divided c =
    let self = c.args.self.now in
    let of = self.of.items in
    let item = c.args.item in
    let all = c.requires.arranged in
    let part = c.index-part.result.now in
    let first = c.index-first.result.now in
    let whole = c.index-whole.result.now in
    let part_is : part ≡ part_of of item = get_or_read of item part c.requires.item c.index-part.ensures 0 in
    let place_is : first ≡ get_or self.places.items item 0 =
    get_or_read self.places.items item first (omega (arith, all.place_each, c.requires.item)) c.index-first.ensures 0 in
    let known : part < length self.parts.items = omega (arith, (all.stand.placed item c.requires.item).known, range_each self all) in
    let whole_is : whole ≡ part_at self.parts.items part = get_or_read self.parts.items part whole known c.index-whole.ensures (record { first = 0; past = 0 }) in
    let range = whole_range self all item c.requires.item c.requires.marked c.requires.first part first whole part_is place_is whole_is in
    let rest = c.halves.result.0 in
    let new = c.halves.result.1 in
    let halves : AreHalves (range_of all.ranges part) (plain rest) (plain new) =
    subst (λ r. AreHalves r (plain rest) (plain new)) (sym range) c.halves.ensures in
    let known' : part < length all.ranges = omega (arith, range_each self all) in
    let of' = c.relabel.new.self.of.items in
    let elements = self.elements.items in
    let places = self.places.items in
    let number : c.len-number.result ≡ length all.ranges = omega (arith, c.len-number.ensures, self.parts.ok, range_each self all) in
    let relabelled : AreRelabelled places new.first (length all.ranges) new.past of of' =
    subst (λ n. AreRelabelled places new.first n new.past of of') number c.relabel.ensures.of in
    let kept_are : map kept_of (set (all.ranges ++ plain new ∷ []) part (plain rest)) ≡ set c.push.new.self.items part rest =
    kept_divided all.ranges self.parts.items all.kept_are part rest new ∙ ap (λ ps. set ps part rest) (sym c.in_ok-push.ensures.items) in
    let stand = all.stand in
    let now : (k : ℕ) → (part_at (set c.push.new.self.items part rest) k).first ≡ (range_of (set (all.ranges ++ plain new ∷ []) part (plain rest)) k).middle =
    λ k. middle_kept _ _ kept_are k in
    let was : (k : ℕ) → (part_at self.parts.items k).first ≡ (range_of all.ranges k).middle = λ k. middle_is self all k in
    subst (λ p. IsDivided p self c.relabel.new.self) part_is (subst (IsDivided part self) (sym c.relabel.ensures.others) (record {
      places_are = refl;
      one_each = relabelled.one_each;
      keeps = λ one other h i same marks.
          let a = was (part_of of one) in
          let b = was (part_of of other) in
          keeps of of' elements places all.ranges stand part known' (plain rest) (plain new) halves relabelled one other h i same
          (λ m. let n = marks.0 (omega arith) in omega arith, λ m. let n = marks.1 (omega arith) in omega arith);
      splits = splits of of' elements places all.ranges stand part known' (plain rest) (plain new) halves relabelled;
      cleared = λ x h is m.
          let a = now (part_of of' x) in
          cleared of of' elements places all.ranges stand part known' (plain rest) (plain new) halves relabelled x h is (omega arith);
      kept = λ x h apart.
          let a = now (part_of of' x) in
          let b = was (part_of of x) in
          let both = kept of of' elements places all.ranges stand part known' (plain rest) (plain new) halves relabelled x h apart in
          (λ m. let n = both.0 (omega arith) in omega arith, λ m. let n = both.1 (omega arith) in omega arith);
    }))
