use Rattle.std.proofs.Common.{◌≡◌, ◌<◌, ◌+◌, [], ◌∷◌, ◌++◌, ℕ, List, length, get_or, map, set, sym, ap, ◌∙◌, subst, arith, rules}
use Rattle.std.proofs.lemmas.List.{get_or_read, length-map, map-set}
use Rattle.kb_fsamin.specs.declared.partition.Part.{Part}
use Rattle.kb_fsamin.specs.Partitions.{Range, plain, AreCounts, AreFilled, AreRanges, Stand, range_of}
use Rattle.kb_fsamin.proofs.Counting.{place_within, filled_none, filled_more}
use Rattle.kb_fsamin.proofs.Ranges.{kept_plain, plain_at}
use Rattle.kb_fsamin.proofs.partition.Partition.new.Goals as goal

pub index_mut-requires : goal.index_mut-requires
index_mut-requires c =
    let of = c.args.of.items in
    let counts = c.in_ok-counts.counts.items in
    let parts = c.loop-item.parts.items in
    let all = c.loop-item.invariant in
    let done = c.loop-item.item in
    let same = c.deref-part-items.ensures.value in
    let counted : AreCounts of (length of) c.args.count counts = subst (λ o. AreCounts o (length o) c.args.count counts) c.as_slice.ensures.value c.in_ok-counts.ensures in
    let low : done < length of = omega (arith, ap length same) in
    let part : get_or c.deref-part-items.result.now done 0 ≡ get_or of done 0 = ap (λ o. get_or o done 0) same in
    let known : get_or of done 0 < c.args.count = c.requires.known done 0 low in
    let range_is : plain c.index-filled.result.now ≡ range_of (map plain parts) (get_or of done 0) =
    ap plain (get_or_read parts _ c.index-filled.result.now (omega (arith, length-map parts plain, all.one_each, counted.one_each)) c.index-filled.ensures (record { first = 0; past = 0 }))
    ∙ sym (plain_at parts _) ∙ ap (range_of (map plain parts)) part in
    omega (
      arith,
      place_within of counts c.args.count counted done low c.loop-item.elements.items c.loop-item.places.items (map plain parts) all known (plain c.index-filled.result.now) range_is,
      all.element_each,
      c.loop-item.elements.ok,
    )

pub overflow_add-filled : goal.overflow_add-filled
overflow_add-filled c =
    let of = c.args.of.items in
    let counts = c.in_ok-counts.counts.items in
    let parts = c.loop-item.parts.items in
    let all = c.loop-item.invariant in
    let done = c.loop-item.item in
    let same = c.deref-part-items.ensures.value in
    let counted : AreCounts of (length of) c.args.count counts = subst (λ o. AreCounts o (length o) c.args.count counts) c.as_slice.ensures.value c.in_ok-counts.ensures in
    let low : done < length of = omega (arith, ap length same) in
    let part : get_or c.deref-part-items.result.now done 0 ≡ get_or of done 0 = ap (λ o. get_or o done 0) same in
    let known : get_or of done 0 < c.args.count = c.requires.known done 0 low in
    let range_is : plain c.index-filled.result.now ≡ range_of (map plain parts) (get_or of done 0) =
    ap plain (get_or_read parts _ c.index-filled.result.now (omega (arith, length-map parts plain, all.one_each, counted.one_each)) c.index-filled.ensures (record { first = 0; past = 0 }))
    ∙ sym (plain_at parts _) ∙ ap (range_of (map plain parts)) part in
    omega (
      arith,
      place_within of counts c.args.count counted done low c.loop-item.elements.items c.loop-item.places.items (map plain parts) all known (plain c.index-filled.result.now) range_is,
      c.requires.few,
    )

pub loop-item-preserved : goal.loop-item-preserved
loop-item-preserved c =
    let of = c.args.of.items in
    let counts = c.in_ok-counts.counts.items in
    let parts = c.loop-item.parts.items in
    let elements = c.loop-item.elements.items in
    let places = c.loop-item.places.items in
    let all = c.loop-item.invariant in
    let done = c.loop-item.item in
    let range = c.index-filled.result.now in
    let same = c.deref-part-items.ensures.value in
    let counted : AreCounts of (length of) c.args.count counts = subst (λ o. AreCounts o (length o) c.args.count counts) c.as_slice.ensures.value c.in_ok-counts.ensures in
    let low : done < length of = omega (arith, ap length same) in
    let part : get_or c.deref-part-items.result.now done 0 ≡ get_or of done 0 = ap (λ o. get_or o done 0) same in
    let known : get_or of done 0 < c.args.count = c.requires.known done 0 low in
    let range_is : plain range ≡ range_of (map plain parts) (get_or of done 0) =
    ap plain (get_or_read parts _ range (omega (arith, length-map parts plain, all.one_each, counted.one_each)) c.index-filled.ensures (record { first = 0; past = 0 }))
    ∙ sym (plain_at parts _) ∙ ap (range_of (map plain parts)) part in
    let new : Part = record { first = range.first; past = range.past + 1 } in
    let P : List ℕ → Type 0 = λ ps.
    AreFilled of counts (done + 1) (set elements range.past done) ps (map plain (set parts (get_or c.deref-part-items.result.now done 0) new)) in
    let Q : List Range → Type 0 = λ rs. AreFilled of counts (done + 1) (set elements range.past done) (places ++ range.past ∷ []) rs in
    let R : ℕ → Type 0 = λ p. Q (set (map plain parts) p (plain new)) in
    subst P (sym c.in_ok-push.ensures.items)
    (subst Q (sym (map-set plain parts _ new))
    (subst R (sym part) (filled_more of counts c.args.count counted done low elements places (map plain parts) all known (plain range) range_is)))

pub loop-item-init : goal.loop-item-init
loop-item-init c =
    let of = c.args.of.items in
    let counts = c.in_ok-counts.counts.items in
    let parts = c.in_ok-parts.parts.items in
    let counted : AreCounts of (length of) c.args.count counts = subst (λ o. AreCounts o (length o) c.args.count counts) c.as_slice.ensures.value c.in_ok-counts.ensures in
    let ranges : AreRanges counts (length counts) parts = subst (λ n. AreRanges n (length n) parts) c.as_slice-2.ensures.value c.in_ok-parts.ensures in
    let size : length c.in_ok-elements.elements.items ≡ length of = search rules in
    subst (λ p. AreFilled of counts 0 c.in_ok-elements.elements.items p (map plain parts)) (sym c.in_ok-places.ensures.items)
    (filled_none of counts c.in_ok-elements.elements.items parts counted.total size ranges)

pub returns-clause-partition : goal.returns-clause-partition
returns-clause-partition c =
    let of = c.args.of.items in
    let parts = c.loop-item.parts.items in
    let all = c.loop-item.invariant in
    let counts = c.in_ok-counts.counts.items in
    let counted : AreCounts of (length of) c.args.count counts = subst (λ o. AreCounts o (length o) c.args.count counts) c.as_slice.ensures.value c.in_ok-counts.ensures in
    let done : c.loop-item.item ≡ length of = omega (arith, c.loop-item-test.false, c.loop-item.auto.item-end, ap length c.deref-part-items.ensures.value) in
    let stand : Stand of (length of) c.loop-item.elements.items c.loop-item.places.items (map plain parts) =
    subst (λ n. Stand of n c.loop-item.elements.items c.loop-item.places.items (map plain parts)) done all.stand in
    record {
      arranged = record {
        ranges = map plain parts;
        kept_are = kept_plain parts;
        stand = stand;
        element_each = all.element_each;
        place_each = all.place_each ∙ done;
        few = c.requires.few;
        few_parts = omega (arith, length-map parts plain, all.one_each, counted.one_each, c.requires.count);
      };
      unmarked = λ item h marked.
          let above = (stand.placed item h).above in
          omega (arith, ap (λ (r : Range). r.first) (plain_at parts (get_or of item 0)));
    }
