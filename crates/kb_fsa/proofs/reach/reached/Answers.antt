use Rattle.std.proofs.Common.{◌≡◌, ◌<◌, ◌-◌, suc, true, false, [], ◌∷◌, ◌++◌, length, get_or, set, arith, refl, sym, ap, ◌∙◌}
use Rattle.std.proofs.lemmas.List.{get_or_read}
use Rattle.kb_fsa.specs.Graphs.{end, weight, IsMarking}
use Rattle.kb_fsa.proofs.LinkLemmas.{earlier_below}
use Rattle.kb_fsa.proofs.Reaching.{marking_start, marking_pop, marking_skip, marking_more, marking_end, marking_same, weight_more, marked_set, marked_last, numbered}
use Rattle.kb_fsa.proofs.reach.reached.Goals as goal
use Rattle.kb_fsa.proofs.reach.reached.Goals.{then-not-index+in_ok-push, else-not-index}

pub loop-from-init : goal.loop-from-init
loop-from-init c =
    marking_same c.args.edges.now c.args.seeds.now 0 0 0 c.args.seeds.now c.in_ok-marks.marks.items _ _ refl (sym c.in_ok-marks.ensures.items) refl
    (marking_start c.args.edges.now c.args.seeds.now c.in_ok-pending.pending.items c.in_ok-pending.ensures)

pub index-number-requires : goal.index-number-requires
index-number-requires c =
    let here = marked_last c.args.edges.now c.args.seeds.now 0 0 c.loop-from.marks.items c.loop-from.pending.items c.pop.new.self.items c.in-Some.from
    c.in-Some.ensures.items c.loop-from.invariant in
    omega (arith, c.in_ok-links.ensures.one_each, c.in_ok-links.links.last.ok, here)

pub loop-number-init : goal.loop-number-init
loop-number-init c =
    let edges = c.args.edges.now in
    let seeds = c.args.seeds.now in
    let last = c.in_ok-links.links.last.items in
    let here = marked_last edges seeds 0 0 c.loop-from.marks.items c.loop-from.pending.items c.pop.new.self.items c.in-Some.from
    c.in-Some.ensures.items c.loop-from.invariant in
    let first : c.index-number.result.now ≡ get_or last c.in-Some.from 0 =
    get_or_read last c.in-Some.from _ (omega (arith, c.in_ok-links.ensures.one_each, here)) c.index-number.ensures 0 in
    record {
      marking = marking_same edges seeds c.in-Some.from _ _ _ _ _ _ (sym first) refl refl
          (marking_pop edges seeds c.loop-from.marks.items c.loop-from.pending.items c.pop.new.self.items c.in-Some.from last
          c.in_ok-links.links.earlier.items c.in_ok-links.ensures c.in-Some.ensures.items c.loop-from.invariant);
      weight = omega arith;
    }

pub bounds-edges-number : goal.bounds-edges-number
bounds-edges-number c = (c.loop-number.invariant.marking.next (c.loop-number.number - 1) (numbered _ c.loop-number-test.true)).0

pub offset_bounds-edges-number : goal.offset_bounds-edges-number
offset_bounds-edges-number c =
    let within = (c.loop-number.invariant.marking.next (c.loop-number.number - 1) (numbered _ c.loop-number-test.true)).0 in omega arith

pub loop-number-preserved : goal.loop-number-preserved
loop-number-preserved c =
    let edges = c.args.edges.now in
    let seeds = c.args.seeds.now in
    let from = c.in-Some.from in
    let place = c.loop-number.number - 1 in
    let to = end edges place in
    let marks = c.loop-number.marks.items in
    let pending = c.loop-number.pending.items in
    let last = c.in_ok-links.links.last.items in
    let earlier = c.in_ok-links.links.earlier.items in
    let linked = c.in_ok-links.ensures in
    let marking : IsMarking edges seeds from (suc place) marks pending =
    marking_same edges seeds from _ _ marks marks pending pending (numbered _ c.loop-number-test.true) refl refl c.loop-number.invariant.marking in
    let within = (marking.next place refl).0 in
    let bound : to < length seeds = (c.requires.edges place (0, 0) within).1 in
    let known : to < length marks = omega (arith, marking.one_each) in
    let before : c.index-number-in-loop-number.result.now ≡ get_or earlier place 0 =
    get_or_read earlier place _ (omega (arith, linked.all_done)) c.index-number-in-loop-number.ensures 0 in
    let is : c.index.result.now ≡ get_or marks to false = get_or_read marks to _ known c.index.ensures false in
    elim c.if-not-index.branch [
      | then-not-index+in_ok-push w ↦
          let unmarked : get_or marks to false ≡ false = sym is ∙ w.if-not-index.true in
          let marks' : c.if-not-index.marks.items ≡ set marks to true = ap (λ v. v.items) w.marks-is in
          let pending' : c.if-not-index.pending.items ≡ pending ++ to ∷ [] = ap (λ v. v.items) w.pending-is ∙ w.in_ok-push.ensures.items in
          let same : weight c.if-not-index.marks.items c.if-not-index.pending.items ≡ weight (set marks to true) (pending ++ to ∷ []) =
          ap (λ m. weight m c.if-not-index.pending.items) marks' ∙ ap (weight (set marks to true)) pending' in
          record {
            marking = marking_same edges seeds from _ _ _ _ _ _ (sym before) (sym marks') (sym pending')
                (marking_skip edges seeds (set marks to true) (pending ++ to ∷ []) from place last earlier linked
                (marked_set marks to known) (marking_more edges seeds marks pending from place bound marking));
            weight = omega (arith, weight_more marks pending to known unmarked, same, c.loop-number.invariant.weight);
          }
      | else-not-index w ↦
          let ends : get_or marks to false ≡ true = sym is ∙ w.if-not-index.false in
          record {
            marking = marking_same edges seeds from _ _ _ _ _ _ (sym before) (sym (ap (λ v. v.items) w.marks-is)) (sym (ap (λ v. v.items) w.pending-is))
                (marking_skip edges seeds marks pending from place last earlier linked ends marking);
            weight = omega (arith, ap (λ v. weight v.items c.if-not-index.pending.items) w.marks-is, ap (λ v. weight marks v.items) w.pending-is, c.loop-number.invariant.weight);
          }
    ]

pub loop-number-smaller : goal.loop-number-smaller
loop-number-smaller c =
    let place = c.loop-number.number - 1 in
    let earlier = c.in_ok-links.links.earlier.items in
    let linked = c.in_ok-links.ensures in
    let within = (c.loop-number.invariant.marking.next place (numbered _ c.loop-number-test.true)).0 in
    let before : c.index-number-in-loop-number.result.now ≡ get_or earlier place 0 =
    get_or_read earlier place _ (omega (arith, linked.all_done)) c.index-number-in-loop-number.ensures 0 in
    omega (
      arith,
      earlier_below c.args.edges.now (length c.args.edges.now) (length c.args.seeds.now) c.in_ok-links.links.last.items earlier linked place within,
      c.loop-number-test.true,
    )

pub returns-clause-reached : goal.returns-clause-reached
returns-clause-reached c =
    marking_end c.args.edges.now c.args.seeds.now c.loop-from.marks.items c.loop-from.pending.items 0
    (omega (arith, c.loop-from.pending.ok, c.in_default.ensures.cases.0)) c.loop-from.invariant
