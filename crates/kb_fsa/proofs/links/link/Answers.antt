use Rattle.std.proofs.Common.{◌≡◌, ap, ◌∙◌, ◌∷◌, [], ◌++◌, get_or, set, subst, ℕ, sym, arith, ◌+◌, ◌<◌, refl}
use Rattle.std.proofs.lemmas.List.{get_or_read}
use Rattle.kb_fsa.specs.Graphs.{AreLinked, source}
use Rattle.kb_fsa.proofs.LinkLemmas.{linked_none, linked_more, linked_same}
use Rattle.kb_fsa.proofs.links.link.Goals as goal

pub loop-edge-init : goal.loop-edge-init
loop-edge-init c =
    linked_same _ _ _ _ _ _ _ _ refl (sym (c.in_ok-last.ensures.items_if_clones_equal (λ y is. is))) (sym c.new-earlier.ensures.items)
    (linked_none c.args.edges.now c.args.count)

pub loop-edge-preserved : goal.loop-edge-preserved
loop-edge-preserved c =
    let from : ℕ = source c.args.edges.now c.loop-edge.edge-index in
    let within : from < c.args.count = (c.requires c.loop-edge.edge-index (0, 0) (omega arith)) in
    let n : c.loop-edge.edge-index + 1 ≡ c.len.result = omega (arith, c.loop-edge.invariant.all_done, c.loop-edge.earlier.ok, c.in_ok-push.ensures.len, c.len.ensures) in
    let read : c.index.result.now ≡ get_or c.loop-edge.last.items from 0 =
    get_or_read c.loop-edge.last.items from c.index.result.now (omega (arith, c.loop-edge.invariant.one_each)) c.index.ensures 0 in
    linked_same _ _ _ _ _ _ _ _ refl (ap (set c.loop-edge.last.items from) n)
    (ap (λ number. c.loop-edge.earlier.items ++ number ∷ []) (sym read) ∙ sym c.in_ok-push.ensures.items)
    (linked_more c.args.edges.now c.loop-edge.edge-index c.args.count c.loop-edge.last.items c.loop-edge.earlier.items c.loop-edge.invariant
    from refl within)

pub returns : goal.returns
returns c =
    let P : ℕ → Type 0 = λ done. AreLinked c.args.edges.now done c.args.count c.loop-edge.last.items c.loop-edge.earlier.items in
    subst P (omega arith) c.loop-edge.invariant
