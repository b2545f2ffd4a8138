use Rattle.std.proofs.Common.{◌≡◌, ap, ◌∙◌, ◌∷◌, [], ◌++◌, get_or, set, subst, ℕ, sym, arith, ◌+◌, ◌<◌, refl}
use Rattle.std.proofs.lemmas.List.{get_or_read}
use Rattle.kb_fsa.specs.Graphs.{AreLinked, source}
use Rattle.kb_fsa.proofs.LinkLemmas.{linked_none, linked_more, linked_same}
use Rattle.kb_fsamin.proofs.incoming.Incoming.new.Goals as goal

pub loop-edge-init : goal.loop-edge-init
loop-edge-init c =
    linked_same _ _ _ _ _ _ _ _ refl (sym (c.in_ok-last.ensures.items_if_clones_equal (λ y is. is))) (sym c.in_ok-earlier.ensures.items)
    (linked_none c.args.edges.now c.args.states)

pub loop-edge-preserved : goal.loop-edge-preserved
loop-edge-preserved c =
    let edges = c.args.edges.now in
    let done = c.loop-edge.edge-index in
    let last = c.loop-edge.last.items in
    let earlier = c.loop-edge.earlier.items in
    let to : ℕ = source edges done in
    let within : to < c.args.states = c.requires.known done (0, 0) (omega arith) in
    let n : done + 1 ≡ c.len.result = omega (arith, c.loop-edge.invariant.all_done, c.loop-edge.earlier.ok, c.in_ok-push.ensures.len, c.len.ensures) in
    let read : c.index.result.now ≡ get_or last to 0 =
    get_or_read last to c.index.result.now (omega (arith, c.loop-edge.invariant.one_each)) c.index.ensures 0 in
    linked_same _ _ _ _ _ _ _ _ refl (ap (set last to) n) (ap (λ number. earlier ++ number ∷ []) (sym read) ∙ sym c.in_ok-push.ensures.items)
    (linked_more edges done c.args.states last earlier c.loop-edge.invariant to refl within)

pub returns : goal.returns
returns c =
    let P : ℕ → Type 0 = λ done. AreLinked c.args.edges.now done c.args.states c.loop-edge.last.items c.loop-edge.earlier.items in
    subst P (omega arith) c.loop-edge.invariant
