use Rattle.std.proofs.Common.{◌≡◌, ◌<◌, ◌-◌, ℕ, List, suc, length, get_or, refl, sym, subst, arith}
use Rattle.std.proofs.lemmas.List.{get_or_read, take_all}
use Rattle.kb_fsa.proofs.LinkLemmas.{earlier_below}
use Rattle.kb_fsamin.specs.Splitting.{AreGathered, AreListing}
use Rattle.kb_fsamin.proofs.Entering.{listing_start, listing_more, listing_end}
use Rattle.kb_fsamin.proofs.Splittings.{entering_from}
use Rattle.kb_fsamin.proofs.splitting.entering.Goals as goal

pub loop-number-init : goal.loop-number-init
loop-number-init c =
    let edges = c.args.edges.now in
    let states = c.members-state-items.result.now in
    let place = c.loop-state.state-index in
    let incoming = c.args.incoming.now in
    let state = get_or states place 0 in
    let known : state < length c.args.blocks.now.of.items = (c.members-state-items.ensures.sound place 0 (omega arith)).0 in
    let read : c.index-number.result.now ≡ get_or incoming.last.items state 0 =
    get_or_read incoming.last.items state _ (omega (arith, c.requires.incoming.one_each)) c.index-number.ensures 0 in
    subst (λ n. AreListing edges states place n c.loop-state.listed.items) (sym read)
    (listing_start edges _ incoming.last.items incoming.earlier.items c.requires.incoming states place (omega arith) c.loop-state.listed.items known c.loop-state.invariant)

pub index-number-requires-in-loop-number : goal.index-number-requires-in-loop-number
index-number-requires-in-loop-number c =
    let within = (c.loop-number.invariant.walk.next (c.loop-number.number - 1) (omega arith)).0 in
    omega (arith, c.requires.incoming.all_done, c.args.incoming.now.earlier.ok)

pub loop-number-smaller : goal.loop-number-smaller
loop-number-smaller c =
    let incoming = c.args.incoming.now in
    let place = c.loop-number.number - 1 in
    let within = (c.loop-number.invariant.walk.next place (omega arith)).0 in
    let read : c.index-number-in-loop-number.result.now ≡ get_or incoming.earlier.items place 0 =
    get_or_read incoming.earlier.items place _ (omega (arith, c.requires.incoming.all_done)) c.index-number-in-loop-number.ensures 0 in
    omega (arith, earlier_below c.args.edges.now _ _ incoming.last.items incoming.earlier.items c.requires.incoming place within, c.loop-number-test.true)

pub loop-number-preserved : goal.loop-number-preserved
loop-number-preserved c =
    let edges = c.args.edges.now in
    let states = c.members-state-items.result.now in
    let done = c.loop-state.state-index in
    let incoming = c.args.incoming.now in
    let place = c.loop-number.number - 1 in
    let listed = c.loop-number.listed.items in
    let number : c.loop-number.number ≡ suc place = omega (arith, c.loop-number-test.true) in
    let before : AreListing edges states done (suc place) listed = subst (λ n. AreListing edges states done n listed) number c.loop-number.invariant in
    let within = (before.walk.next place refl).0 in
    let read : c.index-number-in-loop-number.result.now ≡ get_or incoming.earlier.items place 0 =
    get_or_read incoming.earlier.items place _ (omega (arith, c.requires.incoming.all_done)) c.index-number-in-loop-number.ensures 0 in
    let P : ℕ → Type 0 = λ n. AreListing edges states done n c.push.new.self.items in
    let Q : List ℕ → Type 0 = λ l. AreListing edges states done (get_or incoming.earlier.items place 0) l in
    subst P (sym read)
    (subst Q (sym c.in_ok-push.ensures.items)
    (listing_more edges _ incoming.last.items incoming.earlier.items c.requires.incoming states done (omega arith) place listed before))

pub loop-state-preserved : goal.loop-state-preserved
loop-state-preserved c =
    let edges = c.args.edges.now in
    let states = c.members-state-items.result.now in
    let done = c.loop-state.state-index in
    let incoming = c.args.incoming.now in
    let listed = c.loop-number.listed.items in
    listing_end edges _ incoming.last.items incoming.earlier.items c.requires.incoming states done (omega arith) listed
    (subst (λ n. AreListing edges states done n listed) (omega (arith, c.loop-number-test.false)) c.loop-number.invariant)

pub returns : goal.returns
returns c =
    let edges = c.args.edges.now in
    let states = c.members-state-items.result.now in
    let listed = c.loop-state.listed.items in
    entering_from edges c.args.blocks.now.of.items c.args.block states listed (λ move h. c.requires.known move (0, 0) h) c.members-state-items.ensures
    (subst (λ l. AreGathered edges l listed) (take_all c.loop-state.state-index states (omega arith)) c.loop-state.invariant)
