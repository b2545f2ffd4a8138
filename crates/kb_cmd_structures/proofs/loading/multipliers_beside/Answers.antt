use Rattle.std.proofs.Common.{◌≡◌, ◌∙◌, ◌+◌, suc, List, refl, sym, subst, arith}
use Rattle.kb_fsa.specs.Language.{Automaton}
use Rattle.kb_task.specs.declared.status.Status.TheVariants.{Memory}
use Rattle.kb_cmd_structures.proofs.LoadRuns.{Standing, counted_along, ends_at_next, memory_ends, one_more}
use Rattle.kb_cmd_structures.proofs.loading.multipliers_beside.Goals as goal

pub returns-in-Err-push-clause-ends : goal.returns-in-Err-push-clause-ends
returns-in-Err-push-clause-ends g c =
    ends_at_next c.loop-place.invariant.standing Memory (suc c.loop-place.place) refl c.loop-place-test.true (λ told. memory_ends)

pub returns-in-Err-clause-ends : goal.returns-in-Err-clause-ends
returns-in-Err-clause-ends g c =
    let place = c.loop-place.place in
    let number : c.new-generator.result ≡ suc place = c.new-generator.ensures ∙ (let is : place + 1 ≡ suc place = omega arith in is) in
    ends_at_next c.loop-place.invariant.standing c.in-Err.status c.new-generator.result number c.loop-place-test.true c.in-Err.ensures.ends

pub returns-in-Err-clause-fault : goal.returns-in-Err-clause-fault
returns-in-Err-clause-fault g c =
    counted_along (g.F.Shelf.state c.args.shelf.now) (g.F.Shelf.state c.loop-place.shelf) (g.F.Shelf.state c.multiplier_beside.new.shelf)
    c.loop-place.invariant.standing.loads c.in-Err.status c.in-Err.ensures.fault

pub loop-place-preserved : goal.loop-place-preserved
loop-place-preserved g c =
    let place = c.loop-place.place in
    let number : c.new-generator.result ≡ suc place = c.new-generator.ensures ∙ (let is : place + 1 ≡ suc place = omega arith in is) in
    let Stands : List Automaton → Type 0 = λ list.
    Standing c.args.file.now c.args.presentation.now (g.F.Shelf.state c.args.shelf.now) (g.F.Shelf.state c.multiplier_beside.new.shelf)
    (place + 1) list in
    record {
      standing = subst Stands (sym c.in-Ok-push.ensures.items)
          (one_more c.loop-place.invariant.standing c.in-Ok.multiplier c.new-generator.result number c.multiplier_beside.ensures.only_loads
          c.in-Ok.ensures.holds c.in-Ok.ensures.pairs);
      within = omega (arith, c.loop-place-test.true);
    }
