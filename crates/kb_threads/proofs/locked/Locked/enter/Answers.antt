use Rattle.std.proofs.Common.{◌+◌, List, sym, subst, arith}
use Rattle.kb_share.specs.declared.found.Found.{Found}
use Rattle.kb_threads.specs.Shared.{IsStageOf}
use Rattle.kb_threads.proofs.Stages.{next_overlaps, stage_entered}
use Rattle.kb_threads.proofs.locked.Locked.enter.Goals as goal

pub enter_counted-requires : goal.enter_counted-requires
enter_counted-requires g c =
    let before = c.self.inside in
    let found = c.in-Some.ensures.lookup in
    let P : List Found → Type 0 =
    λ batch. IsStageOf g.S.Sharing.given batch (record { course = before.book.course; entered = before.next }) in
    next_overlaps g.S.Sharing.given before.book.course c.args.batch.now before.next c.in-Some.one.now found.3.0 found.1
    (subst P (sym c.requires) c.self.invariant.1)

pub invariant_of-self-2 : goal.invariant_of-self-2
invariant_of-self-2 g c =
    let before = c.self.inside in
    let after = c.enter_counted.new.book.course in
    let found = c.in-Some.ensures.lookup in
    let counted = c.self.invariant.0 in
    let more = c.in_ok-enter_counted.ensures.total in
    let P : List Found → Type 0 =
    λ batch. IsStageOf g.S.Sharing.given batch (record { course = before.book.course; entered = before.next }) in
    let Q : List Found → Type 0 =
    λ batch. IsStageOf g.S.Sharing.given batch (record { course = after; entered = before.next + 1 }) in (
      omega (arith, counted, more),
      subst Q c.requires
          (stage_entered c.args.pass.now.worker c.in-Some.one.now g.S.Sharing.given before.book.course after c.args.batch.now
          before.next found.3.0 found.1 (subst P (sym c.requires) c.self.invariant.1) c.in_ok-enter_counted.ensures.ok),
    )
