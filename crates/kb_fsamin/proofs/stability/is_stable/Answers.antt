use Rattle.std.proofs.Common.{◌≡◌, length, ap, subst, arith}
use Rattle.kb_fsamin.specs.Rounds.{AreStoodFor}
use Rattle.kb_fsamin.proofs.Classings.{stable_from_stood}
use Rattle.kb_fsamin.proofs.stability.is_stable.Goals as goal

pub returns-clause-stable : goal.returns-clause-stable
returns-clause-stable c _ =
    let table = c.args.table.now in
    let classes = c.args.classes.now in
    let all : c.loop-place.place ≡ length table.rows = omega (arith, c.loop-place-test.false, c.loop-place.auto.place-end, ap length c.rows-rows.ensures.rows) in
    stable_from_stood table c.args.labels.now classes c.requires (subst (AreStoodFor table classes) all c.loop-place.invariant)
