use Rattle.std.proofs.Common.{[], false}
use Rattle.kb_auto.proofs.IrreducibleEqualities.{first_decides, second_decides}
use Rattle.kb_auto.proofs.gathering.are_irreducible.Goals as goal

pub returns-then-first : goal.returns-then-first
returns-then-first g c =
    second_decides (g.R.Reducer.rules c.args.reducer.now) c.args.equality.now.u c.args.equality.now.v _ _ _ _ c.in_ok-nf.ensures c.eq-first.ensures.same
    c.in_ok-nf-2.ensures c.if-first.true c.eq-second.ensures.same

pub returns-else-first : goal.returns-else-first
returns-else-first g c =
    first_decides (g.R.Reducer.rules c.args.reducer.now) c.args.equality.now.u c.args.equality.now.v _ [] _ false c.in_ok-nf.ensures c.eq-first.ensures.same
    c.if-first.false
