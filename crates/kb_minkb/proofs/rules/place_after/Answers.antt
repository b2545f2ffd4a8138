use Rattle.std.proofs.Common.{sym, ◌∙◌}
use Rattle.kb_minkb.proofs.MarkLemmas.{nowhere_unmarked}
use Rattle.kb_minkb.proofs.rules.place_after.Goals as goal

pub returns-then-not-is_marked : goal.returns-then-not-is_marked
returns-then-not-is_marked c =
    nowhere_unmarked c.args.multipliers.now c.args.states.now c.args.marks.now c.args.symbol c.args.left c.requires
    (sym c.is_marked.ensures ∙ c.if-not-is_marked.true)
