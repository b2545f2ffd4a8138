use Rattle.std.proofs.Common.{sym, ◌∙◌, subst}
use Rattle.kb_count.specs.Counts.{AreSoMany, IsAcceptedOfLength}
use Rattle.kb_count.proofs.Moves.{none-long-none, none-long-one}
use Rattle.kb_count.proofs.Settling.{if_ok}
use Rattle.kb_count.proofs.lengths.number_of_none.Goals as goal

pub returns-then-is_accepting : goal.returns-then-is_accepting
returns-then-is_accepting c =
    if_ok c.new.result (λ number is. subst (AreSoMany (IsAcceptedOfLength c.args.table.now 0 c.args.state)) (sym is)
    (none-long-one c.args.table.now c.args.state (sym c.is_accepting.ensures ∙ c.if-is_accepting.true))) c.new.ensures

pub returns-else-is_accepting : goal.returns-else-is_accepting
returns-else-is_accepting c =
    if_ok c.new-else-is_accepting.result (λ number is. subst (AreSoMany (IsAcceptedOfLength c.args.table.now 0 c.args.state)) (sym is)
    (none-long-none c.args.table.now c.args.state (sym c.is_accepting.ensures ∙ c.if-is_accepting.false))) c.new-else-is_accepting.ensures
