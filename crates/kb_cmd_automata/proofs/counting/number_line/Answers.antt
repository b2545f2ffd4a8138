use Rattle.std.proofs.Common.{subst}
use Rattle.kb_fsa.specs.Language.{AcceptsText}
use Rattle.kb_count.specs.Counts.{IsCountOf}
use Rattle.kb_count.proofs.Settling.{if_ok}
use Rattle.kb_cmd_automata.specs.Counted.{finite, infinite}
use Rattle.kb_cmd_automata.proofs.counting.number_line.Goals as goal

pub returns-in-Finite : goal.returns-in-Finite
returns-in-Finite c =
    let counted = subst (IsCountOf (AcceptsText c.args.fsa.now)) c.in-Finite.is c.in_ok-number.ensures in
    if_ok c.line_of.result (λ line is. finite counted is) c.line_of.ensures

pub returns-in-Infinite : goal.returns-in-Infinite
returns-in-Infinite c =
    let counted = subst (IsCountOf (AcceptsText c.args.fsa.now)) c.in-Infinite.is c.in_ok-number.ensures in
    if_ok c.infinite_line.result (λ line is. infinite counted is) c.infinite_line.ensures
