use Rattle.std.proofs.Common.{List, ap, ◌∙◌, map, ℕ}
use Rattle.kb_machine.specs.declared.line.Line.{Line}
use Rattle.kb_machine.specs.States.{rule_numbered}
use Rattle.kb_share.proofs.LiveRules.{copies_decrease}
use Rattle.kb_share.proofs.live.live_rules.Goals as goal

pub from_vec-requires : goal.from_vec-requires
from_vec-requires g c =
    let course = c.args.book.now.course in
    copies_decrease course.problem course.state c.in_ok-order.order c.in_ok-rules.rules.items c.book_is_sound.ensures
    (c.in_ok-order.ensures ∙ c.order.ensures)
    (c.in_ok-rules.ensures ∙ ap (λ (lines : List Line). map (rule_numbered lines) c.live.result.now) c.lines.ensures
    ∙ ap (λ (numbers : List ℕ). map (rule_numbered course.state.lines) numbers) c.live.ensures)
