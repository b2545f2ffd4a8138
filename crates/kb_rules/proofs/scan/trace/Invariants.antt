use Rattle.std.proofs.Common.{◌<◌, ◌^◌, ◌++◌, All}
use Rattle.kb_word.specs.Words.{OneOf}
use Rattle.kb_word.specs.WordOrderLaws.{order_rank}
use Rattle.kb_word.specs.Rewriting.{IsIrreducible}
use Rattle.kb_rules.specs.Steps.{IsFirstStep, Leads}
use Rattle.kb_rules.proofs.scan.trace.Given as goal

abbrev pub invariant-loop-steps : goal.invariant-loop-steps
invariant-loop-steps l = record {
  irreducible : IsIrreducible (OneOf l.list.rules) l.front;
  leads : Leads (IsFirstStep l.list.rules) l.w l.steps.items (l.front ++ l.unread);
  range : All (λ x. x < 2 ^ 16) (l.front ++ l.unread);
}

abbrev pub decreases-loop-steps : goal.decreases-loop-steps
decreases-loop-steps l = order_rank l.list.order (l.front ++ l.unread)
