use Rattle.kb_rules.proofs.Tracing.{leads_implied, first_step_is_step}
use Rattle.kb_rules.proofs.laws.first_steps_are_steps.Goals as goal

pub returns : goal.returns
returns c rules u v steps leads = leads_implied (λ x step y. first_step_is_step) u steps v leads
