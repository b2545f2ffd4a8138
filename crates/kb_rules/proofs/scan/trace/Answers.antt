use Rattle.std.proofs.Common.{◌≡◌, ◌<◌, ◌^◌, ◌++◌, All, ℕ, List, subst, sym, ap, ◌∙◌}
use Rattle.kb_word.specs.Words.{OneOf}
use Rattle.kb_word.specs.Rewriting.{IsIrreducible}
use Rattle.kb_word.specs.WordOrderLaws.{word_orders}
use Rattle.kb_rules.specs.declared.trace.Step.{Step}
use Rattle.kb_rules.specs.Steps.{IsFirstStep, Leads}
use Rattle.kb_rules.proofs.Exists.{empty_irreducible}
use Rattle.kb_rules.proofs.Tracing.{leads_normal, leads_push, step_falls}
use Rattle.kb_rules.proofs.scan.trace.Goals as goal

pub loop-steps-init : goal.loop-steps-init
loop-steps-init c =
    let rules = c.args.list.now.rules in
    let whole : c.new-front.result ++ c.start.new.self ≡ c.args.w.now =
    ap (λ front. front ++ c.start.new.self) c.new-front.ensures ∙ c.in_ok-start.ensures.ok in
    let L : List Step → Type 0 = λ steps. Leads (IsFirstStep rules) c.args.w.now steps (c.new-front.result ++ c.start.new.self) in
    record {
      irreducible = subst (IsIrreducible (OneOf rules)) (sym c.new-front.ensures)
          (empty_irreducible (word_orders c.args.list.now.order) rules c.as_slice-rules.ensures.decreasing);
      leads = subst L (sym c.new-steps.ensures.items) (sym whole);
      range = subst (λ (v : List ℕ). All (λ x. x < 2 ^ 16) v) (sym whole) c.start.ensures.range;
    }

pub loop-steps-smaller : goal.loop-steps-smaller
loop-steps-smaller c =
    let step = rw c.in-Some.is at c.in_ok-step.ensures.some in
    step_falls c.args.list.now.order c.as_slice-rules.ensures.decreasing step c.loop-steps.invariant.range c.in_ok-step.ensures.range

pub loop-steps-preserved : goal.loop-steps-preserved
loop-steps-preserved c =
    let allowed = IsFirstStep c.args.list.now.rules in
    let before = c.loop-steps.front ++ c.loop-steps.unread in
    let after = c.next_step.new.front ++ c.next_step.new.unread in
    let step : allowed before c.in-Some.step after = rw c.in-Some.is at c.in_ok-step.ensures.some in
    let L : List Step → Type 0 = λ steps. Leads allowed c.args.w.now steps after in
    record {
      irreducible = c.in_ok-step.ensures.irreducible;
      leads = subst L (sym c.in_ok-push.ensures.items)
          (leads_push allowed c.args.w.now c.loop-steps.steps.items before c.in-Some.step after c.loop-steps.invariant.leads step);
      range = c.in_ok-step.ensures.range;
    }

pub returns-clause-normal : goal.returns-clause-normal
returns-clause-normal c =
    let read = rw c.in_default.is at c.in_ok-step.ensures.none in
    let L : List ℕ → Type 0 = λ v. Leads (IsFirstStep c.args.list.now.rules) c.args.w.now c.loop-steps.steps.items v in
    leads_normal c.args.w.now c.loop-steps.steps.items c.next_step.new.front (subst L (sym read) c.loop-steps.invariant.leads) c.in_ok-step.ensures.irreducible
