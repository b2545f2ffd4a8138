use Rattle.std.proofs.Common.{◌≡◌, ◌<◌, ◌^◌, ◌++◌, All, ℕ, List, subst, sym, ap, ◌∙◌}
use Rattle.kb_word.specs.Words.{OneOf}
use Rattle.kb_word.specs.Rewriting.{IsIrreducible, NormalForm}
use Rattle.kb_word.specs.WordOrderLaws.{word_orders}
use Rattle.kb_rules.proofs.Exists.{empty_irreducible}
use Rattle.kb_rules.proofs.Tracing.{found, step_falls}
use Rattle.kb_rules.proofs.Unique.{normal_form_more}
use Rattle.kb_rules.proofs.scan.reduce.Goals as goal

pub loop-init : goal.loop-init
loop-init c =
    let rules = c.args.list.now.rules in
    let workspace = c.start.new.self in
    let whole : workspace.front ++ workspace.unread ≡ c.args.w.now =
    ap (λ front. front ++ workspace.unread) c.start.ensures.front ∙ c.in_ok-start.ensures.unread in
    record {
      irreducible = subst (IsIrreducible (OneOf rules)) (sym c.start.ensures.front)
          (empty_irreducible (word_orders c.args.list.now.order) rules c.as_slice-rules.ensures.decreasing);
      leads = λ m normal. subst (λ (v : List ℕ). NormalForm rules v m) whole normal;
      range = subst (λ (v : List ℕ). All (λ x. x < 2 ^ 16) v) (sym whole) c.start.ensures.range;
    }

pub loop-smaller : goal.loop-smaller
loop-smaller c =
    let step = found c.in_ok-next_step.field-0 c.in_ok-next_step.ensures.some (sym c.is_some.ensures ∙ c.if-is_some.true) in
    step_falls c.args.list.now.order c.as_slice-rules.ensures.decreasing step.1 c.loop.invariant.range c.in_ok-next_step.ensures.range

pub loop-preserved : goal.loop-preserved
loop-preserved c =
    let step = found c.in_ok-next_step.field-0 c.in_ok-next_step.ensures.some (sym c.is_some.ensures ∙ c.if-is_some.true) in
    record {
      irreducible = c.in_ok-next_step.ensures.irreducible;
      leads = λ m normal. c.loop.invariant.leads m (normal_form_more step.1.rewrite normal);
      range = c.in_ok-next_step.ensures.range;
    }
