use Rattle.std.proofs.Common.{◌≡◌, ◌<◌, ◌^◌, [], ◌++◌, All, ℕ, List, subst, sym, ap, ◌∙◌}
use Rattle.kb_word.specs.Words.{OneOf}
use Rattle.kb_word.specs.WordOrderLaws.{word_orders}
use Rattle.kb_word.specs.Rewriting.{IsIrreducible, NormalForm}
use Rattle.kb_rules.specs.declared.trace.Step.{Step}
use Rattle.kb_rules.specs.Steps.{IsFirstStep, Leads}
use Rattle.kb_rules.proofs.Exists.{empty_irreducible}
use Rattle.kb_rules.proofs.Tracing.{leads_normal, leads_push, step_falls}
use Rattle.kb_index.specs.Automata.{AreStatesAlong}
use Rattle.kb_index.proofs.Fronts.{states_first}
use Rattle.kb_index.proofs.reading.trace.Goals as goal

pub loop-steps-init : goal.loop-steps-init
loop-steps-init c =
    let rules = c.args.list.now.rules in
    let words = c.args.automaton.now.words in
    let workspace = c.start.new.workspace in
    let whole : workspace.front ++ workspace.unread ≡ c.args.w.now =
    ap (λ w. w ++ workspace.unread) c.in_ok-start.ensures.front ∙ c.in_ok-start.ensures.unread in
    let L : List Step → Type 0 = λ steps. Leads (IsFirstStep rules) c.args.w.now steps (workspace.front ++ workspace.unread) in
    let S : List ℕ → Type 0 = λ ss. AreStatesAlong words [] ss in
    let T : List ℕ → Type 0 = λ w. AreStatesAlong words w workspace.states.items in
    record {
      states = subst T (sym c.in_ok-start.ensures.front) (subst S (sym c.in_ok-start.ensures.states) (states_first words c.states-states.ensures.words));
      irreducible =
          subst (IsIrreducible (OneOf rules)) (sym c.in_ok-start.ensures.front)
          (empty_irreducible (word_orders c.args.list.now.order) rules c.as_slice-rules.ensures.decreasing);
      range = subst (λ (v : List ℕ). All (λ x. x < 2 ^ 16) v) (sym whole) c.start.ensures.range;
      leads = subst L (sym c.new-steps.ensures.items) (sym whole);
    }

pub loop-steps-smaller : goal.loop-steps-smaller
loop-steps-smaller c =
    let step = rw c.in-Some.is at c.in_ok-step.ensures.some in
    let range = rw c.in-Some.is at c.in_ok-step.ensures.range in
    step_falls c.args.list.now.order c.as_slice-rules.ensures.decreasing step c.loop-steps.invariant.range range

pub loop-steps-preserved : goal.loop-steps-preserved
loop-steps-preserved c =
    let allowed = IsFirstStep c.args.list.now.rules in
    let before = c.loop-steps.workspace.front ++ c.loop-steps.workspace.unread in
    let after = c.next_step.new.workspace.front ++ c.next_step.new.workspace.unread in
    let step : allowed before c.in-Some.step after = rw c.in-Some.is at c.in_ok-step.ensures.some in
    let range = rw c.in-Some.is at c.in_ok-step.ensures.range in
    let L : List Step → Type 0 = λ steps. Leads allowed c.args.w.now steps after in
    record {
      states = c.in_ok-step.ensures.states;
      irreducible = c.in_ok-step.ensures.irreducible;
      range = range;
      leads =
          subst L (sym c.in_ok-push.ensures.items)
          (leads_push allowed c.args.w.now c.loop-steps.steps.items before c.in-Some.step after c.loop-steps.invariant.leads step);
    }

pub returns-clause-steps : goal.returns-clause-steps
returns-clause-steps c =
    let read = rw c.in_default.is at c.in_ok-step.ensures.none in
    let L : List ℕ → Type 0 = λ v. Leads (IsFirstStep c.args.list.now.rules) c.args.w.now c.loop-steps.steps.items v in
    subst L (sym c.in_ok-word.ensures) (subst L (sym read) c.loop-steps.invariant.leads)

pub returns-clause-normal : goal.returns-clause-normal
returns-clause-normal c =
    let read = rw c.in_default.is at c.in_ok-step.ensures.none in
    let L : List ℕ → Type 0 = λ v. Leads (IsFirstStep c.args.list.now.rules) c.args.w.now c.loop-steps.steps.items v in
    let N : List ℕ → Type 0 = λ v. NormalForm c.args.list.now.rules c.args.w.now v in
    subst N (sym c.in_ok-word.ensures)
    (leads_normal c.args.w.now c.loop-steps.steps.items c.next_step.new.workspace.front (subst L (sym read) c.loop-steps.invariant.leads)
    c.in_ok-step.ensures.irreducible)
