use Rattle.std.proofs.Common.{◌≡◌, ◌<◌, ◌^◌, [], ◌++◌, All, ℕ, List, subst, sym, ap, ◌∙◌}
use Rattle.kb_word.specs.Words.{OneOf}
use Rattle.kb_word.specs.WordOrderLaws.{word_orders}
use Rattle.kb_word.specs.Rewriting.{IsIrreducible, NormalForm}
use Rattle.kb_rules.proofs.Exists.{empty_irreducible}
use Rattle.kb_rules.proofs.Tracing.{step_falls}
use Rattle.kb_rules.proofs.Unique.{normal_form_more}
use Rattle.kb_index.specs.Automata.{AreStatesAlong}
use Rattle.kb_index.proofs.Fronts.{states_first}
use Rattle.kb_index.proofs.reading.reduce.Goals as goal

pub loop-init : goal.loop-init
loop-init c =
    let rules = c.args.list.now.rules in
    let words = c.args.automaton.now.words in
    let workspace = c.start.new.workspace in
    let whole : workspace.front ++ workspace.unread ≡ c.args.w.now =
    ap (λ w. w ++ workspace.unread) c.in_ok-start.ensures.front ∙ c.in_ok-start.ensures.unread in
    let S : List ℕ → Type 0 = λ ss. AreStatesAlong words [] ss in
    let T : List ℕ → Type 0 = λ w. AreStatesAlong words w workspace.states.items in
    record {
      states = subst T (sym c.in_ok-start.ensures.front) (subst S (sym c.in_ok-start.ensures.states) (states_first words c.states-states.ensures.words));
      irreducible =
          subst (IsIrreducible (OneOf rules)) (sym c.in_ok-start.ensures.front)
          (empty_irreducible (word_orders c.args.list.now.order) rules c.as_slice-rules.ensures.decreasing);
      range = subst (λ (v : List ℕ). All (λ x. x < 2 ^ 16) v) (sym whole) c.start.ensures.range;
      leads = λ m normal. subst (λ (v : List ℕ). NormalForm rules v m) whole normal;
    }

pub loop-smaller : goal.loop-smaller
loop-smaller c =
    let step = rw c.in-Some.is at c.in_ok-next_step.ensures.some in
    let range = rw c.in-Some.is at c.in_ok-next_step.ensures.range in
    step_falls c.args.list.now.order c.as_slice-rules.ensures.decreasing step c.loop.invariant.range range

pub loop-preserved : goal.loop-preserved
loop-preserved c =
    let step = rw c.in-Some.is at c.in_ok-next_step.ensures.some in
    let range = rw c.in-Some.is at c.in_ok-next_step.ensures.range in
    record {
      states = c.in_ok-next_step.ensures.states;
      irreducible = c.in_ok-next_step.ensures.irreducible;
      range = range;
      leads = λ m normal. c.loop.invariant.leads m (normal_form_more step.rewrite normal);
    }
