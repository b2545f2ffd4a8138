use Rattle.std.proofs.Common.{◌≡◌, ℕ, ◌+◌, [], ◌∷◌, ◌++◌, sym, ap, ◌∙◌, subst}
use Rattle.kb_minkb.specs.Progress.{AreInitialStates}
use Rattle.kb_minkb.proofs.Gathered.{initial_states_more}
use Rattle.kb_minkb.proofs.rules.initial_states.Goals as goal

pub loop-multiplier-preserved : goal.loop-multiplier-preserved
loop-multiplier-preserved c =
    let multiplier = c.multiplier-item.result in
    let states = c.loop-multiplier.states.items in
    let more : c.push.new.self.items ≡ states ++ multiplier.table.initial ∷ [] =
    c.in_ok-push.ensures.items ∙ ap (λ (state : ℕ). states ++ state ∷ []) c.initial-in-loop-multiplier-2.ensures in
    subst (AreInitialStates c.args.multipliers.now (c.loop-multiplier.multiplier-index + 1)) (sym more)
    (initial_states_more c.loop-multiplier.invariant multiplier c.loop-multiplier-test.true c.multiplier-item.is c.table.ensures.automaton)
