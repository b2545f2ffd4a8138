-- The rules of a search, with the log that they come from.
use Rattle.std.proofs.Common.{◌≡◌, List, true, false, sym, ap, ◌∙◌, subst}
use Rattle.kb_word.specs.Words.{Pair}
use Rattle.kb_word.specs.Congruence.{SameCongruence}
use Rattle.kb_word.specs.Overlap.{IsConfluent}
use Rattle.kb_word.specs.Presentations.{parts_of}
use Rattle.kb_word.specs.Relations.{relations_of}
use Rattle.kb_word.specs.declared.presentation.Presentation.{Presentation}
use Rattle.kb_word.specs.declared.word_order.WordOrder.{WordOrder}
use Rattle.kb_machine.specs.Course.{IsSound}
use Rattle.kb_machine.specs.Justified.{IsJustified}
use Rattle.kb_machine.specs.Lines.{rules_of}
use Rattle.kb_machine.specs.States.{Problem, State, below as below_in, live_rules}
use Rattle.kb_machine.specs.declared.line.Line.{Line}
use Rattle.kb_system.specs.Completed.{IsReducedSystem, below, relations}
use Rattle.kb_system.specs.Evidence.{AreLiveRules, Limits}
use Rattle.kb_system.specs.Problems.{problem_of}
use Rattle.kb_auto.specs.Autgroup.{AreRulesOfLog, complete, live}

module _ (limits : Limits) (presentation : Presentation) (problem : Problem) (state : State) (lines : List Line) (rules : List Pair)
    (same : problem ≡ problem_of limits (parts_of presentation)) where
  -- the order of the rules
  pub order_given : (order : WordOrder) → order ≡ problem.order → order ≡ presentation.order
  order_given order is = is ∙ ap (λ (p : Problem). p.order) same

  module _ (sound : IsSound problem state) (are_lines : lines ≡ state.lines) where
    log_is_justified : IsJustified (below (parts_of presentation)) (relations (parts_of presentation)) lines
    log_is_justified =
        let P : Problem → Type 0 = λ p. IsJustified (below_in p) p.relations state.lines in
        let L : List Line → Type 0 = λ l. IsJustified (below (parts_of presentation)) (relations (parts_of presentation)) l in
        subst L (sym are_lines) (subst P same sound.justified)

    -- live rules
    pub log_of_live : rules ≡ live_rules state → AreLiveRules state.lines (live_rules state)
        → SameCongruence (relations_of presentation.inv presentation.eqs) (live_rules state)
        → AreRulesOfLog (parts_of presentation) lines rules false
    log_of_live are_rules are_live congruence =
        let L : List Line → Type 0 = λ l. AreLiveRules l rules in
        let R : List Pair → Type 0 = λ r. AreLiveRules state.lines r in
        let C : List Pair → Type 0 = λ r. SameCongruence (relations (parts_of presentation)) r in
        live log_is_justified (subst L (sym are_lines) (subst R (sym are_rules) are_live)) (subst C (sym are_rules) congruence)

    -- the reduced complete system, where the rules of all lines are complete
    pub log_of_complete : IsConfluent (rules_of state.lines) → SameCongruence problem.relations (rules_of state.lines)
        → IsReducedSystem (parts_of presentation) rules → AreRulesOfLog (parts_of presentation) lines rules true
    log_of_complete confluent congruence reduced =
        let C : List Line → Type 0 = λ l. IsConfluent (rules_of l) in
        let S : List Line → Type 0 = λ l. SameCongruence (relations (parts_of presentation)) (rules_of l) in
        let P : Problem → Type 0 = λ p. SameCongruence p.relations (rules_of state.lines) in
        complete log_is_justified (subst C (sym are_lines) confluent) (subst S (sym are_lines) (subst P same congruence)) reduced
