use Rattle.std.proofs.Common.{List, Ok, sym, ap, subst}
use Rattle.kb_word.specs.Words.{Pair as Sides}
use Rattle.kb_word.specs.Relations.{relations_of}
use Rattle.kb_labels.specs.Labels.{AreEqualSides}
use Rattle.kb_axioms.specs.Truth.{AreConfluentRulesOf}
use Rattle.kb_auto.proofs.asking.decide_by_complete.Goals as goal

pub check_truth-requires-clause-confluent : goal.check_truth-requires-clause-confluent
check_truth-requires-clause-confluent c = λ _.
    let presentation = c.args.presentation.now in
    let relations = relations_of presentation.inv presentation.eqs in
    let complete = c.reduced_complete_systems_are_complete.ensures.complete presentation.order relations c.args.rules.now.rules c.requires.reduced in
    let P : List Sides → Type 0 = λ rules. AreConfluentRulesOf presentation rules in
    subst P (sym c.in_ok-reducer.ensures.rules) (record { confluent = complete.confluent; same = complete.same })

pub returns-in-True : goal.returns-in-True
returns-in-True c = λ limits acceptor same.
    let presentation = c.args.presentation.now in
    let relations = relations_of presentation.inv presentation.eqs in
    let complete = c.reduced_complete_systems_are_complete.ensures.complete presentation.order relations c.args.rules.now.rules c.requires.reduced in
    let P : List Sides → Type 0 = λ rules. AreEqualSides relations rules in
    c.in_ok-check_truth.ensures.sound (ap Ok c.in-True.is)
    (subst P (sym c.in_ok-reducer.ensures.rules) complete.same.covers) acceptor same

pub returns-in-Different : goal.returns-in-Different
returns-in-Different c = λ limits. (rw c.in-Different.is at c.in_ok-check_truth.ensures.says).1
