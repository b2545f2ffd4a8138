use Rattle.std.proofs.Common.{List, sym, ◌∙◌, subst}
use Rattle.kb_word.specs.Words.{Pair as Sides}
use Rattle.kb_relations.specs.Acts.{AreOver}
use Rattle.kb_auto.proofs.Decisions.{relations_are_over, they_fit}
use Rattle.kb_auto.proofs.deciding.check_alone.Goals as goal

pub check_automata-requires-clause-fit : goal.check_automata-requires-clause-fit
check_automata-requires-clause-fit g c κs within =
    they_fit c.args.presentation.now c.args.acceptor.now c.args.multipliers.now c.requires.acceptor c.requires.multipliers

pub check_automata-requires-clause-over : goal.check_automata-requires-clause-over
check_automata-requires-clause-over g c κs within =
    let P : List Sides → Type 0 = λ relations. AreOver c.args.acceptor.now relations in
    subst P (sym (c.deref.ensures.value ∙ c.in_ok-relations.ensures))
    (relations_are_over c.args.presentation.now c.args.acceptor.now c.args.multipliers.now c.requires.acceptor)
