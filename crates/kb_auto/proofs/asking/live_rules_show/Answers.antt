use Rattle.std.proofs.Common.{List, sym, subst}
use Rattle.kb_word.specs.Words.{Pair as Sides}
use Rattle.kb_word.specs.Relations.{relations_of}
use Rattle.kb_labels.specs.Labels.{AreEqualSides}
use Rattle.kb_auto.specs.Deciding.{AreUnresolvedBy}
use Rattle.kb_auto.proofs.Decisions.{live_sides_are_equal}
use Rattle.kb_auto.proofs.asking.live_rules_show.Goals as goal

pub are_true-requires-clause-rules : goal.are_true-requires-clause-rules
are_true-requires-clause-rules g c =
    let presentation = c.args.presentation.now in
    let course = c.args.book.now.course in
    let relations = relations_of presentation.inv presentation.eqs in
    let P : List Sides → Type 0 = λ rules. AreEqualSides relations rules in
    subst P (sym c.reducer.ensures.rules)
    (live_sides_are_equal course.problem course.state relations c.book_is_sound.ensures c.requires.relations)

pub returns-clause-open : goal.returns-clause-open
returns-clause-open g c = λ no.
    let P : List Sides → Type 0 = λ rules. AreUnresolvedBy c.args.presentation.now rules c.args.multipliers.now in
    subst P c.reducer.ensures.rules (c.are_true.ensures.open no)
