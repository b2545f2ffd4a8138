use Rattle.std.proofs.Common.{List, sym, ◌∙◌, subst, rules}
use Rattle.kb_word.specs.Words.{Pair}
use Rattle.kb_relations.specs.Acts.{AreOver}
use Rattle.kb_axioms.specs.Answered.IsFirstOfAll.{of_automata}
use Rattle.kb_axioms.specs.Checked.{IsFirstCertificate, PassesRelations, checked_of}
use Rattle.kb_axioms.proofs.Presented.{found_by_any, over, own}
use Rattle.kb_axioms.proofs.checking.check.Goals as goal

pub check_automata-requires-clause-over : goal.check_automata-requires-clause-over
check_automata-requires-clause-over g c κs within =
    let P : List Pair → Type 0 = λ relations. AreOver c.args.acceptor.now relations in
    subst P (sym (c.deref.ensures.value ∙ c.in_ok-relations.ensures))
    (over c.args.presentation.now c.args.acceptor.now c.args.multipliers.now c.requires.acceptor)

pub returns-in-Pass-clause-says : goal.returns-in-Pass-clause-says
returns-in-Pass-clause-says g c =
    let acceptor = c.args.acceptor.now in
    let multipliers = c.args.multipliers.now in
    let P : List Pair → Type 0 = λ relations. PassesRelations (checked_of acceptor multipliers relations c.args.limit) in
    let passes = rw c.in-Pass.is at c.in_ok-check_automata.ensures in
    c.answer_of.ensures.says c.args.presentation.now (g.R.Reducer.rules c.args.reducer.now) c.args.confluent acceptor multipliers c.args.limit
    c.requires.shortlex c.requires.acceptor (subst P (c.deref.ensures.value ∙ c.in_ok-relations.ensures) passes) c.in_ok-truth-in-Pass.ensures.says

pub returns-in-Pass-clause-own : goal.returns-in-Pass-clause-own
returns-in-Pass-clause-own g c ok equal =
    let presentation = c.args.presentation.now in
    let acceptor = c.args.acceptor.now in
    let multipliers = c.args.multipliers.now in
    let P : List Pair → Type 0 = λ relations. PassesRelations (checked_of acceptor multipliers relations c.args.limit) in
    let passes = rw c.in-Pass.is at c.in_ok-check_automata.ensures in
    own presentation acceptor multipliers c.requires.acceptor c.args.limit c.requires.shortlex
    (subst P (c.deref.ensures.value ∙ c.in_ok-relations.ensures) passes)
    (c.in_ok-truth-in-Pass.ensures.sound (search rules) equal acceptor (search rules))

pub returns-in-No-clause-says : goal.returns-in-No-clause-says
returns-in-No-clause-says g c =
    let P : List Pair → Type 0 =
    λ relations. IsFirstCertificate (checked_of c.args.acceptor.now c.args.multipliers.now relations c.args.limit) c.in-No.cert in
    let first = subst P (c.deref.ensures.value ∙ c.in_ok-relations.ensures) (rw c.in-No.is at c.in_ok-check_automata.ensures) in
    (of_automata first, found_by_any c.args.confluent first)
