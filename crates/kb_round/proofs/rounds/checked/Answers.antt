use Rattle.std.proofs.Common.{◌≡◌, ℕ, List, refl, sym, ◌∙◌, subst}
use Rattle.kb_word.specs.Words.{Pair as Sides}
use Rattle.kb_word.specs.Relations.{relations_of}
use Rattle.kb_word.specs.declared.presentation.Presentation.{Presentation}
use Rattle.kb_fsa.specs.Language.{Automaton}
use Rattle.kb_relations.specs.Acts.{AreOver}
use Rattle.kb_axioms.specs.Answered.{checked_in}
use Rattle.kb_axioms.specs.Checked.{AutomataSay, checked_of}
use Rattle.kb_axioms.specs.declared.answers.Automata.{Automata}
use Rattle.kb_axioms.specs.declared.answers.Automata.TheVariants.{No, Pass, TooManyStates}
use Rattle.kb_axioms.proofs.Presented.{over}
use Rattle.kb_round.specs.Rounds.IsCounted.{check}
use Rattle.kb_round.proofs.DifferenceStructures.{has_equality, own_structure_made}
use Rattle.kb_round.specs.Rounds.{ShowsEquality}
use Rattle.kb_round.specs.Figures.IsChecked.{own, refuted, counted}
use Rattle.kb_round.proofs.rounds.checked.Goals as goal

-- what is answered of the automata, by the names that the round has for them
said : (presentation : Presentation) (acceptor : Automaton) (multipliers own_multipliers : List Automaton) (relations : List Sides) (limit : ℕ)
    (answer own_answer : Automata) → own_multipliers ≡ multipliers → relations ≡ relations_of presentation.inv presentation.eqs → answer ≡ own_answer
    → AutomataSay (checked_of acceptor own_multipliers relations limit) answer → AutomataSay (checked_in presentation acceptor multipliers limit) own_answer
said presentation acceptor multipliers own_multipliers relations limit answer own_answer same_multipliers same_relations same says =
    let M : List Automaton → Type 0 = λ these. AutomataSay (checked_of acceptor these relations limit) answer in
    let R : List Sides → Type 0 = λ these. AutomataSay (checked_of acceptor multipliers these limit) answer in
    let A : Automata → Type 0 = λ this. AutomataSay (checked_in presentation acceptor multipliers limit) this in
    subst A same (subst R same_relations (subst M same_multipliers says))

pub check_automata-requires-clause-over : goal.check_automata-requires-clause-over
check_automata-requires-clause-over g c κs within =
    let structure = c.args.structure in
    let P : List Sides → Type 0 = λ relations. AreOver structure.acceptor relations in
    subst P (sym (c.deref-2.ensures.value ∙ c.in_ok-relations.ensures))
    (over c.args.presentation.now structure.acceptor structure.multipliers.items c.requires.made.accepts.alphabet)

pub equality_of-requires : goal.equality_of-requires
equality_of-requires g c =
    let presentation = c.args.presentation.now in
    let structure = c.args.structure in
    let given = c.args.differences.now in
    has_equality presentation given.group.rules given.words structure.acceptor structure.multipliers.items c.requires.made
    c.alphabet-alphabet.ensures.automaton c.args.limit c.in-No.cert
    (said presentation structure.acceptor structure.multipliers.items c.deref.result.now c.deref-2.result.now c.args.limit
    c.in_ok-check_automata.field-0 (No c.in-No.cert) c.deref.ensures.value (c.deref-2.ensures.value ∙ c.in_ok-relations.ensures) c.in-No.is
    c.in_ok-check_automata.ensures)

pub axiom_of-broken-requires : goal.axiom_of-broken-requires
axiom_of-broken-requires g c =
    let presentation = c.args.presentation.now in
    let structure = c.args.structure in
    let given = c.args.differences.now in
    has_equality presentation given.group.rules given.words structure.acceptor structure.multipliers.items c.requires.made
    c.alphabet-alphabet.ensures.automaton c.args.limit c.in-No.cert
    (said presentation structure.acceptor structure.multipliers.items c.deref.result.now c.deref-2.result.now c.args.limit
    c.in_ok-check_automata.field-0 (No c.in-No.cert) c.deref.ensures.value (c.deref-2.ensures.value ∙ c.in_ok-relations.ensures) c.in-No.is
    c.in_ok-check_automata.ensures)

pub returns-in-Pass-clause-says : goal.returns-in-Pass-clause-says
returns-in-Pass-clause-says g c =
    let presentation = c.args.presentation.now in
    let structure = c.args.structure in
    let given = c.args.differences.now in
    own_structure_made presentation given.group.rules given.words structure.acceptor structure.multipliers.items c.requires.made
    c.args.limit c.requires.shortlex c.requires.sides
    (said presentation structure.acceptor structure.multipliers.items c.deref.result.now c.deref-2.result.now c.args.limit
    c.in_ok-check_automata.field-0 Pass c.deref.ensures.value (c.deref-2.ensures.value ∙ c.in_ok-relations.ensures) c.in-Pass.is
    c.in_ok-check_automata.ensures)

pub returns-in-TooManyStates-clause-says : goal.returns-in-TooManyStates-clause-says
returns-in-TooManyStates-clause-says g c =
    let presentation = c.args.presentation.now in
    let structure = c.args.structure in
    let given = c.args.differences.now in
    check c.requires.made
    (said presentation structure.acceptor structure.multipliers.items c.deref.result.now c.deref-2.result.now c.args.limit
    c.in_ok-check_automata.field-0 (TooManyStates c.in-TooManyStates.which) c.deref.ensures.value
    (c.deref-2.ensures.value ∙ c.in_ok-relations.ensures) c.in-TooManyStates.is c.in_ok-check_automata.ensures)

pub returns-in-Pass-clause-broken : goal.returns-in-Pass-clause-broken
returns-in-Pass-clause-broken g c = own refl refl

pub returns-in_ok-equality-in-No-clause-broken : goal.returns-in_ok-equality-in-No-clause-broken
returns-in_ok-equality-in-No-clause-broken g c =
    let presentation = c.args.presentation.now in
    let structure = c.args.structure in
    let Shows : List Sides → Type 0 = λ rules. ShowsEquality rules c.in-No.cert c.in_ok-equality-in-No.equality in
    refuted
    (said presentation structure.acceptor structure.multipliers.items c.deref.result.now c.deref-2.result.now c.args.limit
    c.in_ok-check_automata.field-0 (No c.in-No.cert) c.deref.ensures.value (c.deref-2.ensures.value ∙ c.in_ok-relations.ensures) c.in-No.is
    c.in_ok-check_automata.ensures)
    (subst Shows c.reducer.ensures c.in_ok-equality-in-No.ensures) c.axiom_of-broken.ensures

pub returns-in-TooManyStates-clause-broken : goal.returns-in-TooManyStates-clause-broken
returns-in-TooManyStates-clause-broken g c = counted
