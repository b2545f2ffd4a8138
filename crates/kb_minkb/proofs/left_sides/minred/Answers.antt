use Rattle.std.proofs.Common.{◌≡◌, Err, sym, ap, ◌∙◌, subst, rules}
use Rattle.kb_fsa.specs.Language.{Automaton, IsAutomaton, SameLanguage}
use Rattle.kb_fsa.specs.declared.alphabet.Alphabet.{Alphabet}
use Rattle.kb_explore.specs.declared.det.Det.TheVariants.{TooManyStates}
use Rattle.kb_minkb.specs.LeftSides.{HasPlace}
use Rattle.kb_minkb.specs.LeftMachine.{left_sides}
use Rattle.kb_minkb.proofs.Items.{states_counted}
use Rattle.kb_minkb.proofs.Places.{IsOfWords, leads_to_place}
use Rattle.kb_minkb.proofs.LeftLanguages.{left_automaton, left_language}
use Rattle.kb_minkb.proofs.left_sides.minred.Goals as goal

pub returns-in_err-exploration-clause-many : goal.returns-in_err-exploration-clause-many
returns-in_err-exploration-clause-many c = λ most e.
    let acceptor = c.args.acceptor.now in
    let given : IsOfWords acceptor = record { is = c.alphabet-alphabet.ensures.automaton; plain = c.requires.plain } in
    let same : c.in_err-exploration.field-0.0 ≡ TooManyStates most = search rules in
    let many = c.in_err-exploration.ensures.many most (ap Err same) in
    (many.0, (states_counted (left_sides acceptor) (HasPlace acceptor) (leads_to_place given) c.args.limit).0 many.1)

pub new-left_sides-requires : goal.new-left_sides-requires
new-left_sides-requires c =
    let acceptor = c.args.acceptor.now in
    let given : IsOfWords acceptor = record { is = c.alphabet-alphabet.ensures.automaton; plain = c.requires.plain } in
    let P : Alphabet → Type 0 = λ alphabet. IsAutomaton (record { alphabet = alphabet; table = c.in_ok-exploration.exploration.table }) in
    subst P (sym c.alphabet-alphabet.ensures.alphabet)
    (left_automaton given c.in_ok-exploration.ensures.explored c.in_ok-exploration.ensures.symbols)

pub returns-clause-few : goal.returns-clause-few
returns-clause-few c = λ ok more.
    let acceptor = c.args.acceptor.now in
    let given : IsOfWords acceptor = record { is = c.alphabet-alphabet.ensures.automaton; plain = c.requires.plain } in
    c.in_ok-exploration.ensures.few ok ((states_counted (left_sides acceptor) (HasPlace acceptor) (leads_to_place given) c.args.limit).1 more)

pub returns-clause-language : goal.returns-clause-language
returns-clause-language c = λ each.
    let acceptor = c.args.acceptor.now in
    let given : IsOfWords acceptor = record { is = c.alphabet-alphabet.ensures.automaton; plain = c.requires.plain } in
    let table = c.in_ok-exploration.exploration.table in
    let made = c.in_ok-canonical.field-0 in
    let P : Automaton → Type 0 = λ automaton. SameLanguage automaton made in
    let explored : c.new-left_sides.result ≡ record { alphabet = acceptor.alphabet; table = table } =
    c.new-left_sides.ensures ∙ ap (λ (alphabet : Alphabet). record { alphabet = alphabet; table = table }) c.alphabet-alphabet.ensures.alphabet in
    left_language given c.in_ok-exploration.ensures.explored each made (subst P explored c.in_ok-canonical.ensures.language)
