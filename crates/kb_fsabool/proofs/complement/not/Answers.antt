use Rattle.std.proofs.Common.{◌≡◌, Err, sym, ap, subst, rules}
use Rattle.kb_fsa.specs.declared.alphabet.Alphabet.{Alphabet}
use Rattle.kb_fsa.specs.Table.{Table}
use Rattle.kb_fsa.specs.Language.{IsAutomaton}
use Rattle.kb_explore.specs.declared.det.Det.TheVariants.{TooManyStates}
use Rattle.kb_fsabool.specs.Answers.{IsComplement}
use Rattle.kb_fsabool.proofs.ComplementLemmas.{places_counted, complement_automaton, complement_language}
use Rattle.kb_fsabool.proofs.complement.not.Goals as goal

pub returns-in_err-exploration-clause-many : goal.returns-in_err-exploration-clause-many
returns-in_err-exploration-clause-many c = λ most e.
    let same : c.in_err-exploration.field-0.0 ≡ TooManyStates most = search rules in
    let many = c.in_err-exploration.ensures.many most (ap Err same) in
    (many.0, (places_counted c.args.fsa.now c.args.limit).0 many.1)

pub new-requires : goal.new-requires
new-requires c =
    let automaton = c.args.fsa.now in
    let is = complement_automaton automaton c.in_ok-exploration.ensures.explored c.alphabet.ensures.automaton c.in_ok-exploration.ensures.symbols in
    let P : Alphabet → Type 0 = λ alphabet. IsAutomaton (record { alphabet = alphabet; table = c.in_ok-exploration.exploration.table }) in
    subst P (sym c.alphabet.ensures.alphabet) is

pub returns-clause-language : goal.returns-clause-language
returns-clause-language c =
    let automaton = c.args.fsa.now in
    let P : Table → Type 0 = λ table. IsComplement automaton (record { alphabet = automaton.alphabet; table = table }) in
    subst P (ap (λ fsa. fsa.table) (sym c.new.ensures)) (complement_language automaton c.in_ok-exploration.ensures.explored)

pub returns-clause-few : goal.returns-clause-few
returns-clause-few c = λ ok more. c.in_ok-exploration.ensures.few ok ((places_counted c.args.fsa.now c.args.limit).1 more)
