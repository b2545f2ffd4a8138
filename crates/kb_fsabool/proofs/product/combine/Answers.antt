use Rattle.std.proofs.Common.{◌≡◌, Err, sym, ap, subst, rules}
use Rattle.kb_fsa.specs.Table.{Table}
use Rattle.kb_fsa.specs.Language.{IsAutomaton}
use Rattle.kb_fsa.specs.declared.alphabet.Alphabet.{Alphabet}
use Rattle.kb_explore.specs.declared.det.Det.TheVariants.{TooManyStates}
use Rattle.kb_fsabool.specs.Products.{IsCombination}
use Rattle.kb_fsabool.proofs.ProductLemmas.{states_counted, product_automaton, product_language}
use Rattle.kb_fsabool.proofs.product.combine.Goals as goal

pub returns-in_err-exploration-clause-many : goal.returns-in_err-exploration-clause-many
returns-in_err-exploration-clause-many c = λ most e.
    let same : c.in_err-exploration.field-0.0 ≡ TooManyStates most = search rules in
    let many = c.in_err-exploration.ensures.many most (ap Err same) in
    (many.0, (states_counted c.args.connective c.args.one.now.table c.args.two.now.table c.args.limit).0 many.1)

pub returns-clause-few : goal.returns-clause-few
returns-clause-few c = λ ok more.
    c.in_ok-exploration.ensures.few ok ((states_counted c.args.connective c.args.one.now.table c.args.two.now.table c.args.limit).1 more)

pub new-requires : goal.new-requires
new-requires c =
    let one = c.args.one.now in let two = c.args.two.now in
    let explored = c.in_ok-exploration.ensures.explored in
    let is = product_automaton c.args.connective one two explored c.alphabet-3.ensures.automaton c.alphabet-2.ensures.automaton c.requires
    c.in_ok-exploration.ensures.symbols in
    let P : Alphabet → Type 0 = λ alphabet. IsAutomaton (record { alphabet = alphabet; table = c.in_ok-exploration.exploration.table }) in
    subst P (sym c.alphabet-3.ensures.alphabet) is

pub returns-clause-language : goal.returns-clause-language
returns-clause-language c =
    let one = c.args.one.now in let two = c.args.two.now in
    let P : Table → Type 0 = λ table. IsCombination c.args.connective one two (record { alphabet = one.alphabet; table = table }) in
    subst P (ap (λ fsa. fsa.table) (sym c.new.ensures)) (product_language c.args.connective one two c.in_ok-exploration.ensures.explored)
