use Rattle.std.proofs.Common.{◌≡◌, ℕ, Err, sym, ap, ◌∙◌, subst, rules}
use Rattle.kb_fsa.specs.Language.{Automaton, IsAutomaton, SameLanguage, generators}
use Rattle.kb_fsa.specs.declared.alphabet.Alphabet.TheVariants.{Pair}
use Rattle.kb_explore.specs.declared.det.Det.TheVariants.{TooManyStates}
use Rattle.kb_minkb.specs.Rules.{HasPairPlace}
use Rattle.kb_minkb.specs.RuleMachine as rule_machine
use Rattle.kb_minkb.proofs.Items.{states_counted}
use Rattle.kb_minkb.proofs.RuleFollowing.{leads_to_pair_place}
use Rattle.kb_minkb.proofs.RuleLanguages.{structure_from, rule_automaton, rule_language}
use Rattle.kb_minkb.proofs.rules.minkb.Goals as goal

pub returns-in_err-exploration-clause-many : goal.returns-in_err-exploration-clause-many
returns-in_err-exploration-clause-many c = λ most e.
    let acceptor = c.args.acceptor.now in
    let multipliers = c.args.multipliers.now in
    let given = structure_from c.requires.fit c.alphabet.ensures.automaton c.in_ok-initial.ensures.automata in
    let same : c.in_err-exploration.field-0.0 ≡ TooManyStates most = search rules in
    let many = c.in_err-exploration.ensures.many most (ap Err same) in
    (many.0, (states_counted (rule_machine.rules acceptor multipliers) (HasPairPlace acceptor multipliers) (leads_to_pair_place given) c.args.limit).0 many.1)

pub new-rules-requires : goal.new-rules-requires
new-rules-requires c =
    let acceptor = c.args.acceptor.now in
    let given = structure_from c.requires.fit c.alphabet.ensures.automaton c.in_ok-initial.ensures.automata in
    let n = c.generators.ensures ∙ ap generators c.alphabet.ensures.alphabet in
    let P : ℕ → Type 0 = λ k. IsAutomaton (record { alphabet = Pair k; table = c.in_ok-exploration.exploration.table }) in
    subst P (sym n) (rule_automaton given c.in_ok-exploration.ensures.explored c.in_ok-exploration.ensures.symbols)

pub returns-clause-few : goal.returns-clause-few
returns-clause-few c = λ ok more.
    let acceptor = c.args.acceptor.now in
    let multipliers = c.args.multipliers.now in
    let given = structure_from c.requires.fit c.alphabet.ensures.automaton c.in_ok-initial.ensures.automata in
    c.in_ok-exploration.ensures.few ok
    ((states_counted (rule_machine.rules acceptor multipliers) (HasPairPlace acceptor multipliers) (leads_to_pair_place given) c.args.limit).1 more)

pub returns-clause-language : goal.returns-clause-language
returns-clause-language c = λ each.
    let acceptor = c.args.acceptor.now in
    let given = structure_from c.requires.fit c.alphabet.ensures.automaton c.in_ok-initial.ensures.automata in
    let table = c.in_ok-exploration.exploration.table in
    let made = c.in_ok-canonical.field-0 in
    let P : Automaton → Type 0 = λ automaton. SameLanguage automaton made in
    let count : c.generators.result ≡ generators acceptor.alphabet = c.generators.ensures ∙ ap generators c.alphabet.ensures.alphabet in
    let explored : c.new-rules.result ≡ record { alphabet = Pair (generators acceptor.alphabet); table = table } =
    c.new-rules.ensures ∙ ap (λ (n : ℕ). record { alphabet = Pair n; table = table }) count in
    let alphabet : made.alphabet ≡ Pair (generators acceptor.alphabet) =
    c.in_ok-canonical.ensures.alphabet ∙ ap (λ (automaton : Automaton). automaton.alphabet) explored in
    rule_language given c.in_ok-exploration.ensures.explored each made alphabet (subst P explored c.in_ok-canonical.ensures.language)
